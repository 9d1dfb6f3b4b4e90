-- The list of keys as it grows: what a step adds, and that no key is added twice. Of a range that is cut off more are added than the
-- limit. Assumes nothing.
use Rattle.std.specs.Prelude.{ℕ, zero, suc, ◌+◌, ◌-◌, ◌≤◌, ◌<◌, min, ◌≡◌, ◌↔◌, ◌⊎◌, Bool, true, false, List, [], ◌∷◌, ◌++◌, T, eqb, length}
use Rattle.std.proofs.Math.Path.{refl}
use Rattle.std.proofs.Common.{sym, ap, subst, ◌∙◌, inl, inr, ⊎_elim, append-nil, append_assoc, arith, eqb→eq, length-append}
use Rattle.std.proofs.Math.Option.{Option, none, some}
use mathlib.Core.List.Memᴰ
use Rattle.std.proofs.Math.Decide.{ℕ_discrete, dec_le}
use Rattle.sema.specs.Constants.{or0}
use Rattle.text.proofs.Tests.{and_both, or-either}
use Rattle.ast.specs.Tree.{TextNumber}
use Rattle.sema.specs.Limits.{key_limit}
use Rattle.sema.specs.Marks.{Key, key}
use Rattle.sema.specs.Keys.{same_index, same_key, has_key, add_key, add_indices, add_range, add_measured}
use Rattle.sema.specs.LawsLists.{Has, Distinct, has-cons, distinct_snoc, pigeonhole}
use Rattle.sema.specs.LawsMarks.{Named, InSlice, Below, Measures}
use Rattle.sema.proofs.LawsMarks.{eqb-iff, some-eq, not_some}
use Rattle.sema.specs.LawsKeys.{Grown}

pub key-path : (k l : Key) → k.name ≡ l.name → k.index ≡ l.index → k ≡ l
key-path k l p q = λ t. record { name = p t; index = q t }

same_index-iff : (i j : Option ℕ) → T (same_index i j) ↔ (i ≡ j)
unfolding same_index
same_index-iff none none = (λ t. refl, λ e. tt)
same_index-iff none (some j) = (absurd, not_some j)
same_index-iff (some i) none = (absurd, λ e. not_some i (sym e))
same_index-iff (some i) (some j) = (λ t. ap some (eqb→eq i j t), λ e. (eqb-iff i j).1 (some-eq i j e))

pub same_key-iff : (k l : Key) → T (same_key k l) ↔ (k ≡ l)
unfolding same_key
same_key-iff k l =
    let b = and_both (eqb k.name l.name) (same_index k.index l.index) in (
      λ t. key-path k l (eqb→eq k.name l.name (b.0 t).0) ((same_index-iff k.index l.index).0 (b.0 t).1),
      λ e. b.1 ((eqb-iff k.name l.name).1 (ap (λ (h : Key). h.name) e), (same_index-iff k.index l.index).1 (ap (λ (h : Key). h.index) e)),
    )

pub has_key-iff : (ks : List Key) (k : Key) → T (has_key ks k) ↔ Has ks k
unfolding has_key
has_key-iff [] k = (absurd, Memᴰ.not-nil)
has_key-iff (l ∷ ks) k =
    let o = or-either (same_key l k) (has_key ks k) in
    let s = same_key-iff l k in
    let r = has_key-iff ks k in (
      λ t. (has-cons ks l k).0 (⊎_elim (λ u. inl (sym (s.0 u))) (λ u. inr (r.0 u)) (o.0 t)),
      λ h. o.1 (⊎_elim (λ e. inl (s.1 (sym e))) (λ u. inr (r.1 u)) (Memᴰ.cases_cons h)),
    )

module _ (c : ℕ) where
  pub grown_longer : {P : Key → Type 0} {ks ls : List Key} → Grown c P ks ls → length ks ≤ length ls
  grown_longer {ks = ks} g = rw g.behind.1 (simp length-append (omega arith))

  pub grown_old : {P : Key → Type 0} {ks ls : List Key} → Grown c P ks ls → (k : Key) → Has ks k → Has ls k
  grown_old g k h = rw g.behind.1 (Memᴰ.append_left g.behind.0 h)

  pub grown-none : (ks : List Key) → Grown c (λ k. ⊥) ks ks
  grown-none ks = record { distinct = λ d. d; behind = ([], sym (append-nil ks)); only = λ k h. inl h; all = λ k e. absurd e }

  pub grown_as : {P Q : Key → Type 0} {ks ls : List Key} → ((k : Key) → P k ↔ Q k) → Grown c P ks ls → Grown c Q ks ls
  grown_as e g =
      record {
        distinct = g.distinct;
        behind = g.behind;
        only = λ k h. ⊎_elim inl (λ p. inr ((e k).0 p)) (g.only k h);
        all = λ k q. g.all k ((e k).1 q);
      }

  pub grown-both : {P Q : Key → Type 0} {ks ls ms : List Key} → Grown c P ks ls → Grown c Q ls ms → Grown c (λ k. P k ⊎ Q k) ks ms
  grown-both {P} {Q} {ks} {ls} {ms} g h =
      record {
        distinct = λ d. h.distinct (g.distinct d);
        behind = (g.behind.0 ++ h.behind.0, h.behind.1 ∙ rw g.behind.1 (append_assoc ks g.behind.0 h.behind.0));
        only = λ k m. ⊎_elim (λ n. ⊎_elim inl (λ p. inr (inl p)) (g.only k n)) (λ q. inr (inr q)) (h.only k m);
        all = λ k. ⊎_elim (λ p. ⊎_elim (λ m. inl (grown_old h k m)) over (g.all k p)) (h.all k);
      }
    where
      over : {k : Key} → c < length ls → Has ms k ⊎ (c < length ms)
      over l = let b = grown_longer h in inr (omega arith)

  -- a key added
  add_by : (ks : List Key) (k : Key) (b : Bool) → has_key ks k ≡ b → Grown c (λ l. l ≡ k) ks (elim b [ true ↦ ks | false ↦ ks ++ (k ∷ []) ])
  add_by ks k true e =
      record {
        distinct = λ d. d;
        behind = ([], sym (append-nil ks));
        only = λ l h. inl h;
        all = λ l p. inl (rw p ((has_key-iff ks k).0 (subst T (sym e) tt)));
      }
  add_by ks k false e =
      record {
        distinct = λ d. distinct_snoc ks k d (λ h. subst T e ((has_key-iff ks k).1 h));
        behind = (k ∷ [], refl);
        only = λ l h. ⊎_elim inl (λ m. inr (Memᴰ.eq_of_singleton m)) (Memᴰ.append_cases ks h);
        all = λ l p. inl (Memᴰ.append_right ks (Memᴰ.head p));
      }

  pub add_key_lem : (ks : List Key) (k : Key) → Grown c (λ l. l ≡ k) ks (add_key ks k)
  unfolding add_key
  add_key_lem ks k = add_by ks k (has_key ks k) refl

-- so many indices of a name, from i on
pub index_keys : TextNumber → ℕ → ℕ → List Key
index_keys x zero i = []
index_keys x (suc n) i = key x (some i) ∷ index_keys x n (suc i)

pub add_indices_lem : (c : ℕ) (ks : List Key) (x : TextNumber) (n i : ℕ) → Grown c (Has (index_keys x n i)) ks (add_indices ks x n i)
unfolding add_indices index_keys
add_indices_lem c ks x zero i = grown_as c (λ k. (absurd, Memᴰ.not-nil)) (grown-none c ks)
add_indices_lem c ks x (suc n) i =
    grown_as c (has-cons (index_keys x n (suc i)) (key x (some i)))
    (grown-both c (add_key_lem c ks (key x (some i))) (add_indices_lem c (add_key ks (key x (some i))) x n (suc i)))

-- an index of so many, from i on
abbrev Inside : ℕ → ℕ → Option ℕ → Type 0
Inside n i none = ⊥
Inside n i (some j) = (i ≤ j) × (j < i + n)

has-inside : (x n i : ℕ) (k : Key) → Has (index_keys x n i) k → Named x (Inside n i) k
unfolding index_keys
has-inside x zero i k h = absurd (Memᴰ.not-nil h)
has-inside x (suc n) i k h = go (Memᴰ.cases_cons h) (has-inside x n (suc i) k)
  where
    widen : (o : Option ℕ) → Inside n (suc i) o → Inside (suc n) i o
    widen none w = w
    widen (some j) w = omega arith

    here : Inside (suc n) i (some i)
    here = omega arith

    go : (k ≡ key x (some i)) ⊎ Has (index_keys x n (suc i)) k → (Has (index_keys x n (suc i)) k → Named x (Inside n (suc i)) k) → Named x (Inside (suc n) i) k
    go (inl e) below = (ap (λ (l : Key). l.name) e, subst (λ (l : Key). Inside (suc n) i l.index) (sym e) here)
    go (inr m) below = ((below m).0, widen k.index (below m).1)

inside-has : (x n i y : ℕ) (o : Option ℕ) → y ≡ x → Inside n i o → Has (index_keys x n i) (key y o)
unfolding index_keys
inside-has x n i y none e w = absurd w
inside-has x zero i y (some j) e w = absurd (omega arith)
inside-has x (suc n) i y (some j) e w = go (ℕ_discrete j i) (inside-has x n (suc i) y (some j) e)
  where
    go : Dec (j ≡ i) → (Inside n (suc i) (some j) → Has (index_keys x n (suc i)) (key y (some j))) → Has (key x (some i) ∷ index_keys x n (suc i)) (key y (some j))
    go (yes p) below = Memᴰ.head (key-path (key y (some j)) (key x (some i)) e (ap some p))
    go (no n) below = Memᴰ.tail (below (omega arith))

index_keys-iff : (x n i : ℕ) (k : Key) → Has (index_keys x n i) k ↔ Named x (Inside n i) k
index_keys-iff x n i k = (has-inside x n i k, λ h. inside-has x n i k.name k.index h.0 h.1)

index_keys-distinct : (x n i : ℕ) → Distinct (index_keys x n i)
unfolding index_keys
index_keys-distinct x zero i = tt
index_keys-distinct x (suc n) i =
    (λ h. let w : Inside n (suc i) (some i) = (has-inside x n (suc i) (key x (some i)) h).1 in omega arith, index_keys-distinct x n (suc i))

index_keys-length : (x n i : ℕ) → length (index_keys x n i) ≡ n
unfolding index_keys
index_keys-length x zero i = refl
index_keys-length x (suc n) i = ap suc (index_keys-length x n (suc i))

-- with c + 1 indices of a range there are more keys than c
add-over : (c : ℕ) (ks : List Key) (x i : ℕ) → c < length (add_indices ks x (suc c) i)
add-over c ks x i =
    let ls = add_indices ks x (suc c) i in
    let g = add_indices_lem (length ls) ks x (suc c) i in
    let p = pigeonhole (index_keys x (suc c) i) ls (index_keys-distinct x (suc c) i) (λ k h. ⊎_elim (λ m. m) (λ o. absurd (omega arith)) (g.all k h)) in
    let e = index_keys-length x (suc c) i in
    omega arith

-- a range, cut off or not
pub add_range_lem : (ks : List Key) (x i n : ℕ) → Grown key_limit (Named x (Inside n i)) ks (add_range ks x i n)
unfolding add_range
add_range_lem ks x i n = go (dec_le n (suc key_limit))
  where
    within : (m : ℕ) → m ≤ n → (o : Option ℕ) → Inside m i o → Inside n i o
    within m l none w = w
    within m l (some j) w = omega arith

    cut : suc key_limit ≤ n → Grown key_limit (Named x (Inside n i)) ks (add_indices ks x (suc key_limit) i)
    cut l =
        let g = grown_as key_limit (index_keys-iff x (suc key_limit) i) (add_indices_lem key_limit ks x (suc key_limit) i) in
        record {
          distinct = g.distinct;
          behind = g.behind;
          only = λ k h. ⊎_elim inl (λ p. inr (p.0, within (suc key_limit) l k.index p.1)) (g.only k h);
          all = λ k p. inr (add-over key_limit ks x i);
        }

    go : Dec (n ≤ suc key_limit) → Grown key_limit (Named x (Inside n i)) ks (add_indices ks x (min n (suc key_limit)) i)
    go (yes l) =
        let e : min n (suc key_limit) ≡ n = omega arith in
        rw e (grown_as key_limit (index_keys-iff x n i) (add_indices_lem key_limit ks x n i))
    go (no l) =
        let e : min n (suc key_limit) ≡ suc key_limit = omega arith in
        rw e (cut (omega arith))

-- the keys that a measure of an operand sets
inside-slice : (r : ℕ × ℕ) (o : Option ℕ) → Inside (suc r.1 - r.0) r.0 o ↔ InSlice r o
inside-slice r none = (λ w. w, λ w. w)
inside-slice r (some j) = (λ w. omega arith, λ w. omega arith)

inside-size : (size o : Option ℕ) → (o ≡ none) ⊎ Inside (or0 size) 0 o ↔ Below size o
inside-size size none = (λ w. tt, λ w. inl refl)
inside-size none (some j) = (⊎_elim (λ e. not_some j (sym e)) (λ w. omega arith), absurd)
inside-size (some n) (some j) = (⊎_elim (λ e. absurd (not_some j (sym e))) (λ w. omega arith), λ l. inr (omega arith))

pub add_measured_lem : (ks : List Key) (x : TextNumber) (size : Option ℕ) (slice : Option (ℕ × ℕ)) (index : Option ℕ) → Grown key_limit (Named x (Measures size slice index)) ks (add_measured ks x size slice index)
unfolding add_measured
add_measured_lem ks x size (some r) index =
    grown_as key_limit (λ k. let e = inside-slice r k.index in (λ h. (h.0, e.0 h.1), λ h. (h.0, e.1 h.1)))
    (add_range_lem ks x r.0 (suc r.1 - r.0))
add_measured_lem ks x size none (some i) =
    grown_as key_limit (λ k. (λ e. (ap (λ (l : Key). l.name) e, ap (λ (l : Key). l.index) e), λ h. key-path k (key x (some i)) h.0 h.1))
    (add_key_lem key_limit ks (key x (some i)))
add_measured_lem ks x size none none =
    grown_as key_limit whole (grown-both key_limit (add_key_lem key_limit ks (key x none)) (add_range_lem (add_key ks (key x none)) x 0 (or0 size)))
  where
    whole : (k : Key) → (k ≡ key x none) ⊎ Named x (Inside (or0 size) 0) k ↔ Named x (Below size) k
    whole k =
        let s = inside-size size k.index in (
          ⊎_elim (λ e. (ap (λ (l : Key). l.name) e, s.0 (inl (ap (λ (l : Key). l.index) e)))) (λ h. (h.0, s.0 (inr h.1))),
          λ h. ⊎_elim (λ e. inl (key-path k (key x none) h.0 e)) (λ w. inr (h.0, w)) (s.1 h.1),
        )
