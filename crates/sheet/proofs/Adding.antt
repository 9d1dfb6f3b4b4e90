-- Keys added to the index. Assumes nothing.
use Prim.Native.Nat.{ℕ, zero, suc, ◌+◌, ◌-◌, ◌≤◌, ◌<◌, min}
use mathlib.Core.Path.{◌≡◌, refl, sym, ap, ◌∙◌}
use mathlib.Core.List.{List, [], ◌∷◌}
use mathlib.Core.Option.{some}
use mathlib.Core.Bool.{Bool, true, false, ◌&&◌}
use native.Mathlib.Omega.{arith}
use lib.ListN.{length, take, set}
use Rattle.sema.specs.Marks.{Key, key}
use Rattle.sema.specs.Keys.{same_key, has_key, add_key, add_indices, add_range}
use Rattle.context.specs.declared.Key.{Key as KeyValue}
use Rattle.context.specs.Values.{key_of}
use Rattle.context.specs.View.{keys_of, keys_in}
use Rattle.std.specs.List.{position, position_from}
use Rattle.std.proofs.lemmas.List.{get_or-take, length-take}
use Rattle.std.proofs.lemmas.List.Quantifiers.{position-Some}
use Rattle.std.proofs.lemmas.Iterator.Adapters.{position_from-zero}
use Rattle.sheet.proofs.Tests.{same_is}
use Rattle.sheet.proofs.Loops.{nth}
use Rattle.std.specs.Prelude.{Option as Maybe, Some, None, unwrap_or, eqb}
use Rattle.std.specs.Option.{is_some, option_eq}
use Rattle.sheet.specs.Sheet.{Indexed, same, Grown}
use Rattle.sheet.specs.Places.{by_test, has_here, has_there}
use Rattle.sheet.specs.Table.{length-keys, add-there, add-new, length-new, AtLeast, more-long, keep-indices, keys-stored}

-- keys are the same by their index and their name
and_swap : (a b : Bool) → (a && b) ≡ (b && a)
and_swap true true = refl
and_swap true false = refl
and_swap false true = refl
and_swap false false = refl

first_by_index : (l : KeyValue) (i : ℕ) (ks : List KeyValue) → position_from (λ k. option_eq eqb k.index l.index && eqb k.name l.name) i ks ≡ position_from (λ k. same k l) i ks
first_by_index l i [] = refl
first_by_index l i (k ∷ ks) = rw (and_swap (option_eq eqb k.index l.index) (eqb k.name l.name), first_by_index l (i + 1) ks)

pub index_first : (l : KeyValue) (ks : List KeyValue) (r : Maybe ℕ) → r ≡ position (λ k. option_eq eqb k.index l.index && eqb k.name l.name) ks → r ≡ position (λ k. same k l) ks
index_first l ks r e =
    e ∙ position_from-zero (λ k. option_eq eqb k.index l.index && eqb k.name l.name) ks ∙ first_by_index l 0 ks
    ∙ sym (position_from-zero (λ k. same k l) ks)

-- a key is found where it is there
found_there : (l : KeyValue) (i : ℕ) (ks : List KeyValue) → is_some (position_from (λ k. same k l) i ks) ≡ has_key (keys_of ks) (key_of l)
unfolding has_key
found_there l i [] = refl
found_there l i (k ∷ ks) =
    by_test (same k l)
    (λ e. rw e (sym (has_here (key_of k) (keys_of ks) (key_of l) (sym (same_is k l) ∙ e))))
    (λ e. rw e (found_there l (i + 1) ks ∙ sym (has_there (key_of k) (keys_of ks) (key_of l) (sym (same_is k l) ∙ e))))

found : (l : KeyValue) (ks : List KeyValue) (r : Maybe ℕ) → r ≡ position (λ k. same k l) ks → is_some r ≡ has_key (keys_of ks) (key_of l)
found l ks r e = ap is_some (e ∙ position_from-zero (λ k. same k l) ks) ∙ found_there l 0 ks

-- one key
module _ (index : List KeyValue) (count : ℕ) (k : KeyValue) (r : Maybe ℕ) (t : Indexed index count) (e : r ≡ position (λ l. same l k) (take count index)) where
  has : (b : Bool) → b ≡ is_some r → has_key (keys_in index count) (key_of k) ≡ b
  has b f = sym (f ∙ found k (take count index) r e)

  pub added-there : (b : Bool) → b ≡ is_some r → b ≡ true → Grown index (Some count) (add_key (keys_in index count) (key_of k))
  added-there b f h = (sym (add-there (keys_in index count) (key_of k) (has b f ∙ h)), t.few)

  module _ (b : Bool) (s : b ≡ is_some r) (h : b ≡ false) where
    pub added-over : count ≡ 256 → 256 < length (add_key (keys_in index count) (key_of k))
    added-over f = omega (arith, length-new (keys_in index count) (key_of k) (has b s ∙ h), length-keys t)

    pub added_new : (count ≡ 256 → ⊥) → Grown (set index count k) (Some (count + 1)) (add_key (keys_in index count) (key_of k))
    added_new f =
        let l : count < length index = omega (arith, t.few, t.size) in
        (keys-stored index count k l ∙ sym (add-new (keys_in index count) (key_of k) (has b s ∙ h)), omega (arith, t.few))

pub ruleset added = (added-there, added-over, added_new)

-- a key that stands at a number is there
has_at : (l : Key) (ks : List KeyValue) (j : ℕ) → j < length ks → same_key (key_of (nth ks j)) l ≡ true → has_key (keys_of ks) l ≡ true
has_at l [] j h e = absurd (omega arith)
has_at l (k ∷ ks) zero h e = has_here (key_of k) (keys_of ks) l e
has_at l (k ∷ ks) (suc j) h e =
    by_test (same_key (key_of k) l) (λ t. has_here (key_of k) (keys_of ks) l t)
    (λ t. has_there (key_of k) (keys_of ks) l t ∙ has_at l ks j (omega arith) e)

pub added_near : (index : List KeyValue) (count : ℕ) (k : KeyValue) (near : ℕ) (r : Bool) → Indexed index count → near < count → r ≡ same (nth index near) k → r ≡ true
    → Grown index (Some count) (add_key (keys_in index count) (key_of k))
added_near index count k near r t h e f =
    let b : nth (take count index) near ≡ nth index near = get_or-take count index near _ h in
    (sym (add-there (keys_in index count) (key_of k) (has_at (key_of k) (take count index) near (omega (arith, length-take count index, t.few, t.size)) (rw b (sym (same_is (nth index near) k) ∙ sym e ∙ f)))), t.few)

-- where an index is looked for first, and those that follow
pub near-small : (count n m j u : ℕ) (index : List KeyValue) (p : KeyValue → Bool) (r : Maybe ℕ) → r ≡ position p (take count index) → u ≡ unwrap_or r count → count ≤ 256 → j ≤ m → m ≡ min n 257 → u + j ≤ 513
near-small count n m j u index p None f e l h g = omega arith
near-small count n m j u index p (Some k) f e l h g =
    omega (arith, (position-Some p (take count index) k (record { name = 0; index = None }) (sym f)).0, length-take count index)

-- so many indices, of which j are added
pub record Adding (before : List KeyValue) (count x i n m : ℕ) (index : List KeyValue) (c j : ℕ) : Type 0 where
  pub within : j ≤ m
  pub most : m ≡ min n 257
  pub table : Indexed index c
  pub same : add_indices (keys_in index c) x (m - j) (i + j) ≡ add_range (keys_in before count) x i n

pub adding-start : (index : List KeyValue) (count x i n m : ℕ) → Indexed index count → m ≡ min n 257 → Adding index count x i n m index count 0
unfolding add_range
adding-start index count x i n m t e =
    let a : m - 0 ≡ min n 257 = omega arith in
    let b : i + 0 ≡ i = omega arith in
    record { within = omega arith; most = e; table = t; same = rw (a, b) }

module _ (before : List KeyValue) (count x i n m : ℕ) (index : List KeyValue) (c j : ℕ) (a : Adding before count x i n m index c j) where
  next : j < m → add_indices (add_key (keys_in index c) (key x (some (i + j)))) x (m - (j + 1)) (i + (j + 1)) ≡ add_range (keys_in before count) x i n
  unfolding add_indices
  next h =
      let e : m - j ≡ suc (m - (j + 1)) = omega arith in
      let f : suc (i + j) ≡ i + (j + 1) = omega arith in
      let g : add_indices (keys_in index c) x (suc (m - (j + 1))) (i + j) ≡ add_range (keys_in before count) x i n = rw e at a.same in
      rw (← f) g

  module _ (l : Key) (after : List KeyValue) (h : j < m) (here : l ≡ key x (some (i + j))) where
    pub adding-over : (r : Maybe ℕ) → r ≡ None → 256 < length (add_key (keys_in index c) l) → Grown after r (add_range (keys_in before count) x i n)
    adding-over r e k =
        let ks = add_key (keys_in index c) (key x (some (i + j))) in
        let far : length ks ≤ length (add_indices ks x (m - (j + 1)) (i + (j + 1))) =
        keep-indices (AtLeast (length ks)) (more-long (length ks)) ks x (m - (j + 1)) (i + (j + 1)) (omega arith) in
        let f = rw (next h) at far in
        let m : 256 < length ks = rw here at k in
        rw e (omega arith)

    pub adding-more : (r : ℕ) → length after ≡ length index → Grown after (Some r) (add_key (keys_in index c) l) → Adding before count x i n m after r (j + 1)
    adding-more r s g =
        let few : r ≤ 256 = g.1 in
        let q : keys_in after r ≡ add_key (keys_in index c) (key x (some (i + j))) = rw here at g.0 in
        record {
          within = omega arith;
          most = a.most;
          table = record { size = s ∙ a.table.size; few = few };
          same = rw q (next h);
        }

  pub adding-end : m ≤ j → Grown index (Some c) (add_range (keys_in before count) x i n)
  unfolding add_indices
  adding-end h =
      let e : m - j ≡ 0 = omega arith in
      let s : keys_in index c ≡ add_range (keys_in before count) x i n = rw e at a.same in
      (s, a.table.few)

pub ruleset adding = (adding-start, adding-over, adding-more, adding-end)
