-- What is left to do in the loops over the keys. Assumes nothing.
use Prim.Native.Nat.{ℕ, zero, suc, ◌+◌, ◌≤◌, ◌<◌}
use mathlib.Core.Path.{◌≡◌, refl, sym, ◌∙◌}
use mathlib.Core.List.{List, [], ◌∷◌}
use mathlib.Core.Option.{Option, none, some}
use mathlib.Core.Bool.{Bool, true, false, cond, ◌&&◌}
use native.Mathlib.Omega.{arith}
use native.Mathlib.Numerals.{add-one}
use lib.ListN.{length, get_or, drop}
use lib.Dec.{eqb, leb}
use borrow.Author.Tests.{eq-eqb, ne_eqb, le-leb, lt-leb, leb-true, leb-false}
use Rattle.sema.specs.Marks.{Key, in_slice}
use Rattle.context.specs.declared.Key.{Key as KeyValue}
use Rattle.context.specs.Values.{number_of, key_of}
use Rattle.context.specs.View.{keys_of}
use Rattle.std.proofs.Common.{drop_of_length-le}
use lib.Seq.{drop-cons}
use Rattle.std.specs.Prelude.{Option as Maybe, Some, None}
use Rattle.sheet.specs.Sheet.{smaller, nearer, offer, least_in}
use Rattle.sheet.specs.Places.{by_test}

-- the keys from number k on
abbrev pub rest : List KeyValue → ℕ → List Key
rest keys k = keys_of (drop k keys)

abbrev pub no-key : KeyValue
no-key = record { name = 0; index = None }

-- the key with a number
abbrev pub nth : List KeyValue → ℕ → KeyValue
nth keys k = get_or keys k no-key

module _ (keys : List KeyValue) (k : ℕ) where
  pub rest_more : k < length keys → rest keys k ≡ key_of (nth keys k) ∷ rest keys (k + 1)
  rest_more h = rw (add-one k, drop-cons keys k no-key h) refl

  pub rest_end : length keys ≤ k → rest keys k ≡ []
  rest_end h = rw (drop_of_length-le keys h)

-- of three the nearest, either way
nearer-none : (c : Maybe (ℕ × ℕ)) → nearer c None ≡ c
unfolding nearer smaller
nearer-none None = refl
nearer-none (Some (i, p)) = refl

nearer-three : (i p j q k r : ℕ) → nearer (Some (i, p)) (smaller j q (Some (k, r))) ≡ nearer (smaller i p (Some (j, q))) (Some (k, r))
unfolding nearer smaller
nearer-three i p j q k r =
    by_test (leb j k)
    (λ t. by_test (leb i j)
    (λ u. rw (t, u) (rw (le-leb i k (omega (arith, leb-true j k t, leb-true i j u)))))
    (λ u. rw (t, u) (rw t)))
    (λ t. by_test (leb i j)
    (λ u. rw (t, u) refl)
    (λ u. rw (t, u) (rw (t, lt-leb i k (omega (arith, leb-false j k t, leb-false i j u))))))

nearer-assoc : (a b c : Maybe (ℕ × ℕ)) → nearer a (nearer b c) ≡ nearer (nearer a b) c
unfolding nearer smaller
nearer-assoc None b c = refl
nearer-assoc (Some (i, p)) None c = refl
nearer-assoc (Some (i, p)) (Some (j, q)) None = sym (nearer-none (smaller i p (Some (j, q))))
nearer-assoc (Some (i, p)) (Some (j, q)) (Some (k, r)) = nearer-three i p j q k r

-- what is offered before others is offered alone, and then they are
offered-alone : (b : Bool) (o : Option ℕ) (p : ℕ) (c : Maybe (ℕ × ℕ)) → cond b (offer o p c) c ≡ nearer (cond b (offer o p None) None) c
unfolding nearer offer smaller
offered-alone true none p c = refl
offered-alone true (some i) zero c = refl
offered-alone true (some i) (suc p) c = refl
offered-alone false o p c = refl

-- one key is offered
module _ (best : Maybe (ℕ × ℕ)) (r : ℕ × ℕ) (index : Maybe ℕ) (p : ℕ) where
  abbrev offer-one : Maybe (ℕ × ℕ)
  offer-one = nearer best (cond (in_slice r (number_of index)) (offer (number_of index) p None) None)

  pub offered-in : {i : ℕ} → index ≡ Some i → true ≡ in_slice r (some i) → 0 < p → nearer best (Some (i, p)) ≡ offer-one
  unfolding offer smaller
  offered-in {i = i} e t h = rw (e, ← t) (go p h)
    where
      go : (p : ℕ) → 0 < p → nearer best (Some (i, p)) ≡ nearer best (offer (some i) p None)
      go zero h = absurd (omega arith)
      go (suc p) h = refl

  pub offered-out : {i : ℕ} → index ≡ Some i → false ≡ in_slice r (some i) → best ≡ offer-one
  offered-out e t = rw (e, ← t) (sym (nearer-none best))

  pub offered-none : index ≡ None → best ≡ offer-one
  unfolding in_slice
  offered-none e = rw e (sym (nearer-none best))

pub ruleset offering = (offered-in, offered-out, offered-none)

-- a key with no place is not offered
unmarked : (b : Bool) (o : Option ℕ) (c : Maybe (ℕ × ℕ)) → c ≡ cond b (offer o 0 c) c
unfolding offer
unmarked true none c = refl
unmarked true (some i) c = refl
unmarked false o c = refl

-- a key more before those that are compared, whether it has a place in the sheet or not
module _ (x : ℕ) (r : ℕ × ℕ) (l : Key) (ls : List Key) where
  abbrev more-least : ℕ → Maybe (ℕ × ℕ) → Maybe (ℕ × ℕ)
  more-least p c = cond (eqb l.name x && in_slice r l.index) (offer l.index p c) c

  least-unplaced : (ks : List Key) → least_in x r ks [] ≡ None
  unfolding least_in
  least-unplaced [] = refl
  least-unplaced (k ∷ ks) = refl

  least_more : (vs : List ℕ) (j : ℕ) → least_in x r (l ∷ ls) (drop j vs) ≡ more-least (get_or vs j 0) (least_in x r ls (drop (suc j) vs))
  unfolding least_in
  least_more [] zero = rw (least-unplaced ls) (unmarked (eqb l.name x && in_slice r l.index) l.index None)
  least_more [] (suc j) = rw (least-unplaced ls) (unmarked (eqb l.name x && in_slice r l.index) l.index None)
  least_more (v ∷ vs) zero = refl
  least_more (v ∷ vs) (suc j) = least_more vs j

-- the first k keys were compared
pub record Comparing (keys : List KeyValue) (x : ℕ) (r : ℕ × ℕ) (sheet : List ℕ) (best : Maybe (ℕ × ℕ)) (k : ℕ) : Type 0 where
  pub within : k ≤ length keys
  pub same : least_in x r (keys_of keys) sheet ≡ nearer best (least_in x r (rest keys k) (drop k sheet))

pub comparing-start : (keys : List KeyValue) (x : ℕ) (r : ℕ × ℕ) (sheet : List ℕ) → Comparing keys x r sheet None 0
unfolding nearer
comparing-start keys x r sheet = record { within = omega arith; same = refl }

module _ {keys : List KeyValue} {x : ℕ} {r : ℕ × ℕ} {sheet : List ℕ} {best : Maybe (ℕ × ℕ)} {k : ℕ} (c : Comparing keys x r sheet best k) (h : k < length keys) where
  abbrev l : KeyValue
  l = nth keys k

  abbrev p : ℕ
  p = get_or sheet k 0

  comparing-more : (b : Bool) → (eqb l.name x && in_slice r (number_of l.index)) ≡ b
      → (best' : Maybe (ℕ × ℕ)) → best' ≡ nearer best (cond b (offer (number_of l.index) p None) None) → Comparing keys x r sheet best' (k + 1)
  comparing-more b e best' f =
      let after = least_in x r (rest keys (k + 1)) (drop (k + 1) sheet) in
      let s : least_in x r (key_of l ∷ rest keys (k + 1)) (drop k sheet) ≡ cond b (offer (number_of l.index) p after) after =
      rw (← e, add-one k) (least_more x r (key_of l) (rest keys (suc k)) sheet k) in
      record {
        within = omega arith;
        same =
            c.same
            ∙ rw (rest_more keys k h, s, offered-alone b (number_of l.index) p after, f)
            (nearer-assoc best (cond b (offer (number_of l.index) p None) None) after);
      }

  pub comparing-name : (best' : Maybe (ℕ × ℕ)) → l.name ≡ x → best' ≡ nearer best (cond (in_slice r (number_of l.index)) (offer (number_of l.index) p None) None) → Comparing keys x r sheet best' (k + 1)
  comparing-name best' n f = comparing-more (in_slice r (number_of l.index)) (rw (eq-eqb l.name x n)) best' f

  pub comparing-other : (l.name ≡ x → ⊥) → Comparing keys x r sheet best (k + 1)
  comparing-other n = comparing-more false (rw (ne_eqb l.name x n)) best (sym (nearer-none best))

  pub comparing-unmarked : p ≡ 0 → Comparing keys x r sheet best (k + 1)
  comparing-unmarked f =
      let b = eqb l.name x && in_slice r (number_of l.index) in
      comparing-more b refl best (rw (f, ← unmarked b (number_of l.index) None) (sym (nearer-none best)))

pub comparing-end : {keys : List KeyValue} {x : ℕ} {r : ℕ × ℕ} {sheet : List ℕ} {best : Maybe (ℕ × ℕ)} {k : ℕ} → Comparing keys x r sheet best k → length keys ≤ k → best ≡ least_in x r (keys_of keys) sheet
unfolding least_in
comparing-end {keys = keys} {best = best} {k = k} c h = sym (c.same ∙ rw (rest_end keys k h) (nearer-none best))
