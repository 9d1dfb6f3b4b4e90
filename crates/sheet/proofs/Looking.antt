-- The places of two keys, met in one pass over keys that are all different. Assumes nothing.
use Prim.Native.Nat.{ℕ, zero, suc, ◌+◌, ◌≤◌, ◌<◌}
use mathlib.Core.Path.{◌≡◌, refl, sym, ◌∙◌}
use mathlib.Core.List.{List, [], ◌∷◌}
use mathlib.Core.Bool.{Bool, true, false, cond}
use native.Mathlib.Omega.{arith}
use native.Mathlib.Numerals.{add-one}
use lib.ListN.{length, get_or, drop}
use Rattle.sema.specs.Marks.{Key}
use Rattle.sema.specs.Keys.{same_key, has_key}
use Rattle.context.specs.declared.Key.{Key as KeyValue}
use Rattle.context.specs.Values.{key_of}
use Rattle.context.specs.View.{keys_of, place_in}
use Rattle.sheet.specs.Sheet.{first, Distinct}
use Rattle.sheet.specs.Places.{by_test, key-eq, place_here, place-there, unplaced, first_some}
use Rattle.sheet.proofs.Loops.{rest, nth, rest_more, rest_end}

-- the place of one key
module _ (b : Bool) (p before : ℕ) where
  pub met_unmarked : p ≡ 0 → before ≡ first (cond b p 0) before
  met_unmarked e = rw e (go b)
    where
      go : (b : Bool) → before ≡ first (cond b 0 0) before
      go true = refl
      go false = refl

  module _ (s : Bool) (e : s ≡ b) where
    pub met_same : s ≡ true → (p ≡ 0 → ⊥) → p ≡ first (cond b p 0) before
    met_same f z = rw (← e, f) (sym (first_some p before z))

    pub met_other : s ≡ false → before ≡ first (cond b p 0) before
    met_other f = rw (← e, f)

pub ruleset meeting = (met_unmarked, met_same, met_other)

-- a key before others, whether it has a place in the sheet or not
module _ (l : Key) (ls : List Key) (k : Key) where
  here : same_key l k ≡ true → (vs : List ℕ) (j : ℕ) → place_in (l ∷ ls) (drop j vs) k ≡ get_or vs j 0
  unfolding place_in
  here e [] zero = refl
  here e [] (suc j) = refl
  here e (v ∷ vs) zero = place_here l ls k v vs e
  here e (v ∷ vs) (suc j) = here e vs j

  nowhere : (ks : List Key) → 0 ≡ place_in ks [] k
  unfolding place_in
  nowhere [] = refl
  nowhere (m ∷ ks) = refl

  there : same_key l k ≡ false → (vs : List ℕ) (j : ℕ) → place_in (l ∷ ls) (drop j vs) k ≡ place_in ls (drop (suc j) vs) k
  unfolding place_in
  there e [] zero = nowhere ls
  there e [] (suc j) = nowhere ls
  there e (v ∷ vs) zero = place-there l ls k v vs e
  there e (v ∷ vs) (suc j) = there e vs j

  -- what is met of it goes behind what is still to come
  met_next : has_key ls l ≡ false → (vs : List ℕ) (j before : ℕ)
      → first (place_in (l ∷ ls) (drop j vs) k) before ≡ first (place_in ls (drop (suc j) vs) k) (first (cond (same_key l k) (get_or vs j 0) 0) before)
  met_next d vs j before =
      by_test (same_key l k)
      (λ e. rw (here e vs j, unplaced ls (drop (suc j) vs) k (rw (key-eq l k e) at d), e))
      (λ e. rw (there e vs j, e))

-- the first k keys were passed
pub record Meeting (keys : List KeyValue) (sheet : List ℕ) (key : Key) (met k : ℕ) : Type 0 where
  pub within : k ≤ length keys
  pub distinct : Distinct (rest keys k)
  pub same : place_in (keys_of keys) sheet key ≡ first (place_in (rest keys k) (drop k sheet) key) met

module _ (keys : List KeyValue) (sheet : List ℕ) (key : Key) where
  module _ {before k : ℕ} (m : Meeting keys sheet key before k) where
    meeting-more : (met : ℕ) → k < length keys → met ≡ first (cond (same_key (key_of (nth keys k)) key) (get_or sheet k 0) 0) before → Meeting keys sheet key met (k + 1)
    unfolding Distinct
    meeting-more met h e =
        let l = nth keys k in
        let d : Distinct (key_of l ∷ rest keys (k + 1)) = rw (rest_more keys k h) at m.distinct in
        let s : place_in (keys_of keys) sheet key ≡ first (place_in (key_of l ∷ rest keys (k + 1)) (drop k sheet) key) before =
        rw (rest_more keys k h) at m.same in
        record {
          within = omega arith;
          distinct = d.1;
          same = s ∙ rw (add-one k, e) (met_next (key_of l) (rest keys (suc k)) key (rw (add-one k) at d.0) sheet k before);
        }

    meeting-end : length keys ≤ k → before ≡ place_in (keys_of keys) sheet key
    unfolding place_in
    meeting-end h = sym (m.same ∙ rw (rest_end keys k h))

-- so of two keys
pub record Looking (keys : List KeyValue) (sheet : List ℕ) (a b : Key) (own other k : ℕ) : Type 0 where
  pub of_own : Meeting keys sheet a own k
  pub of_other : Meeting keys sheet b other k

module _ (keys : List KeyValue) (sheet : List ℕ) (a b : Key) where
  module _ {own other k : ℕ} (l : Looking keys sheet a b own other k) where
    pub looking-more : (own' other' : ℕ) → k < length keys → own' ≡ first (cond (same_key (key_of (nth keys k)) a) (get_or sheet k 0) 0) own
        → other' ≡ first (cond (same_key (key_of (nth keys k)) b) (get_or sheet k 0) 0) other → Looking keys sheet a b own' other' (k + 1)
    looking-more own' other' h e f =
        record { of_own = meeting-more keys sheet a l.of_own own' h e; of_other = meeting-more keys sheet b l.of_other other' h f }

    pub looking-end : (r : ℕ) → length keys ≤ k → r ≡ first own other → r ≡ first (place_in (keys_of keys) sheet a) (place_in (keys_of keys) sheet b)
    looking-end r h e = rw (← meeting-end keys sheet a l.of_own h, ← meeting-end keys sheet b l.of_other h) e

pub ruleset looking = (looking-more, looking-end)
