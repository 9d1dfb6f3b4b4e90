-- Laws of the places of keys. Assumes nothing.
use Rattle.std.specs.Prelude.{ℕ, zero, suc, ◌<◌, ◌≡◌, refl, List, [], ◌∷◌, Bool, true, false, eqb}
use Rattle.std.proofs.Common.{sym, ap, ◌∙◌, arith, eqb-true, eq-eqb}
use Rattle.std.proofs.Math.Option.{Option, none, some}
use Rattle.std.proofs.Math.Bool.{and-eq-true_iff}
use Rattle.std.proofs.lemmas.Bool.{false≢true}
use Rattle.ast.specs.Tree.{TextNumber}
use Rattle.sema.specs.Symbols.{or_else}
use Rattle.sema.specs.Marks.{Key, key, lookup_measured}
use Rattle.sema.specs.Keys.{same_index, same_key, has_key}
use Rattle.context.specs.View.{place_in, mark_by, marks_of}
use Rattle.std.specs.Prelude.{Some, None, is_some}
use Rattle.sheet.specs.Sheet.{first, marked, lookup_in}

-- a test is true or false
pub by_test : {A : Type 0} (b : Bool) → (b ≡ true → A) → (b ≡ false → A) → A
by_test true f g = f refl
by_test false f g = g refl

-- keys that are the same are equal
index-eq : (i j : Option ℕ) → same_index i j ≡ true → i ≡ j
unfolding same_index
index-eq none none e = refl
index-eq none (some j) e = absurd (false≢true e)
index-eq (some i) none e = absurd (false≢true e)
index-eq (some i) (some j) e = ap {B = Option ℕ} some (eqb-true i j e)

pub key-eq : (k l : Key) → same_key k l ≡ true → k ≡ l
unfolding same_key
key-eq k l e =
    let h = (and-eq-true_iff (eqb k.name l.name) (same_index k.index l.index)).0 e in
    λ i. record { name = eqb-true k.name l.name h.0 i; index = index-eq k.index l.index h.1 i }

same_index_lem : (i : Option ℕ) → same_index i i ≡ true
unfolding same_index
same_index_lem none = refl
same_index_lem (some i) = eq-eqb i i refl

pub same_key_lem : (k : Key) → same_key k k ≡ true
unfolding same_key
same_key_lem k = rw (eq-eqb k.name k.name refl) (same_index_lem k.index)

-- a key before others
module _ (l : Key) (ls : List Key) (k : Key) where
  pub has_here : same_key l k ≡ true → has_key (l ∷ ls) k ≡ true
  unfolding has_key
  has_here e = rw e

  pub has_there : same_key l k ≡ false → has_key (l ∷ ls) k ≡ has_key ls k
  unfolding has_key
  has_there e = rw e

  module _ (v : ℕ) (vs : List ℕ) where
    pub place_here : same_key l k ≡ true → place_in (l ∷ ls) (v ∷ vs) k ≡ v
    unfolding place_in
    place_here e = rw (e, place_in)

    pub place-there : same_key l k ≡ false → place_in (l ∷ ls) (v ∷ vs) k ≡ place_in ls vs k
    unfolding place_in
    place-there e = rw (e, place_in)

-- a key that is not there has no place
pub unplaced : (ks : List Key) (sheet : List ℕ) (k : Key) → has_key ks k ≡ false → place_in ks sheet k ≡ 0
unfolding place_in
unplaced [] sheet k h = refl
unplaced (l ∷ ls) [] k h = refl
unplaced (l ∷ ls) (v ∷ vs) k h =
    by_test (same_key l k)
    (λ e. absurd (false≢true (sym h ∙ has_here l ls k e)))
    (λ e. place-there l ls k v vs e ∙ unplaced ls vs k (sym (has_there l ls k e) ∙ h))

-- a place that is none, and one that is not
pub unmarked : (p : ℕ) → is_some (marked p) ≡ false → p ≡ 0
unmarked zero e = refl
unmarked (suc p) e = absurd (false≢true (sym e))

pub is_marked : (p : ℕ) → is_some (marked p) ≡ true → (p ≡ 0 → ⊥)
is_marked zero e = λ z. false≢true e
is_marked (suc p) e = λ z. omega arith

pub marked-some : (p : ℕ) → (p ≡ 0 → ⊥) → marked p ≡ Some p
marked-some zero f = absurd (f refl)
marked-some (suc p) f = refl

pub marked-none : (p : ℕ) → marked p ≡ None → p ≡ 0
marked-none p e = unmarked p (rw e)

pub marked-is : (p q : ℕ) → marked p ≡ Some q → (p ≡ q) × (q ≡ 0 → ⊥)
marked-is zero q e = cc
marked-is (suc p) q e = let f : suc p ≡ q = cc in (f, λ z. omega arith)

pub first-zero : (a b : ℕ) → a ≡ 0 → first a b ≡ b
first-zero a b e = rw e

pub first_some : (a b : ℕ) → (a ≡ 0 → ⊥) → first a b ≡ a
first_some zero b f = absurd (f refl)
first_some (suc a) b f = refl

pub first-none : (a : ℕ) → first a 0 ≡ a
first-none zero = refl
first-none (suc a) = refl

pub first-same : (a : ℕ) → first a a ≡ a
first-same zero = refl
first-same (suc a) = refl

pub first_pos : (a b : ℕ) → 0 < b → 0 < first a b
first_pos zero b h = h
first_pos (suc a) b h = omega arith

-- marks of places
pub mark-first : (tree : List ℕ) (a b : ℕ) → mark_by tree (first a b) ≡ or_else (mark_by tree a) (mark_by tree b)
unfolding mark_by
mark-first tree zero b = refl
mark-first tree (suc a) b = refl

-- what is looked up by places is what the marks say
pub lookup-marks : (tree : List ℕ) (ks : List Key) (sheet : List ℕ) (x : TextNumber) (i : Option ℕ)
    → mark_by tree (lookup_in ks sheet x i) ≡ lookup_measured (marks_of tree ks sheet) x i
unfolding lookup_in lookup_measured marks_of
lookup-marks tree ks sheet x none = refl
lookup-marks tree ks sheet x (some i) = mark-first tree (place_in ks sheet (key x (some i))) (place_in ks sheet (key x none))
