-- Every place in a sheet is that of a measure statement: laws of the changes and of what is looked up. Assumes nothing.
use Prim.Native.Nat.{ℕ, zero, suc}
use Rattle.std.specs.Prelude.{◌≡◌, refl, Bool, true, false, cond, ◌&&◌, length, get_or, replicate, eqb, leb}
use Rattle.std.proofs.Common.{ap, ◌∙◌}
use mathlib.Core.List.{List, [], ◌∷◌}
use Rattle.std.proofs.Math.Option.{Option, none, some}
use Rattle.std.proofs.lemmas.List.{length-replicate}
use Rattle.ast.specs.Tree.{TextNumber}
use Rattle.sema.specs.Marks.{Key, key, in_slice}
use Rattle.sema.specs.Keys.{same_key}
use Rattle.context.specs.View.{place_in, PlaceOk, Placed}
use Rattle.std.specs.Prelude.{Option as Maybe, Some, None}
use Rattle.sheet.specs.Sheet.{first, lookup_in, smaller, offer, least_in, by_whole, smallest_in, stored, united}
use Rattle.sheet.specs.Places.{by_test, place_here, place-there}

-- so of any property that 0 has
module _ (P : ℕ → Type 0) (z : P 0) where
  abbrev Each : List ℕ → Type 0
  Each vs = (i : ℕ) → P (get_or vs i 0)

  none_each : Each []
  none_each i = z

  more-each : (v : ℕ) (vs : List ℕ) → P v → Each vs → Each (v ∷ vs)
  more-each v vs a b zero = a
  more-each v vs a b (suc i) = b i

  cond-each : (b : Bool) (p v : ℕ) → P p → P v → P (cond b p v)
  cond-each true p v a b = a
  cond-each false p v a b = b

  first-each : (a b : ℕ) → P a → P b → P (first a b)
  first-each zero b h g = g
  first-each (suc a) b h g = h

  stored-each : (t : Key → Bool) (p : ℕ) → P p → (ks : List Key) (vs : List ℕ) → Each vs → Each (stored t p ks vs)
  unfolding stored
  stored-each t p h [] vs e = e
  stored-each t p h (k ∷ ks) [] e = none_each
  stored-each t p h (k ∷ ks) (v ∷ vs) e =
      more-each (cond (t k) p v) (stored t p ks vs) (cond-each (t k) p v h (e 0)) (stored-each t p h ks vs (λ i. e (suc i)))

  united-each : (a b : List ℕ) → Each a → Each b → Each (united a b)
  unfolding united
  united-each [] b e f = none_each
  united-each (x ∷ a) [] e f = e
  united-each (x ∷ a) (y ∷ b) e f =
      more-each (first x y) (united a b) (first-each x y (e 0) (f 0)) (united-each a b (λ i. e (suc i)) (λ i. f (suc i)))

  blank-each : (n : ℕ) → Each (replicate n 0)
  blank-each zero = none_each
  blank-each (suc n) = more-each 0 (replicate n 0) z (blank-each n)

  place-each : (ks : List Key) (vs : List ℕ) (k : Key) → Each vs → P (place_in ks vs k)
  unfolding place_in
  place-each [] vs k e = z
  place-each (l ∷ ls) [] k e = z
  place-each (l ∷ ls) (v ∷ vs) k e =
      by_test (same_key l k)
      (λ t. rw (place_here l ls k v vs t) (e 0))
      (λ t. rw (place-there l ls k v vs t) (place-each ls vs k (λ i. e (suc i))))

  lookup-each : (ks : List Key) (vs : List ℕ) (x : TextNumber) (i : Option ℕ) → Each vs → P (lookup_in ks vs x i)
  unfolding lookup_in
  lookup-each ks vs x none e = place-each ks vs (key x none) e
  lookup-each ks vs x (some i) e = first-each _ _ (place-each ks vs (key x (some i)) e) (place-each ks vs (key x none) e)

  -- a covered index has such a place
  abbrev Held : Maybe (ℕ × ℕ) → Type 0
  Held None = Unit {0}
  Held (Some (i, p)) = P p

  cond-held : (b : Bool) (c d : Maybe (ℕ × ℕ)) → Held c → Held d → Held (cond b c d)
  cond-held true c d h g = h
  cond-held false c d h g = g

  smaller-held : (i p : ℕ) (c : Maybe (ℕ × ℕ)) → P p → Held c → Held (smaller i p c)
  unfolding smaller
  smaller-held i p None h g = h
  smaller-held i p (Some (j, q)) h g = cond-held (leb i j) (Some (i, p)) (Some (j, q)) h g

  offer-held : (o : Option ℕ) (p : ℕ) (c : Maybe (ℕ × ℕ)) → P p → Held c → Held (offer o p c)
  unfolding offer
  offer-held none p c h g = g
  offer-held (some i) zero c h g = g
  offer-held (some i) (suc p) c h g = smaller-held i (suc p) c h g

  least-held : (x : TextNumber) (r : ℕ × ℕ) (ks : List Key) (vs : List ℕ) → Each vs → Held (least_in x r ks vs)
  unfolding least_in
  least-held x r [] vs e = tt
  least-held x r (k ∷ ks) [] e = tt
  least-held x r (k ∷ ks) (v ∷ vs) e =
      let rest = least-held x r ks vs (λ i. e (suc i)) in
      cond-held (eqb k.name x && in_slice r k.index) _ _ (offer-held k.index v (least_in x r ks vs) (e 0) rest) rest

  by_held : (w : ℕ) (c d : Maybe (ℕ × ℕ)) → Held c → Held d → Held (by_whole w c d)
  by_held zero c d h g = h
  by_held (suc w) c d h g = g

  smallest-held : (ks : List Key) (vs : List ℕ) (x : TextNumber) (r : ℕ × ℕ) → Each vs → Held (smallest_in ks vs x r)
  unfolding smallest_in
  smallest-held ks vs x r e =
      cond-held (leb r.0 r.1) _ None
      (by_held (place_in ks vs (key x none)) (least_in x r ks vs) _ (least-held x r ks vs e) (lookup-each ks vs x (some r.0) e))
      tt

length-stored : (t : Key → Bool) (p : ℕ) (ks : List Key) (vs : List ℕ) → length (stored t p ks vs) ≡ length vs
unfolding stored
length-stored t p [] vs = refl
length-stored t p (k ∷ ks) [] = refl
length-stored t p (k ∷ ks) (v ∷ vs) = ap suc (length-stored t p ks vs)

length-united : (a b : List ℕ) → length (united a b) ≡ length a
unfolding united
length-united [] bs = refl
length-united (a ∷ r) [] = refl
length-united (a ∷ r) (b ∷ bs) = ap suc (length-united r bs)

module _ (tree : List ℕ) where
  pub stored-placed : (t : Key → Bool) (p : ℕ) (ks : List Key) (vs : List ℕ) → PlaceOk tree p → Placed tree vs → Placed tree (stored t p ks vs)
  stored-placed t p ks vs h e = record { whole = length-stored t p ks vs ∙ e.whole; each = stored-each (PlaceOk tree) tt t p h ks vs e.each }

  pub united-placed : (a b : List ℕ) → Placed tree a → Placed tree b → Placed tree (united a b)
  united-placed a b e f = record { whole = length-united a b ∙ e.whole; each = united-each (PlaceOk tree) tt a b e.each f.each }

  pub blank-placed : Placed tree (replicate 256 0)
  blank-placed = record { whole = length-replicate {A = ℕ} 256 0; each = blank-each (PlaceOk tree) tt 256 }

  -- what is looked up
  module _ (ks : List Key) (vs : List ℕ) (x : TextNumber) (e : Placed tree vs) where
    pub lookup-placed : (i : Option ℕ) → PlaceOk tree (lookup_in ks vs x i)
    lookup-placed i = lookup-each (PlaceOk tree) tt ks vs x i e.each

    pub smallest-placed : (r : ℕ × ℕ) (i p : ℕ) → Some (i, p) ≡ smallest_in ks vs x r → PlaceOk tree p
    smallest-placed r i p h = let g = smallest-held (PlaceOk tree) tt ks vs x r e.each in rw (← h) at g
