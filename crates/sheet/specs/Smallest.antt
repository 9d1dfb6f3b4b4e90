-- The smallest covered index by places is the one by marks, where no two keys are equal. Assumes nothing.
use Prim.Native.Nat.{ℕ, zero, suc, ◌≤◌, ◌<◌}
use Rattle.std.specs.Prelude.{◌≡◌, true, ◌&&◌, eqb, leb}
use Rattle.std.proofs.Math.Path.{refl, sym}
use Rattle.std.proofs.Common.{ap, ◌∙◌}
use mathlib.Core.List.{List, [], ◌∷◌}
use Rattle.std.proofs.Math.Option.{Option, none, some}
use Rattle.std.proofs.Math.Bool.{false, and-eq-true_iff}
use Rattle.std.proofs.lemmas.Bool.{false≢true}
use native.Mathlib.Omega.{arith}
use borrow.Author.Tests.{eqb-true, eqb-false, leb-true, leb-false, eq-eqb, le-leb}
use Rattle.ast.specs.Tree.{TextNumber}
use Rattle.sema.specs.Marks.{Key, key, in_slice, lookup_measured, smallest_covered}
use Rattle.sema.specs.Keys.{same_key, has_key}
use Rattle.sema.proofs.LawsCover.{smallest-none, smallest-some, smallest-empty}
use Rattle.context.specs.View.{place_in, measure_span, mark_by, marks_of}
use Rattle.std.specs.Prelude.{Option as Maybe, Some, None}
use Rattle.sheet.specs.Sheet.{first, lookup_in, smaller, offer, least_in, by_whole, smallest_in, covered_of, Distinct}
use Rattle.sheet.specs.Places.{by_test, key-eq, same_key_lem, place_here, place-there, unplaced, first-none, first_pos, lookup-marks}

-- c is the smallest index of a range that has a place, with its place
unfoldable pub IsLeast : (ℕ → ℕ) → ℕ → ℕ → Maybe (ℕ × ℕ) → Type 0
IsLeast own a b None = (j : ℕ) → a ≤ j → j ≤ b → own j ≡ 0
IsLeast own a b (Some (i, p)) = (a ≤ i) × (i ≤ b) × (0 < p) × (own i ≡ p) × ((j : ℕ) → a ≤ j → j < i → own j ≡ 0)

module _ (own own' : ℕ → ℕ) (a b : ℕ) where
  least-same : ((j : ℕ) → a ≤ j → j ≤ b → own' j ≡ own j) → (c : Maybe (ℕ × ℕ)) → IsLeast own a b c → IsLeast own' a b c
  unfolding IsLeast
  least-same s None h = λ j u v. s j u v ∙ h j u v
  least-same s (Some (i, p)) h =
      (h.0, h.1, h.2, s i h.0 h.1 ∙ h.3, λ j u v. s j u (omega (arith, h.1)) ∙ h.4 j u v)

  module _ (i : ℕ) (l : a ≤ i) (r : i ≤ b) (e : own i ≡ 0) (s : (j : ℕ) → (j ≡ i → ⊥) → own' j ≡ own j) where
    least-smaller : (p : ℕ) → 0 < p → own' i ≡ p → (c : Maybe (ℕ × ℕ)) → IsLeast own a b c → IsLeast own' a b (smaller i p c)
    unfolding IsLeast smaller
    least-smaller p z f None h = (l, r, z, f, λ j u v. s j (λ q. omega arith) ∙ h j u (omega arith))
    least-smaller p z f (Some (j, q)) h =
        by_test (leb i j)
        (λ t. rw t (l, r, z, f, λ k u v. s k (λ w. omega arith) ∙ h.4 k u (omega (arith, leb-true i j t))))
        (λ t.
        let g : j < i = leb-false i j t in
        rw t (h.0, h.1, h.2, s j (λ w. omega arith) ∙ h.3, λ k u v. s k (λ w. omega arith) ∙ h.4 k u v))

    least-offer : (p : ℕ) → own' i ≡ p → (c : Maybe (ℕ × ℕ)) → IsLeast own a b c → IsLeast own' a b (offer (some i) p c)
    unfolding offer
    least-offer zero f c h =
        least-same
        (λ j u v. by_test (eqb j i)
        (λ t. let w : j ≡ i = eqb-true j i t in rw w (f ∙ sym e))
        (λ t. s j (eqb-false j i t)))
        c h
    least-offer (suc p) f c h = least-smaller (suc p) (omega arith) f c h

-- the places of the indices of a name
module _ (x : TextNumber) (a b : ℕ) where
  abbrev own : List Key → List ℕ → ℕ → ℕ
  own ks vs j = place_in ks vs (key x (some j))

  module _ (ks : List Key) (v : ℕ) (vs : List ℕ) where
    skipped : (k : Key) → (eqb k.name x && in_slice (a, b) k.index) ≡ false → least_in x (a, b) (k ∷ ks) (v ∷ vs) ≡ least_in x (a, b) ks vs
    unfolding least_in
    skipped k e = rw e

    taken : (k : Key) → (eqb k.name x && in_slice (a, b) k.index) ≡ true
        → least_in x (a, b) (k ∷ ks) (v ∷ vs) ≡ offer k.index v (least_in x (a, b) ks vs)
    unfolding least_in
    taken k e = rw e

    -- a key that is not of the slice
    outside : (k : Key) → (eqb k.name x && in_slice (a, b) k.index) ≡ false → (j : ℕ) → a ≤ j → j ≤ b → own (k ∷ ks) (v ∷ vs) j ≡ own ks vs j
    unfolding in_slice
    outside k e j u w =
        by_test (same_key k (key x (some j)))
        (λ t.
        let f : (eqb x x && in_slice (a, b) (some j)) ≡ false = rw (key-eq k (key x (some j)) t) at e in
        absurd (false≢true (sym f ∙ rw (eq-eqb x x refl, le-leb a j u, le-leb j b w))))
        (λ t. place-there k ks (key x (some j)) v vs t)

    -- a key of the slice
    module _ (i : ℕ) (d : has_key ks (key x (some i)) ≡ false) (l : a ≤ i) (r : i ≤ b) where
      other : (j : ℕ) → (j ≡ i → ⊥) → own (key x (some i) ∷ ks) (v ∷ vs) j ≡ own ks vs j
      other j f =
          by_test (same_key (key x (some i)) (key x (some j)))
          (λ t.
          let g : some i ≡ some j = ap (λ (k : Key). k.index) (key-eq (key x (some i)) (key x (some j)) t) in
          let h : j ≡ i = cc in absurd (f h))
          (λ t. place-there (key x (some i)) ks (key x (some j)) v vs t)

      inside : (c : Maybe (ℕ × ℕ)) → IsLeast (own ks vs) a b c → IsLeast (own (key x (some i) ∷ ks) (v ∷ vs)) a b (offer (some i) v c)
      inside c h =
          least-offer (own ks vs) (own (key x (some i) ∷ ks) (v ∷ vs)) a b i l r
          (unplaced ks vs (key x (some i)) d) other v
          (place_here (key x (some i)) ks (key x (some i)) v vs (same_key_lem (key x (some i)))) c h

    by_index : (o : Option ℕ) → in_slice (a, b) o ≡ true → has_key ks (key x o) ≡ false → (c : Maybe (ℕ × ℕ))
        → IsLeast (own ks vs) a b c → IsLeast (own (key x o ∷ ks) (v ∷ vs)) a b (offer o v c)
    unfolding in_slice
    by_index none e d c h = absurd (false≢true e)
    by_index (some i) e d c h =
        let t = (and-eq-true_iff (leb a i) (leb i b)).0 e in
        inside i d (leb-true a i t.0) (leb-true i b t.1) c h

    by_name : (n : TextNumber) (o : Option ℕ) → n ≡ x → in_slice (a, b) o ≡ true → has_key ks (key n o) ≡ false → (c : Maybe (ℕ × ℕ))
        → IsLeast (own ks vs) a b c → IsLeast (own (key n o ∷ ks) (v ∷ vs)) a b (offer o v c)
    by_name n o f e d c h = rw f (by_index o e (rw f at d) c h)

  pub least_is : (ks : List Key) (vs : List ℕ) → Distinct ks → IsLeast (own ks vs) a b (least_in x (a, b) ks vs)
  unfolding least_in IsLeast place_in Distinct
  least_is [] vs d = λ j u v. refl
  least_is (k ∷ ks) [] d = λ j u v. refl
  least_is (k ∷ ks) (v ∷ vs) d =
      let c = least_in x (a, b) ks vs in
      by_test (eqb k.name x && in_slice (a, b) k.index)
      (λ t.
      let h = (and-eq-true_iff (eqb k.name x) (in_slice (a, b) k.index)).0 t in
      rw (taken ks v vs k t) (by_name ks v vs k.name k.index (eqb-true k.name x h.0) h.1 d.0 c (least_is ks vs d.1)))
      (λ t. rw (skipped ks v vs k t) (least-same (own ks vs) (own (k ∷ ks) (v ∷ vs)) a b (outside ks v vs k t) c (least_is ks vs d.1)))

-- the marks of an index by the places of its own key and of the whole key
module _ (tree : List ℕ) (ks : List Key) (sheet : List ℕ) (x : TextNumber) where
  abbrev whole : ℕ
  whole = place_in ks sheet (key x none)

  looked : (j p : ℕ) → lookup_in ks sheet x (some j) ≡ p → lookup_measured (marks_of tree ks sheet) x (some j) ≡ mark_by tree p
  looked j p e = sym (lookup-marks tree ks sheet x (some j)) ∙ ap (mark_by tree) e

  mark-some : (p : ℕ) → 0 < p → mark_by tree p ≡ some (measure_span tree p)
  unfolding mark_by
  mark-some zero h = absurd (omega arith)
  mark-some (suc p) h = refl

  module _ (a b : ℕ) where
    -- the whole key has no mark
    module _ (z : whole ≡ 0) where
      by_own : (j p : ℕ) → own x a b ks sheet j ≡ p → lookup_measured (marks_of tree ks sheet) x (some j) ≡ mark_by tree p
      unfolding lookup_in
      by_own j p e = looked j p (rw (e, z) (first-none p))

      least-marks : a ≤ b → (c : Maybe (ℕ × ℕ)) → IsLeast (own x a b ks sheet) a b c → covered_of tree c ≡ smallest_covered (marks_of tree ks sheet) x (a, b)
      unfolding IsLeast mark_by
      least-marks l None h =
          sym ((smallest-none (marks_of tree ks sheet) x a b).1 (λ j u v. by_own j 0 (h j u v)))
      least-marks l (Some (i, p)) h =
          sym ((smallest-some (marks_of tree ks sheet) x a b i (measure_span tree p)).1 (h.0, h.1, by_own i p h.3 ∙ mark-some p h.2, λ j u v. by_own j 0 (h.4 j u v)))

    -- the whole key has a mark
    whole-marks : a ≤ b → 0 < whole → covered_of tree (Some (a, (lookup_in ks sheet x (some a)))) ≡ smallest_covered (marks_of tree ks sheet) x (a, b)
    unfolding lookup_in
    whole-marks l h =
        let p = first (own x a b ks sheet a) whole in
        sym ((smallest-some (marks_of tree ks sheet) x a b a (measure_span tree p)).1 (omega arith, l, looked a p refl ∙ mark-some p (first_pos (own x a b ks sheet a) whole h), λ j u v. absurd (omega arith)))

    by_whole_lem : (w : ℕ) → whole ≡ w → a ≤ b → Distinct ks
        → covered_of tree (by_whole w (least_in x (a, b) ks sheet) (Some (a, (lookup_in ks sheet x (some a))))) ≡ smallest_covered (marks_of tree ks sheet) x (a, b)
    by_whole_lem zero e l d = least-marks e l (least_in x (a, b) ks sheet) (least_is x a b ks sheet d)
    by_whole_lem (suc w) e l d = whole-marks l (omega arith)

    -- the smallest covered index by places is the one by marks
    pub smallest-marks : Distinct ks → covered_of tree (smallest_in ks sheet x (a, b)) ≡ smallest_covered (marks_of tree ks sheet) x (a, b)
    unfolding smallest_in
    smallest-marks d =
        by_test (leb a b)
        (λ t. rw t (by_whole_lem whole refl (leb-true a b t) d))
        (λ t. rw t (sym (smallest-empty (marks_of tree ks sheet) x a b (leb-false a b t))))
