-- One law for each way out of the lookups. Assumes nothing.
use Prim.Native.Nat.{ℕ, zero, suc, ◌≤◌, ◌<◌}
use mathlib.Core.Path.{◌≡◌, refl, sym, ap, ◌∙◌}
use mathlib.Core.Bool.{Bool, true, false, not}
use native.Mathlib.Omega.{arith}
use mathlib.Core.List.{List}
use mathlib.Core.Option.{none, some}
use borrow.Author.Tests.{le-leb, lt-leb}
use Rattle.sema.specs.Marks.{Key, key}
use Rattle.std.specs.Prelude.{Option as Maybe, Some, None, is_some, option_map}
use Rattle.context.specs.Values.{number_of}
use Rattle.context.specs.View.{place_in}
use Rattle.sheet.specs.Sheet.{first, marked, lookup_in, least_in, by_whole, smallest_in}
use Rattle.sheet.specs.Places.{first-same, first_pos, unmarked, is_marked, marked-some}

module _ (ks : List Key) (sheet : List ℕ) (x : ℕ) where
  pub looked_up : (i : Maybe ℕ) (a b : Key) (r : ℕ) → a ≡ key x (number_of i) → b ≡ key x none → r ≡ first (place_in ks sheet a) (place_in ks sheet b) → r ≡ lookup_in ks sheet x (number_of i)
  unfolding lookup_in
  looked_up None a b r e f g = g ∙ rw (e, f) (first-same (place_in ks sheet (key x none)))
  looked_up (Some i) a b r e f g = g ∙ rw (e, f)

  module _ (ends : ℕ × ℕ) where
    pub smallest-none : ends.1 < ends.0 → None ≡ smallest_in ks sheet x ends
    unfolding smallest_in
    smallest-none h = rw (lt-leb ends.0 ends.1 h)

    by_none : (w : ℕ) (c d : Maybe (ℕ × ℕ)) → w ≡ 0 → by_whole w c d ≡ c
    by_none w c d e = rw e

    by_some : (w : ℕ) (c d : Maybe (ℕ × ℕ)) → (w ≡ 0 → ⊥) → by_whole w c d ≡ d
    by_some zero c d f = absurd (f refl)
    by_some (suc w) c d f = refl

    module _ (w : Maybe ℕ) (l : ends.0 ≤ ends.1) (e : w ≡ marked (lookup_in ks sheet x none)) (n : Bool) (s : is_some w ≡ not n) where
      abbrev whole : ℕ
      whole = place_in ks sheet (key x none)

      pub smallest-own : (r : Maybe (ℕ × ℕ)) → n ≡ true → r ≡ least_in x ends ks sheet → r ≡ smallest_in ks sheet x ends
      unfolding smallest_in lookup_in
      smallest-own r z f = rw (le-leb ends.0 ends.1 l, ← f) (sym (by_none whole r _ (unmarked whole (ap is_some (sym e) ∙ s ∙ ap not z))))

      pub smallest-whole : (p : Maybe ℕ) (r : Maybe (ℕ × ℕ)) → n ≡ false → p ≡ marked (lookup_in ks sheet x (some ends.0)) → r ≡ option_map (λ q. (ends.0, q)) p → r ≡ smallest_in ks sheet x ends
      unfolding smallest_in lookup_in
      smallest-whole p r z f g =
          let q : ℕ = lookup_in ks sheet x (some ends.0) in
          let w = is_marked whole (ap is_some (sym e) ∙ s ∙ ap not z) in
          let v : 0 < whole = omega (arith, w) in
          let u : 0 < q = first_pos (place_in ks sheet (key x (some ends.0))) whole v in
          let h : r ≡ Some (ends.0, q) = g ∙ ap (option_map (λ (j : ℕ). (ends.0, j))) (f ∙ marked-some q (λ z. omega arith)) in
          rw (le-leb ends.0 ends.1 l, h) (sym (by_some whole (least_in x ends ks sheet) (Some (ends.0, q)) w))

pub ruleset least_covered = (smallest-none, smallest-own, smallest-whole)
