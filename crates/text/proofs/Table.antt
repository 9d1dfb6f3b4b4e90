-- A rule of a table at each of its entries, from one test over the whole table. Assumes nothing.
use mathlib.Core.Path.{◌∙◌, subst, sym}
use mathlib.Core.Bool.{Bool, true, ◌&&◌}
use mathlib.Core.List.{List, [], ◌∷◌}
use Prim.Native.Nat.{ℕ, zero, suc, ◌+◌, ◌<◌}
use native.Mathlib.Nat.{add-zero, zero-add, add-suc, suc-add, le_of_suc-le-suc, not-suc-le-zero}
use lib.Dec.{T}
use lib.ListN.{length, get_or}
use Rattle.text.proofs.Tests.{and_both}

module _ {A : Type 0} where
  -- the test f passes at each entry and its place, the places counted from i
  abbrev pub every : (ℕ → A → Bool) → ℕ → List A → Bool
  every f i [] = true
  every f i (x ∷ xs) = f i x && every f (suc i) xs

  from : (f : ℕ → A → Bool) (xs : List A) (d : A) (i : ℕ) → T (every f i xs) → (k : ℕ) → k < length xs → T (f (i + k) (get_or xs k d))
  from f [] d i t k h = absurd (not-suc-le-zero h)
  from f (x ∷ xs) d i t zero h = subst (λ (m : ℕ). T (f m x)) (sym (add-zero i)) ((and_both (f i x) (every f (suc i) xs)).0 t).0
  from f (x ∷ xs) d i t (suc k) h =
      subst (λ (m : ℕ). T (f m (get_or xs k d))) (suc-add i k ∙ sym (add-suc i k))
      (from f xs d (suc i) ((and_both (f i x) (every f (suc i) xs)).0 t).1 k (le_of_suc-le-suc h))

  pub at : (f : ℕ → A → Bool) (xs : List A) (d : A) → T (every f 0 xs) → (k : ℕ) → k < length xs → T (f k (get_or xs k d))
  at f xs d t k h = subst (λ (m : ℕ). T (f m (get_or xs k d))) (zero-add k) (from f xs d 0 t k h)
