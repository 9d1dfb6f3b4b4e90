-- Bytes stored one after the other. Assumes nothing.
use Prim.Native.Nat.{ℕ, suc, ◌+◌}
use mathlib.Core.Path.{◌≡◌, ◌∙◌}
use mathlib.Core.List.{List, [], ◌∷◌, ◌++◌}
use native.Mathlib.Nat.{add-zero, add-suc, suc-add}
use lib.ListN.{length, set}
use lib.Seq.{sets}

-- two lists one behind the other
pub sets-append : (xs ys l : List ℕ) (i : ℕ) → sets l i (xs ++ ys) ≡ sets (sets l i xs) (i + length xs) ys
sets-append [] ys l i = rw (add-zero i)
sets-append (x ∷ xs) ys l i = sets-append xs ys (set l i x) (suc i) ∙ rw (suc-add i (length xs), ← add-suc i (length xs))
