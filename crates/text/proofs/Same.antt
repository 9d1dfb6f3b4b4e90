-- The test that two texts are the same. Assumes nothing.
use Prim.Native.Nat.{ℕ}
use mathlib.Core.Path.{◌≡◌, refl, sym, subst}
use mathlib.Core.Bool.{true}
use mathlib.Core.List.{List, [], ◌∷◌}
use lib.Dec.{T, eqb, eqb→eq}
use Rattle.text.proofs.Tests.{and_both}
use Rattle.text.specs.Text.{same}

equal : (x y : List ℕ) → T (same x y) → x ≡ y
equal [] [] t = refl
equal [] (y ∷ ys) t = absurd t
equal (x ∷ xs) [] t = absurd t
equal (x ∷ xs) (y ∷ ys) t =
    rw (eqb→eq x y ((and_both (eqb x y) (same xs ys)).0 t).0, equal xs ys ((and_both (eqb x y) (same xs ys)).0 t).1)

pub same-eq : (x y : List ℕ) → same x y ≡ true → x ≡ y
same-eq x y e = equal x y (subst T (sym e) tt)
