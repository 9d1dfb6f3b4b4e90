-- The facts of a mark sheet have one proof each.
use Rattle.std.specs.Prelude.{ℕ, zero, suc, List, [], ◌∷◌}
use mathlib.Core.HLevel.{×_prop}
use Rattle.std.proofs.Props.{props}
use Rattle.tree.specs.Ans.{Ans, ok, refused, IsOk}
use Rattle.sema.specs.Marks.{Key}
use Rattle.context.specs.View.{PlaceOk}
use Rattle.sheet.specs.Sheet.{Distinct}

pub distinct_once : (ks : List Key) → IsProp (Distinct ks)
unfolding Distinct
distinct_once [] = Prim.hlevel
distinct_once (k ∷ ks) = ×_prop (Prim.hlevel props) (distinct_once ks)

ok_once : {A : Type 0} (x : Ans A) → IsProp (IsOk x)
unfolding IsOk
ok_once (ok a next) = Prim.hlevel
ok_once (refused number place) = Prim.hlevel

pub place_once : (tree : List ℕ) (n : ℕ) → IsProp (PlaceOk tree n)
place_once tree zero = Prim.hlevel
place_once tree (suc n) = ok_once _
