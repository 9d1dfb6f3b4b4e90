-- The facts of a statement's place have one proof each.
use Rattle.std.specs.Coded.{Unit-prop}
use Rattle.tree.specs.Ans.{Ans, ok, refused, IsOk}

pub ok_once : {A : Type 0} (x : Ans A) → IsProp (IsOk x)
unfolding IsOk
ok_once (ok a next) = Unit-prop
ok_once (refused number place) = λ x y. absurd x
