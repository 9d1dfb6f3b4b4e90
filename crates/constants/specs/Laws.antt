-- What callers take from the promises: the values of the trees that were read. Assumes nothing.
use Rattle.std.specs.Prelude.{ℕ, ◌≡◌, List, [], Bool, false}
use Rattle.std.specs.Prelude as rust
use Rattle.std.proofs.Math.Path.{ap}
use Rattle.std.proofs.Common.{◌∙◌}
use Rattle.std.proofs.Math.Option.{none, some}
use Rattle.int128.specs.declared.Int128.{Int128}
use Rattle.int128.specs.Whole.{positive}
use Rattle.ast.specs.Tree.{Expr, GateModifier}
use Rattle.tree.specs.Ans.{Ans, IsOk}
use Rattle.sema.specs.Constants.{eval_const_int, modifier_control_count}
use Rattle.accepted.specs.Cases.{blank}
use Rattle.accepted.specs.Parts.{value_or, given_ok}
use Rattle.context.specs.declared.Past.{Past}
use Rattle.constants.specs.Views.{whole_of, total_of, is_count, ValueOf, TotalOf}

module _ (x : Ans Expr) (e : Past (rust.Option Int128)) (h : IsOk x) (v : ValueOf x e) where
  -- the constant value of the expression
  pub value_of : whole_of e.value ≡ eval_const_int (value_or blank x)
  value_of = v.value ∙ given_ok blank none eval_const_int x h

  -- the test of a control count
  pub count_test : (r : Bool) → r ≡ is_count (whole_of e.value) → r ≡ elim (eval_const_int (value_or blank x)) [ none ↦ false | some z ↦ positive z ]
  unfolding is_count
  count_test r f = f ∙ ap is_count value_of

module _ (x : Ans (List GateModifier)) (c : Past (rust.Option ℕ)) (h : IsOk x) (v : TotalOf x c) where
  pub total_of_lem : total_of c.value ≡ modifier_control_count (value_or [] x)
  total_of_lem = v.total ∙ given_ok [] none modifier_control_count x h
