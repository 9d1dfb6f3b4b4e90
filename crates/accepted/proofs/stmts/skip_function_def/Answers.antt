use mathlib.Core.Path.{sym}
use Rattle.accepted.specs.Parts.{next_is}
use Rattle.accepted.specs.Stmts.{function_def-params, function_def-body, function_def-inside, function_def_is}
use Rattle.accepted.specs.Exprs.{expr_in}
use native.Mathlib.Omega.{arith}
use Rattle.accepted.proofs.stmts.skip_function_def.Goals as goal

pub skip_params-k-requires : goal.skip_params-k-requires
skip_params-k-requires c = function_def-params _ _ _ _ c.requires.0 c.requires.1

pub overflow_add-k : goal.overflow_add-k
overflow_add-k c = let i = expr_in _ _ _ _ (function_def-body _ _ _ _ c.requires.0 c.requires.1 _ c.skip_params-k.ensures) in omega arith

pub skip_expr-requires : goal.skip_expr-requires
skip_expr-requires c = function_def-body _ _ _ _ c.requires.0 c.requires.1 _ c.skip_params-k.ensures

pub overflow_add-result : goal.overflow_add-result
overflow_add-result c = let i = function_def-inside _ _ _ _ c.requires.0 c.requires.1 _ c.skip_params-k.ensures _ c.skip_expr.ensures in omega arith

pub returns : goal.returns
returns c = sym (next_is (function_def_is _ _ _ _ c.requires.0 c.requires.1 _ c.skip_params-k.ensures _ c.skip_expr.ensures))
