use mathlib.Core.Path.{sym}
use Rattle.accepted.specs.Parts.{next_is}
use Rattle.accepted.specs.Stmts.{delay_duration, delay_targets, delay-inside, delay_is}
use native.Mathlib.Omega.{arith}
use Rattle.accepted.proofs.stmts.skip_delay.Goals as goal

pub skip_expr-k-requires : goal.skip_expr-k-requires
skip_expr-k-requires c = delay_duration _ _ _ _ c.requires.0 c.requires.1

pub skip_operands-requires : goal.skip_operands-requires
skip_operands-requires c = delay_targets _ _ _ _ c.requires.0 c.requires.1 _ c.skip_expr-k.ensures

pub overflow_add-result : goal.overflow_add-result
overflow_add-result c = let i = delay-inside _ _ _ _ c.requires.0 c.requires.1 _ c.skip_expr-k.ensures _ c.skip_operands.ensures in omega arith

pub returns : goal.returns
returns c = sym (next_is (delay_is _ _ _ _ c.requires.0 c.requires.1 _ c.skip_expr-k.ensures _ c.skip_operands.ensures))
