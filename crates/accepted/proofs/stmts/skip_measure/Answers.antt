use mathlib.Core.Path.{sym}
use Rattle.accepted.specs.Parts.{next_is}
use Rattle.accepted.specs.Stmts.{measure-qubit, measure_target_lem, measure-inside, measure_is}
use native.Mathlib.Omega.{arith}
use Rattle.accepted.proofs.stmts.skip_measure.Goals as goal

pub skip_operand-k-requires : goal.skip_operand-k-requires
skip_operand-k-requires c = measure-qubit _ _ _ _ c.requires.0 c.requires.1

pub skip_option_operand-requires : goal.skip_option_operand-requires
skip_option_operand-requires c = measure_target_lem _ _ _ _ c.requires.0 c.requires.1 _ c.skip_operand-k.ensures

pub overflow_add-result : goal.overflow_add-result
overflow_add-result c = let i = measure-inside _ _ _ _ c.requires.0 c.requires.1 _ c.skip_operand-k.ensures _ c.skip_option_operand.ensures in omega arith

pub returns : goal.returns
returns c = sym (next_is (measure_is _ _ _ _ c.requires.0 c.requires.1 _ c.skip_operand-k.ensures _ c.skip_option_operand.ensures))
