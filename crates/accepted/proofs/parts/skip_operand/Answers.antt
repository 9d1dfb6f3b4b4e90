use mathlib.Core.Path.{sym, ◌∙◌}
use Rattle.accepted.specs.Operands.{operand-name_in, operand-index, operand-slice, operand-inside}
use Rattle.accepted.specs.Singles.{single_inside}
use Rattle.accepted.proofs.SkipParts.{operand-next, single_next}
use native.Mathlib.Omega.{arith}
use Rattle.accepted.proofs.parts.skip_operand.Goals as goal

pub overflow_add-result : goal.overflow_add-result
overflow_add-result c = let i = single_inside _ _ _ c.requires (sym c.is_single.ensures ∙ c.if-is_single.true) in omega arith

pub returns-then-is_single : goal.returns-then-is_single
returns-then-is_single c = single_next _ _ _ c.requires (sym c.is_single.ensures ∙ c.if-is_single.true)

pub overflow_add-at : goal.overflow_add-at
overflow_add-at c = let i = operand-name_in _ _ _ c.requires in omega arith

pub skip_number-k-requires : goal.skip_number-k-requires
skip_number-k-requires c = operand-index _ _ _ c.requires

pub skip_ends-requires : goal.skip_ends-requires
skip_ends-requires c = operand-slice _ _ _ c.requires _ c.skip_number-k.ensures

pub overflow_add-result-2 : goal.overflow_add-result-2
overflow_add-result-2 c = let i = operand-inside _ _ _ c.requires _ c.skip_number-k.ensures _ c.skip_ends.ensures in omega arith

pub returns : goal.returns
returns c = operand-next _ _ _ c.requires _ c.skip_number-k.ensures _ c.skip_ends.ensures
