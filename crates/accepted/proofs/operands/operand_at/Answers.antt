use mathlib.Core.Path.{sym}
use Rattle.accepted.specs.Parts.{next_is}
use Rattle.accepted.specs.Operands.{operand-inside}
use Rattle.accepted.proofs.ReadOperands.{operand_read}
use native.Mathlib.Omega.{arith}
use Rattle.accepted.proofs.operands.operand_at.Goals as goal

pub span_at-span-requires : goal.span_at-span-requires
span_at-span-requires c = operand-inside _ _ _ c.requires _ (sym (next_is c.number_at-index.ensures)) _ (sym (next_is c.ends_at-slice.ensures))

pub overflow_add-result : goal.overflow_add-result
overflow_add-result c = let i = operand-inside _ _ _ c.requires _ (sym (next_is c.number_at-index.ensures)) _ (sym (next_is c.ends_at-slice.ensures)) in omega arith

pub returns : goal.returns
returns c = operand_read _ _ _ c.requires _ c.u16_at-name.ensures.0 c.number_at-index.ensures c.ends_at-slice.ensures _ c.span_at-span.ensures
