use Rattle.accepted.specs.Fields.{option_in, option-held}
use Rattle.accepted.specs.Operands.{operand_below}
use Rattle.operations.proofs.Measured.{target_none, target_end, target_some}
use native.Mathlib.Omega.{arith}
use Rattle.operations.proofs.measures.check_target_at.Goals as goal

pub bounds-sema-at : goal.bounds-sema-at
bounds-sema-at c = option_in _ _ _ c.requires.1

pub overflow_add-result : goal.overflow_add-result
overflow_add-result c = let i = option_in _ _ _ c.requires.1 in omega arith

pub returns-then-sema-at-eq0 : goal.returns-then-sema-at-eq0
returns-then-sema-at-eq0 c = target_none _ _ _ c.requires.1 _ _ c.if-sema-at-eq0.true

pub operand_at-t-requires : goal.operand_at-t-requires
operand_at-t-requires c = option-held _ _ _ c.requires.1 c.if-sema-at-eq0.false

pub span_at-span-requires : goal.span_at-span-requires
span_at-span-requires c = let a = c.operand_at-t in let e = target_end _ _ _ c.requires.1 c.if-sema-at-eq0.false a.result.value _ a.ensures in omega arith

pub check_target-s-requires : goal.check_target-s-requires
check_target-s-requires c = let p = c.requires in (p.0, operand_below _ _ _ c.operand_at-t.result.value c.operand_at-t.ensures)

pub returns : goal.returns
returns c = let a = c.operand_at-t in target_some _ _ _ c.requires.1 c.if-sema-at-eq0.false a.result.value _ a.ensures _ _ c.span_at-span.ensures c.check_target-s.ensures
