use mathlib.Core.Path.{sym}
use Rattle.accepted.specs.Parts.{next_is}
use Rattle.accepted.specs.Stmts.{reset_target, reset-inside}
use Rattle.accepted.specs.Operands.{operand_below}
use Rattle.promises.specs.Walks.{state_of}
use Rattle.operations.proofs.Simple.{reset-walked}
use native.Mathlib.Omega.{arith}
use Rattle.operations.proofs.reset.Goals as goal

pub operand_at-op-requires : goal.operand_at-op-requires
operand_at-op-requires c = reset_target _ _ _ _ c.args.here.accepted c.requires.2

pub check_operand-said-requires : goal.check_operand-said-requires
check_operand-said-requires c = rw c.context-sema.ensures.0 (operand_below _ _ _ c.operand_at-op.result.value c.operand_at-op.ensures)

pub overflow_add-result : goal.overflow_add-result
overflow_add-result c = let i = reset-inside _ _ _ _ c.args.here.accepted c.requires.2 _ (sym (next_is c.operand_at-op.ensures)) in omega arith

pub returns-clause-walked : goal.returns-clause-walked
returns-clause-walked c = let s = c.context-sema.ensures in let a = c.operand_at-op in reset-walked _ _ _ (state_of c.args.here.at c.args.sink _) c.args.here.accepted c.requires.2 a.result.value _ a.ensures c.requires.1 (rw (s.0, s.1, s.2) at c.check_operand-said.ensures) _ (c.clear.ensures.marks _) (c.clear.ensures.placed _ c.requires.1.placed)
