use native.Mathlib.Omega.{arith}
use Rattle.accepted.specs.Operands.{operand_below}
use Rattle.operands.proofs.PassLaws.{pass_quiet}
use Rattle.operands.proofs.passes.Goals as goal

pub is_quiet-requires : goal.is_quiet-requires
is_quiet-requires c =
    let l = operand_below _ _ _ c.single_at-op.result c.single_at-op.ensures in
    omega (arith, c.args.m.sema.texts.placed.few)

pub returns-then-is_quiet : goal.returns-then-is_quiet
returns-then-is_quiet c = search pass_quiet
