use Rattle.promises.specs.Emitted.{emitted_then}
use Rattle.operands.proofs.Checks.{use_alone}
use Rattle.operands.proofs.use_operand.Goals as goal
use Rattle.operands.proofs.use_operand.Goals.{then-is_quiet, else-is_quiet}

pub returns : goal.returns
returns c =
    let used = c.check_use_after_measure.ensures in
    elim c.if-is_quiet.branch [
      | then-is_quiet w ↦ use_alone _ _ _ c.is_quiet.ensures w.if-is_quiet.true (rw (← w.out-is, ← w.s-is) used)
      | else-is_quiet w ↦ emitted_then w.check_operand-s.ensures (rw (← w.out-is, ← w.s-is) used)
    ]
