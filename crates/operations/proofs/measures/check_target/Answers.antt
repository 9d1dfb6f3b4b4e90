use Rattle.operations.proofs.Measured.{target_said}
use Rattle.operations.proofs.measures.check_target.Goals as goal

pub returns : goal.returns
returns c = target_said _ _ _ _ c.check_operand-s.ensures c.check_measure_widths.ensures
