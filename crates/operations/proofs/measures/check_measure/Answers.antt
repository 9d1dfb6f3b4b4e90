use Rattle.operations.proofs.Measured.{measure-said}
use Rattle.operations.proofs.measures.check_measure.Goals as goal

pub returns : goal.returns
returns c = measure-said _ _ _ _ c.requires.1 c.check_operand-s.ensures c.check_target_at-a.ensures c.span_at-span.ensures c.warn_measured-said.ensures
