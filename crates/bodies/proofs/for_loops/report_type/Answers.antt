use Rattle.bodies.proofs.Loops.{variable_other}
use Rattle.bodies.proofs.for_loops.report_type.Goals as goal

pub returns : goal.returns
returns c = variable_other c.args.ty _ c.if-eq.ensures c.error.ensures c.report.ensures
