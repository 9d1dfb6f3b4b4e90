use Rattle.bodies.proofs.Loops.{range_said}
use Rattle.bodies.proofs.for_loops.check_range.Goals as goal

pub returns : goal.returns
returns c = range_said _ _ _ _ _ c.requires c.require_type-a.ensures c.require_type-b.ensures c.check_step.ensures
