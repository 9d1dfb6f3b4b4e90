use Rattle.operands.proofs.Checks.{bounds_said}
use Rattle.operands.proofs.bounds.Declared.check_bounds.Goals as goal

pub returns-then-indexes_wire : goal.returns-then-indexes_wire
returns-then-indexes_wire c = search bounds_said

pub returns : goal.returns
returns c = search bounds_said
