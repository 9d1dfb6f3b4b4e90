use Rattle.declarations.proofs.Declares.{declared}
use Rattle.declarations.proofs.declare.Goals as goal

pub returns : goal.returns
returns c = let b = c.declare-found.ensures in declared _ b.found b.becomes b.below c.report_declared.ensures
