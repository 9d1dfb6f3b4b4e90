use Rattle.declarations.proofs.Sayings.{assign_some}
use Rattle.declarations.proofs.reports.check_assign.Goals as goal

pub returns : goal.returns
returns c = assign_some _ _ _ _ _ _ _ c.in-Some.is c.check_type-s.ensures c.check_compound.ensures
