use Rattle.operands.proofs.UseLaws.{slice-uses}
use Rattle.operands.proofs.uses.check_slice_use.Goals as goal

pub returns : goal.returns
returns c = let e = rw c.from.ensures at c.measure_span-at.ensures in search slice-uses
