use Rattle.operands.proofs.UseLaws.{uses}
use Rattle.operands.proofs.check_use_after_measure.Goals as goal

pub returns-in-Some : goal.returns-in-Some
returns-in-Some c = search uses

pub returns : goal.returns
returns c = let e = rw c.from.ensures at c.measure_span-at.ensures in search uses
