use Rattle.std.proofs.Common.{rules, ap, set}
use Rattle.sheet.proofs.Sheets.{uniting, uniting-more}
use Rattle.sheet.proofs.unite.Goals as goal

pub loop-i-preserved : goal.loop-i-preserved
loop-i-preserved c = uniting-more c.loop-i.invariant (search rules) (ap (set c.loop-i.b c.loop-i.i) c.either.ensures)

pub returns-clause-placed : goal.returns-clause-placed
returns-clause-placed c = search uniting

pub returns-clause-marks : goal.returns-clause-marks
returns-clause-marks c = search uniting

pub returns-clause-behind : goal.returns-clause-behind
returns-clause-behind c = search uniting
