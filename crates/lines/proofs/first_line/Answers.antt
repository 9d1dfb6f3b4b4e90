use Rattle.lines.proofs.Lines.{first-line}
use Rattle.lines.proofs.first_line.Goals as goal

pub returns : goal.returns
returns c = first-line _ _ c.copy-a.ensures c.numbers.ensures c.from.ensures c.from-2.ensures
