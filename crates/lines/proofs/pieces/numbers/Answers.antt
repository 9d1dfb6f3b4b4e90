use Rattle.lines.proofs.Lines.{numbers-said}
use Rattle.lines.proofs.pieces.numbers.Goals as goal

pub returns : goal.returns
returns c = numbers-said _ _ c.decimal-a.ensures c.put-b.ensures c.decimal-c.ensures c.put.ensures
