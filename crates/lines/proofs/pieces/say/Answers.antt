use Rattle.lines.proofs.Lines.{then_said, said-all, shown-said}
use Rattle.lines.proofs.pieces.say.Goals as goal

pub returns : goal.returns
returns c = then_said (said-all c.copy-a.ensures) (shown-said c.piece.ensures c.copy.ensures)
