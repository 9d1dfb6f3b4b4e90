use Rattle.lines.proofs.Sink.{copied-all}
use Rattle.lines.proofs.pieces.copy.Goals as goal

pub returns : goal.returns
returns c = copied-all c.min-start.ensures c.min.ensures c.loop-i.invariant c.loop-i-test.false
