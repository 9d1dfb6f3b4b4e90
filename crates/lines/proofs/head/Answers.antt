use Rattle.lines.proofs.Lines.{head-said}
use Rattle.lines.proofs.head.Goals as goal

pub returns : goal.returns
returns c = head-said c.args.span c.from.ensures c.from-2.ensures c.put-a.ensures c.put-b.ensures c.numbers.ensures
