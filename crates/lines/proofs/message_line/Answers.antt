use Rattle.lines.proofs.Lines.{message-line}
use Rattle.lines.proofs.message_line.Goals as goal

pub returns : goal.returns
returns c = message-line _ c.args.d c.letter.ensures c.head-a.ensures c.store_message-b.ensures c.put.ensures
