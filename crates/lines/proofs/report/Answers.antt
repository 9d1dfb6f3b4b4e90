use Rattle.std.proofs.Common.{arith}
use Rattle.lines.proofs.Lines.{reported, report_past}
use Rattle.lines.proofs.report.Goals as goal

pub returns-then-sink-gt256 : goal.returns-then-sink-gt256
returns-then-sink-gt256 c = report_past _ c.args.d c.args.sink _ (omega arith)

pub returns : goal.returns
returns c = reported c.args.sink _ c.args.d (omega arith) c.message_line-a.ensures c.note_line-b.ensures c.counted.ensures
