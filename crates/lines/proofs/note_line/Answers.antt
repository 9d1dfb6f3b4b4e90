use Rattle.lines.proofs.Lines.{note-line, no-note}
use Rattle.lines.proofs.note_line.Goals as goal

pub returns-in_default : goal.returns-in_default
returns-in_default c = no-note _ c.in_default.is

pub returns : goal.returns
returns c = note-line _ c.in-Some.is c.head-a.ensures c.store_note-b.ensures c.put.ensures
