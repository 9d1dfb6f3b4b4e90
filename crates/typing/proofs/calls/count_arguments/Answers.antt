use Rattle.typing.proofs.Callees.{count-right, count-wrong}
use Rattle.typing.proofs.calls.count_arguments.Goals as goal

pub returns-then-n-sig : goal.returns-then-n-sig
returns-then-n-sig c = count-right _ _ _ _ _ c.if-n-sig.true

pub returns : goal.returns
returns c = count-wrong _ _ _ _ _ c.if-n-sig.false (rw (c.from.ensures, c.from-2.ensures) at c.error_with_note.ensures) c.report.ensures
