use Rattle.typing.proofs.Requires.{wanted_absent, wanted_right, wanted_wrong}
use Rattle.typing.proofs.demands.check_wanted.Goals as goal

pub returns-in_default : goal.returns-in_default
returns-in_default c = wanted_absent _ _ c.in_default.is

pub returns-then-meets : goal.returns-then-meets
returns-then-meets c = wanted_right _ _ c.in-Some.is c.meets.ensures c.if-meets.true

pub returns : goal.returns
returns c = wanted_wrong _ _ c.in-Some.is c.meets.ensures c.if-meets.false c.span_at-span.ensures c.complaint.ensures c.error.ensures c.report.ensures
