use Rattle.operands.proofs.VecLaws.{broadcast_agree, broadcast_differ}
use Rattle.operands.proofs.check_broadcasting.Goals as goal

pub returns-then-widths_agree : goal.returns-then-widths_agree
returns-then-widths_agree c = broadcast_agree _ _ _ c.requires _ c.widths_agree.ensures c.if-widths_agree.true

pub returns : goal.returns
returns c = broadcast_differ _ _ _ c.requires _ c.widths_agree.ensures c.if-widths_agree.false c.error.ensures c.report.ensures
