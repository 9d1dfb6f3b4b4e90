use Rattle.accepted.proofs.ReadOperands.{single_read}
use Rattle.accepted.proofs.singles.single_at.Goals as goal

pub returns : goal.returns
returns c = let p = c.requires in single_read _ _ _ p.0 p.1 _ _ _ c.u16_at.ensures.0 c.u64_at-i.ensures c.span_at-span.ensures
