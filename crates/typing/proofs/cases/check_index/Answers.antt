use Rattle.typing.proofs.Names.{index-missing, index-there}
use Rattle.typing.proofs.cases.check_index.Goals as goal

pub returns-in_default : goal.returns-in_default
returns-in_default c = index-missing _ _ _ c.get.ensures c.u16_at-x.ensures.0 c.span_at-span.ensures c.u64_at-i.ensures c.in_default.is c.refuse.ensures

pub returns : goal.returns
returns c = index-there _ _ _ c.get.ensures c.u16_at-x.ensures.0 c.span_at-span.ensures c.in-Some.is c.u64_at-i.ensures c.index_type.ensures
