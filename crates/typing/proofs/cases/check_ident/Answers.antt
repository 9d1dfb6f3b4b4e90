use Rattle.typing.proofs.Names.{ident-missing, ident-there}
use Rattle.typing.proofs.cases.check_ident.Goals as goal

pub returns-in_default : goal.returns-in_default
returns-in_default c = ident-missing _ _ _ c.get.ensures c.u16_at-x.ensures.0 c.span_at-span.ensures c.in_default.is c.refuse.ensures

pub returns : goal.returns
returns c = ident-there _ _ _ c.get.ensures c.u16_at-x.ensures.0 c.span_at-span.ensures c.in-Some.is c.ident_type.ensures
