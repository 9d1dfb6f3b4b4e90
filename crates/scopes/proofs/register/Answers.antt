use Rattle.scopes.proofs.Declaring.{register-declares}
use Rattle.scopes.proofs.register.Goals as goal

pub returns : goal.returns
returns c = register-declares _ _ _ _ c.requires.0 c.requires.1 c.requires.2 _ c.requires.3 _ c.u16_at-name.ensures.0 _ _ c.number_at-size.ensures _ c.span_at-decl_span.ensures
