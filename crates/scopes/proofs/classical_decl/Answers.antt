use Rattle.scopes.proofs.Declaring.{classical_declares}
use Rattle.scopes.proofs.classical_decl.Goals as goal

pub returns : goal.returns
returns c = classical_declares _ _ _ _ c.requires.0 c.requires.1 _ c.skip_qualifier-k.ensures _ c.type_at.ensures _ (rw (← c.qualifier_at.ensures) c.decl_kind-kind.ensures) _ c.u16_at-name.ensures.0 _ c.skip_option_expr-end.ensures _ c.span_at-decl_span.ensures
