use Rattle.declarations.proofs.Functions.{function_at}
use Rattle.declarations.proofs.parts.function_at.Goals as goal

pub returns : goal.returns
returns c = function_at _ _ _ c.args.here.accepted c.requires _ c.skip_params-k.ensures _ c.skip_expr-m.ensures _ c.u16_at-name.ensures.0 _ c.type_at-return_type.ensures _ c.span_at-span.ensures
