use Rattle.bodies.proofs.Loops.{parts_of}
use Rattle.bodies.proofs.for_loops.for_parts.Goals as goal

pub returns : goal.returns
returns c = parts_of _ _ _ _ _ _ _ _ c.args.here.accepted c.requires c.u16_at-name.ensures.0 c.type_at-ty.ensures c.skip_range-body_at.ensures c.skip_body.ensures c.span_at-span.ensures
