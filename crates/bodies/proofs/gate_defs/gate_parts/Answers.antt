use Rattle.bodies.proofs.Gates.{parts_of}
use Rattle.bodies.proofs.gate_defs.gate_parts.Goals as goal

pub returns : goal.returns
returns c = parts_of _ _ _ _ _ _ _ _ c.args.here.accepted c.requires c.u16_at-name.ensures.0 c.skip_names-qubits_at.ensures c.skip_names-body_at.ensures c.skip_body.ensures c.span_at-span.ensures
