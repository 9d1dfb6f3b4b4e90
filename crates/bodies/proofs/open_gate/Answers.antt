use Rattle.promises.specs.Walks.{state_of}
use Rattle.bodies.proofs.Gates.{gate-opened}
use Rattle.bodies.proofs.open_gate.Goals as goal

pub returns : goal.returns
returns c marks =
    let s = c.context-sema.ensures in
    gate-opened _ _ (state_of c.args.here.at c.args.sink marks) _ _ _ _ _ _ c.gate_parts-parts.ensures (rw (s.0, s.1) at c.report_gate-said.ensures) c.define_gate.ensures
