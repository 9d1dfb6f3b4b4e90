use Rattle.bodies.proofs.Gates.{gate-entered}
use Rattle.bodies.proofs.gate_defs.define_gate.Goals as goal

pub returns : goal.returns
returns c = gate-entered _ _ _ _ _ _ _ _ _ _ c.count_at.ensures c.count_at-2.ensures c.requires.1 c.define_gate.ensures c.enter_gate.ensures
