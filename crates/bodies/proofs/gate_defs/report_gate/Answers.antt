use Rattle.bodies.proofs.Gates.{gate_unknown, gate_known_lem}
use Rattle.bodies.proofs.gate_defs.report_gate.Goals as goal

pub returns-then-is_none : goal.returns-then-is_none
returns-then-is_none c = gate_unknown _ _ _ _ c.gate.ensures c.if-is_none.ensures

pub returns : goal.returns
returns c = gate_known_lem _ _ _ _ c.gate.ensures c.if-is_none.ensures c.error.ensures c.report.ensures
