use Rattle.gates.proofs.Names.{Lowering}
use Rattle.gates.proofs.standard_gate_signature.Given as goal

abbrev pub invariant-loop-i : goal.invariant-loop-i
invariant-loop-i l = Lowering l.name l.lowered l.i
