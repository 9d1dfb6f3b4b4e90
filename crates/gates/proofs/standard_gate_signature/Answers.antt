use Rattle.std.proofs.Common.{rules}
use Rattle.gates.proofs.Names.{lowering_start, lowering_more, lowering_end}
use Rattle.gates.proofs.standard_gate_signature.Goals as goal

pub loop-i-init : goal.loop-i-init
loop-i-init c = lowering_start _ _ (search rules)

pub loop-i-preserved : goal.loop-i-preserved
loop-i-preserved c = rw c.lower_letter.ensures (lowering_more _ _ _ c.loop-i.invariant c.loop-i-test.true)

pub returns : goal.returns
returns c = rw (← lowering_end _ _ _ c.loop-i.invariant c.loop-i.auto.i-end c.loop-i-test.false) c.standard_gate.ensures
