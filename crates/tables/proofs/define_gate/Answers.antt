use Rattle.tables.proofs.Becoming.{gate_defined}
use Rattle.tables.proofs.define_gate.Goals as goal

pub returns : goal.returns
returns c = search gate_defined
