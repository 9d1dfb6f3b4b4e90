use Rattle.std.proofs.Common.{rules}
use Rattle.tables.proofs.Stores.{gate_stored}
use Rattle.tables.proofs.store_gate.Goals as goal

pub returns : goal.returns
returns c = (search gate_stored, search rules)
