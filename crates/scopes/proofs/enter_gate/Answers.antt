use Rattle.scopes.proofs.Filling.{gate-entered}
use Rattle.scopes.proofs.enter_gate.Goals as goal

pub returns : goal.returns
returns c = gate-entered c.enter.ensures _ _ _ c.insert_names.ensures c.insert_names-2.ensures
