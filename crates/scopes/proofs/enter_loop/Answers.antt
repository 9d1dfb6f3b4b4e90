use Rattle.scopes.proofs.Filling.{loop-entered}
use Rattle.scopes.proofs.enter_loop.Goals as goal

pub returns : goal.returns
returns c = loop-entered c.enter.ensures _ _ _ c.insert.ensures
