use Rattle.scopes.proofs.Filling.{function_entered}
use Rattle.scopes.proofs.enter_function.Goals as goal

pub returns : goal.returns
returns c = function_entered c.enter.ensures _ _ c.insert_params.ensures
