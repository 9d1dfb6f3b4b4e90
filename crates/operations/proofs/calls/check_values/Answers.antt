use Rattle.operations.proofs.Called.{values-said}
use Rattle.operations.proofs.calls.check_values.Goals as goal

pub returns : goal.returns
returns c = values-said _ _ _ c.requires.0 c.requires.1 c.check_modifiers-a.ensures c.check_params.ensures
