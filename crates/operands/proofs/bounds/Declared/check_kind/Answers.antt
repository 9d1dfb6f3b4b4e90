use Rattle.operands.proofs.Checks.{kind-said}
use Rattle.operands.proofs.bounds.Declared.check_kind.Goals as goal

pub returns : goal.returns
returns c = search kind-said
