use Rattle.operations.proofs.Arity.{undefined, defined}
use Rattle.operations.proofs.calls.check_signature.Goals as goal

pub returns-in_default : goal.returns-in_default
returns-in_default c = search undefined

pub returns : goal.returns
returns c = search defined
