use Rattle.operands.proofs.Checks.{check-said}
use Rattle.operands.proofs.check_operand.Goals as goal

pub returns-in_default : goal.returns-in_default
returns-in_default c = search check-said

pub returns : goal.returns
returns c = search check-said
