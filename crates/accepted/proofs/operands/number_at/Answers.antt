use Rattle.std.proofs.Common.{rules}
use Rattle.accepted.proofs.ReadOperands.{number_read}
use Rattle.accepted.proofs.operands.number_at.Goals as goal

pub returns : goal.returns
returns c = number_read _ _ c.requires _ _ c.option_at.ensures.none c.option_at.ensures.some (λ n p. (search rules, search rules))
