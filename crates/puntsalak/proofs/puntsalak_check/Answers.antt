use Rattle.std.proofs.Common.{◌∙◌}
use Rattle.puntsalak.proofs.puntsalak_check.Goals as goal

pub returns-clause-billed : goal.returns-clause-billed
returns-clause-billed c errors warnings size h = c.check.ensures.billed errors warnings size (c.check.ensures.answers ∙ h)
