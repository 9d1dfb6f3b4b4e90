use Rattle.std.proofs.Common.{arith}
use Rattle.std.proofs.lemmas.Grind.{common_steps}
use Rattle.reading.proofs.Steps.{forget_goes}
use Rattle.reader.proofs.validate.Goals as goal

pub returns-in-At : goal.returns-in-At
returns-in-At c = let d = forget_goes _ _ c.in-At.ensures in grind (arith, common_steps)
