use Rattle.std.proofs.Common.{◌≡◌, ◌∙◌, ◌&&◌, true, arith}
use Rattle.std.proofs.lemmas.Grind.{common_steps}
use Rattle.std.specs.List.{fold}
use Rattle.reading.proofs.Spelled.{fold_every}
use Rattle.reading.proofs.spelling.all_of.Goals as goal

pub returns : goal.returns
returns g c = λ p q. let e : c.fold.result ≡ fold (λ good b. good && p b) true c.args.x.now = grind (arith, common_steps, q) in e ∙ fold_every _ true _
