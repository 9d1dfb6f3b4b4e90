use Rattle.std.proofs.Common.{◌≡◌, ◌∙◌, ◌||◌, false, eqb, arith}
use Rattle.std.proofs.lemmas.Grind.{common_steps}
use Rattle.std.specs.List.{fold}
use Rattle.reading.proofs.Repeated.{fold_any}
use Rattle.reading.proofs.texts.has_sum.Goals as goal

pub returns : goal.returns
returns c = let e : c.fold.result ≡ fold (λ g other. g || eqb other c.args.sum) false c.args.sums.now = grind (arith, common_steps) in e ∙ fold_any c.args.sum false c.args.sums.now
