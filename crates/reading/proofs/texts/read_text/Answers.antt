use Rattle.std.proofs.Common.{◌+◌, arith}
use Rattle.std.proofs.lemmas.Grind.{common_steps}
use Rattle.tree.specs.Ans.{bind, here, check, done}
use Rattle.tree.specs.Read.{byte, bytes, within}
use Rattle.tree.specs.Texts.{text, among}
use Rattle.reading.specs.Section.{kind_read}
use Rattle.reading.proofs.Steps.{steps}
use Rattle.reading.proofs.Named.{kind_allowed}
use Rattle.reading.proofs.texts.read_text.Goals as goal

pub returns-then-eq : goal.returns-then-eq
unfolding kind_read text among byte bytes within here check done bind
returns-then-eq c =
    let fine = kind_allowed _ _ c.kind-kind.ensures _ c.eq.ensures c.if-eq.true c.in-At.start c.args.s.now (c.in-At.start + c.from.result) in
    grind (arith, common_steps, steps, fine)

pub returns-in_default : goal.returns-in_default
unfolding kind_read text among byte bytes within here check done bind
returns-in_default c = grind (arith, common_steps, steps)
