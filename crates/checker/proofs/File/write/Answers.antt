use Rattle.checker.proofs.Judging.{listing-written}
use Rattle.verdict.proofs.Heads.{head-within}
use Rattle.checker.proofs.File.write.Goals as goal

pub run-requires : goal.run-requires
run-requires c = (c.requires.room, head-within _ _ _ c.first_line-head.ensures.after c.requires.learnt.1)

pub returns-clause-listed : goal.returns-clause-listed
returns-clause-listed c =
    let head = c.first_line-head.ensures in
    listing-written _ c.requires.few _ c.requires.learnt.0 c.requires.learnt.1 _ head.holds head.after c.run.ensures
