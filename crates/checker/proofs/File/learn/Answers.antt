use Rattle.std.proofs.Common.{rules, of_calls}
use Rattle.checker.proofs.Runs.{told_as}
use Rattle.checker.proofs.File.learn.Goals as goal

pub returns-clause-told : goal.returns-clause-told
returns-clause-told c =
    rw c.ok_or.ensures.value (told_as _ _ _ _ _ _ c.run-first.ensures c.run-first.auto.out _ c.at.ensures _ (search (of_calls, rules)))
