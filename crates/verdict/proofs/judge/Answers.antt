use Rattle.std.proofs.Common.{arith}
use Rattle.verdict.proofs.Judging.{judges-many, judges-long, judges-fine}
use Rattle.verdict.proofs.judge.Goals as goal

pub returns-then-count-gt256-clause-answers : goal.returns-then-count-gt256-clause-answers
returns-then-count-gt256-clause-answers c = rw c.at.ensures (judges-many _ _ (omega arith))

pub returns-then-room-size-clause-answers : goal.returns-then-room-size-clause-answers
returns-then-room-size-clause-answers c =
    rw c.at-then-room-size.ensures (judges-long _ _ (omega arith) _ (omega (arith, c.head_size.ensures.0)) c.if-room-size.true)

pub returns-clause-answers : goal.returns-clause-answers
returns-clause-answers c = judges-fine _ _ (omega arith) _ (omega (arith, c.head_size.ensures.0)) c.if-room-size.false _ _ (omega arith) (omega arith)
