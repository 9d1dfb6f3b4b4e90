use Rattle.std.proofs.Common.{arith}
use Rattle.tables.proofs.Becoming.{emptied, entered}
use Rattle.tables.proofs.enter.Goals as goal

pub returns : goal.returns
returns c = entered (omega arith) (emptied _ _ _ _ 256 (c.fill.ensures.after (λ y e. e)) (omega arith) (omega arith))
