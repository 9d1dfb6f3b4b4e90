use Rattle.std.proofs.Common.{arith}
use Rattle.tables.proofs.Stores.{cleared_by}
use Rattle.tables.proofs.clear.Goals as goal

pub returns : goal.returns
returns c = cleared_by _ _ (c.fill.ensures.after (λ y e. e)) (omega arith)
