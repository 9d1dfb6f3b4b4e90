use Rattle.std.proofs.Common.{arith}
use Rattle.tables.proofs.Stores.{copying_more, copying_end}
use Rattle.tables.proofs.store_types.Goals as goal

pub loop-i-preserved : goal.loop-i-preserved
loop-i-preserved c = copying_more c.loop-i.invariant (omega arith)

pub returns : goal.returns
returns c = copying_end c.loop-i.invariant (omega arith)
