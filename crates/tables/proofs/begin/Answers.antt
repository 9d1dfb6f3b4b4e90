use Rattle.std.proofs.Common.{refl, arith}
use Rattle.tables.proofs.Becoming.{emptied, begun}
use Rattle.tables.proofs.begin.Goals as goal

pub returns : goal.returns
returns c = begun c.enter.ensures (emptied _ _ _ _ 9728 (c.fill.ensures.after (λ y e. e)) refl (omega arith))
