use Rattle.std.proofs.Common.{refl, arith}
use Rattle.tables.proofs.Views.{symbol-part}
use Rattle.tables.proofs.symbol_at.Goals as goal

pub returns : goal.returns
returns c =
    symbol-part _ c.args.level c.args.x _ _ c.if-code-eq0.false c.kind_of.ensures c.size_at.ensures c.span_at.ensures _ refl (omega arith)
