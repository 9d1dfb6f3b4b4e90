use Rattle.accepted.specs.Spans.{span-room, span_in}
use Rattle.typing.proofs.Requires.{require_said}
use Rattle.typing.proofs.require.Goals as goal

pub check_wanted-requires : goal.check_wanted-requires
check_wanted-requires c = let p = c.requires in let e = c.check_expr-t.ensures in (p.1, span-room _ 32 _ _ p.0 _ e.next, span_in _ 32 _ _ p.0 _ e.next)

pub returns : goal.returns
returns c = require_said _ _ _ _ _ c.requires.0 c.check_expr-t.ensures _ c.check_wanted.ensures
