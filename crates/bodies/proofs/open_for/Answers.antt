use Rattle.accepted.specs.Stmts.{for_loop_range}
use Rattle.promises.specs.Walks.{state_of}
use Rattle.bodies.proofs.Loops.{for_opened}
use Rattle.bodies.proofs.open_for.Goals as goal

pub returns : goal.returns
returns c marks =
    let s = c.context-sema.ensures in
    for_opened _ _ (state_of c.args.here.at c.args.sink marks) _ _ _ _ _ _ _ _ (for_loop_range _ _ _ _ c.args.here.accepted c.requires.2) c.for_parts-parts.ensures (rw s.0 at c.report_type-a.ensures) (rw (s.0, s.1, s.2) at c.check_range-said.ensures) c.enter_loop.ensures
