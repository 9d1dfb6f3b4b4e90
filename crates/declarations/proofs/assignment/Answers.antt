use Rattle.promises.specs.Walks.{state_of}
use Rattle.promises.specs.WalkLaws.{passed-ready}
use Rattle.declarations.proofs.Targets.{assignment-walked}
use Rattle.declarations.proofs.assignment.Goals as goal

pub returns : goal.returns
returns c ks marks placed =
    let s = c.context-sema.ensures in
    assignment-walked _ ks _ (state_of _ _ marks) c.args.here.accepted c.requires.1 _ _ _ (passed-ready c.requires.0 placed) (rw (s.0, s.1, s.2) at c.check_expr-value.ensures) c.u16_at.ensures.0 c.assign_op_at.ensures c.span_at.ensures (rw (s.0, s.1, s.2) at c.check_target-s.ensures)
