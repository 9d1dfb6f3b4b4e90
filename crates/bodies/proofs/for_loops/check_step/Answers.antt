use Rattle.bodies.proofs.Loops.{step-none, step-some}
use Rattle.bodies.proofs.for_loops.check_step.Goals as goal

pub returns-then-sema-at-eq0 : goal.returns-then-sema-at-eq0
returns-then-sema-at-eq0 c = step-none _ _ _ _ _ c.requires c.if-sema-at-eq0.true

pub returns : goal.returns
returns c = step-some _ _ _ _ _ c.requires c.if-sema-at-eq0.false c.require_type.ensures
