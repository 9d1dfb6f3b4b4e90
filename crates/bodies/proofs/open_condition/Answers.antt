use Rattle.std.proofs.Common.{refl}
use Rattle.bodies.proofs.open_condition.Goals as goal

pub returns : goal.returns
returns c marks =
    let s = c.context-sema.ensures in
    let t = rw (s.0, s.1, s.2) at c.require_type-a.ensures in
    record { at = t.next; keys = refl; marks = refl; emitted = t.emitted; becomes = c.enter.ensures }
