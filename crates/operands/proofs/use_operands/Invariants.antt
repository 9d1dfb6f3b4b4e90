use Rattle.std.proofs.Common.{◌-◌}
use Rattle.context.specs.Given.{texts, scopes}
use Rattle.operands.specs.Measured.{marks}
use Rattle.operands.proofs.VecLaws.{Using}
use Rattle.operands.proofs.use_operands.Given as goal

abbrev pub invariant-loop : goal.invariant-loop
invariant-loop l =
    Using (texts l.m.sema) l.m.sema.texts.tree.now (scopes l.m.sema) (marks l.m) l.span l.at l.fn.sink l.fn.out
    (l.end - l.counter) l.k l.s l.out
