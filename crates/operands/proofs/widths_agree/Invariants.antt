use Rattle.std.proofs.Common.{◌-◌}
use Rattle.context.specs.Given.{texts, scopes}
use Rattle.operands.proofs.VecLaws.{Meeting}
use Rattle.operands.proofs.widths_agree.Given as goal

abbrev pub invariant-loop : goal.invariant-loop
invariant-loop l = Meeting (texts l.sema) l.sema.texts.tree.now (scopes l.sema) l.at (l.n - l.counter) l.k l.met
