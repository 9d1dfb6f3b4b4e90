use Rattle.std.proofs.Common.{◌-◌}
use Rattle.tree.specs.Stmts.{param}
use Rattle.tree.specs.Decode.{texts_of}
use Rattle.scopes.specs.Scopes.{typed}
use Rattle.scopes.proofs.Filling.{Filling}
use Rattle.scopes.proofs.insert_params.Given as goal

abbrev pub invariant-loop : goal.invariant-loop
invariant-loop l = Filling (param (texts_of l.tree)) (typed l.span) l.tree l.initial.scratch l.depth l.at l.scratch (l.end - l.counter) l.k
