use Rattle.std.proofs.Common.{◌-◌}
use Rattle.tree.specs.Exprs.{name}
use Rattle.tree.specs.Decode.{texts_of}
use Rattle.context.specs.Values.{kind_of}
use Rattle.scopes.specs.Scopes.{named}
use Rattle.scopes.proofs.Filling.{Filling}
use Rattle.scopes.proofs.insert_names.Given as goal

abbrev pub invariant-loop : goal.invariant-loop
invariant-loop l = Filling (name (texts_of l.tree)) (named (kind_of l.fn.kind) l.fn.span) l.tree l.initial.scratch l.depth l.at l.scratch (l.end - l.counter) l.k
