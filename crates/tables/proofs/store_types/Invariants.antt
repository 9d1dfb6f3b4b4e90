use Rattle.tables.proofs.Stores.{Copying}
use Rattle.tables.proofs.store_types.Given as goal

abbrev pub invariant-loop-i : goal.invariant-loop-i
invariant-loop-i l = Copying l.initial.s l.to l.tree l.at l.count l.s l.i
