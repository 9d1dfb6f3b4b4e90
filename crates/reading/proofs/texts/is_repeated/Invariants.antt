use Rattle.std.proofs.Common.{drop}
use Rattle.reading.proofs.Repeated.{Looking}
use Rattle.reading.proofs.texts.is_repeated.Given as goal

abbrev pub invariant-loop-other : goal.invariant-loop-other
invariant-loop-other l = Looking l.s l.x l.sums l.k (drop l.other-index l.sums)
