use Rattle.reading.proofs.Gathered.{Going}
use Rattle.reading.proofs.texts.read_texts.Given as goal

abbrev pub invariant-loop-i : goal.invariant-loop-i
invariant-loop-i l = Going l.s l.kinds l.sums l.met l.n l.i l.k
