use Rattle.std.proofs.Common.{length}
use Rattle.sheet.proofs.Loops.{Comparing}
use Rattle.sheet.proofs.least.Given as goal

abbrev pub invariant-loop-key : goal.invariant-loop-key
invariant-loop-key l = Comparing l.keys l.x l.ends l.sheet l.best (length l.yielded)
