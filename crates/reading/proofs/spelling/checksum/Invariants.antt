use Rattle.std.proofs.Common.{◌<◌, length, drop}
use Rattle.reading.proofs.Sums.{Summing}
use Rattle.reading.proofs.spelling.checksum.Given as goal

abbrev pub invariant-loop-a : goal.invariant-loop-a
invariant-loop-a l = Summing l.x l.h l.rest

abbrev pub decreases-loop-a : goal.decreases-loop-a
decreases-loop-a l = length l.rest

abbrev pub invariant-loop-four : goal.invariant-loop-four
invariant-loop-four l = Summing l.x l.h l.rest

abbrev pub decreases-loop-four : goal.decreases-loop-four
decreases-loop-four l = length l.rest

abbrev pub invariant-loop-b : goal.invariant-loop-b
invariant-loop-b l = Summing l.x l.h (drop l.b-index l.b-items) × (length l.b-items < 4)
