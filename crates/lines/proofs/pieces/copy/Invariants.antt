use Rattle.lines.proofs.Sink.{Copying}
use Rattle.lines.proofs.pieces.copy.Given as goal

abbrev pub invariant-loop-i : goal.invariant-loop-i
invariant-loop-i l = Copying l.s l.initial.part l.part l.i
