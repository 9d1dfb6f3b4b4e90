use Rattle.sheet.proofs.Adding.{Adding}
use Rattle.sheet.proofs.new_keys.add_range.Given as goal

abbrev pub invariant-loop-j : goal.invariant-loop-j
invariant-loop-j l = Adding l.initial.index l.count l.x l.i l.n l.j-end l.index l.c l.j
