use Rattle.index.proofs.Places.{Placing}
use Rattle.index.proofs.place_texts.Given as goal

abbrev pub invariant-loop-place : goal.invariant-loop-place
invariant-loop-place l = Placing l.tree l.place-items l.n l.place-index l.at
