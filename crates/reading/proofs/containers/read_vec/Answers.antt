use Rattle.std.proofs.Common.{◌∙◌, sym, arith, [], ◌∷◌}
use Rattle.reading.proofs.Held.{forget-unit, vec_stops, vec_goes}
use Rattle.reading.proofs.containers.read_vec.Goals as goal

pub returns-in_default-b : goal.returns-in_default-b
returns-in_default-b g c = λ p reads. vec_stops [] ◌∷◌ p _ _ _ _ (omega arith) _ (reads _ _ c.read-b.ensures ∙ sym (forget-unit _)) _ (c.loop.invariant p reads) _ c.in_default-b.is

pub loop-preserved : goal.loop-preserved
loop-preserved g c = λ p reads. vec_goes [] ◌∷◌ p _ _ _ _ (omega arith) _ (reads _ _ c.read-b.ensures ∙ sym (forget-unit _)) _ (c.loop.invariant p reads) _ _ c.in-At-b.is
