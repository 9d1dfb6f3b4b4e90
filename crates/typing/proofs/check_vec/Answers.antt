use Rattle.typing.proofs.Vecs.{checked_on}
use Rattle.typing.proofs.check_vec.Goals as goal

pub loop-preserved : goal.loop-preserved
loop-preserved g c = checked_on _ _ _ _ _ _ _ _ c.loop.invariant c.check-a.ensures
