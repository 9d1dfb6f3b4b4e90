use Rattle.reading.proofs.Repeated.{looking-more}
use Rattle.reading.proofs.texts.is_repeated.Goals as goal

pub loop-other-preserved : goal.loop-other-preserved
loop-other-preserved c = looking-more _ _ _ _ _ c.loop-other.invariant c.loop-other-test.true _ c.is_text.ensures c.if-is_text.false _ c.past_text-k.ensures
