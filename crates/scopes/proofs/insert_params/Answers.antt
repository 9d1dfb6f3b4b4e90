use Rattle.std.proofs.Common.{refl}
use Rattle.scopes.proofs.Filling.{filling_none, filling_first, filling_step, filling_done, param-read}
use Rattle.scopes.proofs.insert_params.Goals as goal

pub loop-init : goal.loop-init
loop-init c = filling_none _ c.requires.4 refl

pub loop-preserved : goal.loop-preserved
loop-preserved c = filling_step c.loop.invariant c.loop-test.true (param-read _ _ _ (filling_first c.loop.invariant c.loop-test.true) _ c.type_at-ty.ensures _ c.u16_at-x.ensures.0) c.insert.ensures

pub returns : goal.returns
returns c = filling_done c.loop.invariant c.loop-test.false
