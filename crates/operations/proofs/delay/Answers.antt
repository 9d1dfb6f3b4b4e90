use mathlib.Core.Path.{refl}
use Rattle.accepted.specs.Stmts.{delay_duration, delay_targets, delay-inside}
use Rattle.promises.specs.Walks.{state_of}
use Rattle.operations.proofs.Simple.{delay-walked}
use native.Mathlib.Omega.{arith}
use Rattle.operations.proofs.delay.Goals as goal

pub require_numeric-a-requires : goal.require_numeric-a-requires
require_numeric-a-requires c = let s = c.context-sema.ensures in rw s.0 (delay_duration _ _ _ _ c.args.here.accepted c.requires.2, tt)

pub use_targets-b-requires : goal.use_targets-b-requires
use_targets-b-requires c = let h = c.args.here.accepted in let s = c.context-sema.ensures in let n = rw s.0 at c.require_numeric-a.ensures.next in rw s.0 (delay_targets _ _ _ _ h c.requires.2 _ n, delay-inside _ _ _ _ h c.requires.2 _ n _ refl)

pub overflow_add-result : goal.overflow_add-result
overflow_add-result c = let s = c.context-sema.ensures in let i = delay-inside _ _ _ _ c.args.here.accepted c.requires.2 _ (rw s.0 at c.require_numeric-a.ensures.next) _ (rw s.0 at c.use_targets-b.ensures.next) in omega arith

pub returns : goal.returns
returns c = let s = c.context-sema.ensures in delay-walked _ _ _ (state_of c.args.here.at c.args.sink _) c.args.here.accepted c.requires.1 c.requires.2 _ (rw (s.0, s.1, s.2) at c.require_numeric-a.ensures) _ (rw (s.0, s.1, s.2) at c.use_targets-b.ensures)
