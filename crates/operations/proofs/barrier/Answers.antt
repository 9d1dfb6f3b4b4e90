use mathlib.Core.Path.{refl}
use Rattle.accepted.specs.Stmts.{barrier_targets, barrier-inside}
use Rattle.promises.specs.Walks.{state_of}
use Rattle.operations.proofs.Simple.{barrier-walked}
use native.Mathlib.Omega.{arith}
use Rattle.operations.proofs.barrier.Goals as goal

pub use_targets-a-requires : goal.use_targets-a-requires
use_targets-a-requires c = let h = c.args.here.accepted in rw c.context-sema.ensures.0 (barrier_targets _ _ _ _ h c.requires.2, barrier-inside _ _ _ _ h c.requires.2 _ refl)

pub overflow_add-result : goal.overflow_add-result
overflow_add-result c = let i = barrier-inside _ _ _ _ c.args.here.accepted c.requires.2 _ (rw c.context-sema.ensures.0 at c.use_targets-a.ensures.next) in omega arith

pub returns : goal.returns
returns c = let s = c.context-sema.ensures in barrier-walked _ _ _ (state_of c.args.here.at c.args.sink _) c.args.here.accepted c.requires.1 c.requires.2 _ (rw (s.0, s.1, s.2) at c.use_targets-a.ensures)
