use Rattle.accepted.specs.Stmts.{include-inside}
use Rattle.operations.proofs.Simple.{include-walked}
use native.Mathlib.Omega.{arith}
use Rattle.promises.specs.Walks.{state_of}
use Rattle.promises.specs.WalkLaws.{passed-ready}
use Rattle.operations.proofs.include.Goals as goal

pub overflow_add-result : goal.overflow_add-result
overflow_add-result c = let i = include-inside _ _ _ _ c.args.here.accepted c.requires.1 in omega arith

pub returns : goal.returns
returns c = λ ks marks placed. include-walked _ ks _ (state_of _ _ marks) c.args.here.accepted (passed-ready c.requires.0 placed) c.requires.1
