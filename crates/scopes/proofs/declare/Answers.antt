use Rattle.scopes.specs.Laws.{inserted_below}
use Rattle.scopes.proofs.Declaring.{declared-new, declared-again}
use native.Mathlib.Omega.{arith}
use Rattle.scopes.proofs.declare.Goals as goal

pub returns-then-is_none-clause-becomes : goal.returns-then-is_none-clause-becomes
returns-then-is_none-clause-becomes c = declared-new _ c.args.symbol _ c.get_current-prev.ensures c.if-is_none.ensures c.insert.ensures

pub returns-then-is_none-clause-below : goal.returns-then-is_none-clause-below
returns-then-is_none-clause-below c = inserted_below _ _ _ _ _ (omega arith) c.insert.ensures

pub returns-else-is_none-clause-becomes : goal.returns-else-is_none-clause-becomes
returns-else-is_none-clause-becomes c = declared-again _ c.args.symbol _ c.get_current-prev.ensures c.if-is_none.ensures
