use Rattle.std.proofs.Common.{arith}
use Rattle.tables.proofs.Views.{param_at}
use Rattle.tables.proofs.param_type.Goals as goal

pub overflow_add-x-3 : goal.overflow_add-x-3
overflow_add-x-3 c = omega (arith, param_at _ _ _ (omega arith) c.requires.2)

pub bounds-scratch-x : goal.bounds-scratch-x
bounds-scratch-x c = omega (arith, param_at _ _ _ (omega arith) c.requires.2)
