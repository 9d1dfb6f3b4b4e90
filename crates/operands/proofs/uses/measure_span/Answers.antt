use native.Mathlib.Omega.{arith}
use Rattle.operands.proofs.UseLaws.{measured_in}
use Rattle.operands.proofs.uses.measure_span.Goals as goal

pub overflow_add-place : goal.overflow_add-place
overflow_add-place c = let i = measured_in _ _ c.requires in omega arith
