use Rattle.std.proofs.Common.{arith}
use Rattle.accepted.specs.Fields.{counted_in}
use Rattle.constants.proofs.Modifiers.{sums_start, sums_first, sums_more, sums_end}
use Rattle.constants.proofs.modifier_control_count.Goals as goal

pub overflow_add-sum : goal.overflow_add-sum
overflow_add-sum c = let i = counted_in _ _ _ _ _ c.requires in omega arith

pub bounds-tree-at : goal.bounds-tree-at
bounds-tree-at c = counted_in _ _ _ _ _ c.requires

pub loop-init : goal.loop-init
loop-init c = sums_start _ _ _ _ c.requires (omega arith)

pub add_modifier-sum-requires : goal.add_modifier-sum-requires
add_modifier-sum-requires c = sums_first _ _ _ _ _ _ c.loop.invariant (omega arith)

pub loop-preserved : goal.loop-preserved
loop-preserved c = sums_more _ _ _ _ _ _ c.loop.invariant _ (omega arith) _ c.add_modifier-sum.ensures

pub returns : goal.returns
returns c = sums_end _ _ _ _ _ _ c.loop.invariant (omega arith)
