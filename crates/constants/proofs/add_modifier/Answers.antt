use Rattle.std.proofs.Common.{arith}
use Rattle.accepted.specs.Operands.{modifier_in}
use Rattle.constants.proofs.Modifiers.{control_count_lem, control-inside, added-control, added_none}
use Rattle.constants.proofs.add_modifier.Goals as goal

pub bounds-tree-at : goal.bounds-tree-at
bounds-tree-at c = modifier_in _ _ _ c.requires

pub overflow_add-at : goal.overflow_add-at
overflow_add-at c = let i = modifier_in _ _ _ c.requires in omega arith

pub add_control-sum-requires : goal.add_control-sum-requires
add_control-sum-requires c = control_count_lem _ _ _ c.requires c.if-tree-at-lt2.true

pub overflow_add-result : goal.overflow_add-result
overflow_add-result c = let i = control-inside _ _ _ c.requires c.if-tree-at-lt2.true _ c.add_control-sum.ensures.next in omega arith

pub returns-then-tree-at-lt2 : goal.returns-then-tree-at-lt2
returns-then-tree-at-lt2 c = added-control _ _ _ _ c.requires c.if-tree-at-lt2.true _ c.add_control-sum.ensures

pub returns : goal.returns
returns c = added_none _ _ _ _ c.requires c.if-tree-at-lt2.false _ c.skip_modifier.ensures
