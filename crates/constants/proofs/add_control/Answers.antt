use Rattle.std.proofs.Common.{arith}
use Rattle.accepted.specs.Fields.{option_in, option-held}
use Rattle.constants.proofs.Modifiers.{counted-one, counted-more}
use Rattle.constants.proofs.add_control.Goals as goal

pub bounds-tree-at : goal.bounds-tree-at
bounds-tree-at c = option_in _ _ _ c.requires

pub overflow_add-result : goal.overflow_add-result
overflow_add-result c = let i = option_in _ _ _ c.requires in omega arith

pub returns-then-tree-at-eq0 : goal.returns-then-tree-at-eq0
returns-then-tree-at-eq0 c = counted-one _ _ _ _ c.requires c.if-tree-at-eq0.true _ c.add_count.ensures

pub eval_const_int-e-requires : goal.eval_const_int-e-requires
eval_const_int-e-requires c = option-held _ _ _ c.requires c.if-tree-at-eq0.false

pub returns : goal.returns
returns c =
    counted-more _ _ _ _ c.requires c.if-tree-at-eq0.false _ c.eval_const_int-e.ensures _ c.count_of.ensures _ c.add_count-2.ensures
