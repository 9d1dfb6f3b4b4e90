use Rattle.std.proofs.Common.{arith}
use Rattle.accepted.specs.Exprs.{neg-inside}
use Rattle.constants.proofs.Eval.{int-value, neg_value, pair_value}
use Rattle.constants.proofs.+eval_const_int.Goals as goal

pub overflow_add-result-in-7 : goal.overflow_add-result-in-7
overflow_add-result-in-7 t c =
    let i = neg-inside _ _ _ _ c.requires c.in-7.is _ c.eval_const_int-e.ensures.next in omega arith

pub returns-in-0 : goal.returns-in-0
returns-in-0 t c = int-value _ _ _ _ c.requires c.in-0.is _ c.u64_at.ensures _ c.from.ensures

pub returns-in-7 : goal.returns-in-7
returns-in-7 t c = neg_value _ _ _ _ c.requires c.in-7.is _ c.eval_const_int-e.ensures _ c.negate.ensures

pub returns-in-8 : goal.returns-in-8
returns-in-8 t c =
    pair_value _ _ _ _ c.requires c.in-8.is _ c.eval_const_int-l.ensures _ c.eval_const_int-r.ensures _ c.bin_op.ensures _ c.combine.ensures
