use Rattle.std.proofs.Common.{rules}
use native.Mathlib.Omega.{arith}
use mathlib.Core.Path.{refl}
use Rattle.text.proofs.Unlike.{unlike}
use Rattle.accepted.specs.Fields.{counted_in}
use Rattle.accepted.specs.Exprs.{expr_in, expr_left, expr_forward, ident-inside, ident-named, index-inside, index-named, call-named, call-args, call-inside, neg_inner, neg-inside, operation, pair_lhs, pair_rhs, pair_inside}
use Rattle.typing.proofs.Names.{name_below}
use Rattle.accepted.specs.Spans.{span-room, span_in}
use Rattle.typing.proofs.Exprs.{int_typing, float_typing, bool_typing, const_typing, ident_typing, index_typing, neg_typing, pair_typing}
use Rattle.typing.proofs.Arguments.{arguing_start, arguing_first, arguing_more, arguing_end, call_typing}
use Rattle.typing.proofs.Callees.{callee_typed, callee_params}
use Rattle.typing.proofs.+check_arguments_check_call_check_expr.Goals as goal

pub check_arguments-overflow_add-k : goal.check_arguments-overflow_add-k
check_arguments-overflow_add-k t c = let i = counted_in _ _ _ _ _ c.requires.2 in omega arith

pub check_arguments-bounds-sema-at : goal.check_arguments-bounds-sema-at
check_arguments-bounds-sema-at t c = counted_in _ _ _ _ _ c.requires.2

pub check_arguments-loop-i-init : goal.check_arguments-loop-i-init
check_arguments-loop-i-init t c = let p = c.requires in (arguing_start refl p.2, refl)

pub check_arguments-check_expr_in-t-requires : goal.check_arguments-check_expr_in-t-requires
check_arguments-check_expr_in-t-requires t c = let g = c.loop-i.invariant.0 in let i = expr_in _ _ _ _ (arguing_first g c.loop-i-test.true) in (omega (arith, g.past), (arguing_first g c.loop-i-test.true))

pub check_arguments-check_argument-s-requires : goal.check_arguments-check_argument-s-requires
check_arguments-check_argument-s-requires t c = let p = c.requires in let h = arguing_first c.loop-i.invariant.0 c.loop-i-test.true in let e = c.check_expr_in-t.ensures.next in (p.0, p.1, span-room _ _ _ _ h _ e, span_in _ _ _ _ h _ e)

pub check_arguments-loop-i-preserved : goal.check_arguments-loop-i-preserved
check_arguments-loop-i-preserved t c = (arguing_more c.loop-i.invariant.0 c.loop-i-test.true c.check_expr_in-t.ensures c.check_argument-s.ensures, search rules)

pub check_arguments-returns : goal.check_arguments-returns
check_arguments-returns t c = arguing_end c.loop-i.invariant.0 c.loop-i-test.false

pub check_call-u16_at-x-requires : goal.check_call-u16_at-x-requires
check_call-u16_at-x-requires t c = let p = c.requires in let i = (call-named _ _ _ _ p.0 p.1).inside in omega arith

pub check_call-overflow_sub-left : goal.check_call-overflow_sub-left
check_call-overflow_sub-left t c = let l = expr_left _ _ _ _ c.requires.0 in omega arith

pub check_call-skip_exprs-end-requires : goal.check_call-skip_exprs-end-requires
check_call-skip_exprs-end-requires t c = let p = c.requires in call-args _ _ _ _ p.0 p.1

pub check_call-span_at-span-requires : goal.check_call-span_at-span-requires
check_call-span_at-span-requires t c = let p = c.requires in call-inside _ _ _ _ p.0 p.1 _ c.skip_exprs-end.ensures

pub check_call-overflow_add-next : goal.check_call-overflow_add-next
check_call-overflow_add-next t c = let p = c.requires in let i = call-inside _ _ _ _ p.0 p.1 _ c.skip_exprs-end.ensures in omega arith

pub check_call-bounds-sema-at : goal.check_call-bounds-sema-at
check_call-bounds-sema-at t c = let p = c.requires in counted_in _ _ _ _ _ (call-args _ _ _ _ p.0 p.1)

pub check_call-check_callee-f-requires : goal.check_call-check_callee-f-requires
check_call-check_callee-f-requires t c = let p = c.requires in (name_below c.u16_at-x.ensures.0 (call-named _ _ _ _ p.0 p.1).below)

pub check_call-overflow_sub-left-2 : goal.check_call-overflow_sub-left-2
check_call-overflow_sub-left-2 t c = let l = expr_left _ _ _ _ c.requires.0 in omega arith

pub check_call-check_arguments-sink-requires : goal.check_call-check_arguments-sink-requires
check_call-check_arguments-sink-requires t c = let p = c.requires in let i = (call-named _ _ _ _ p.0 p.1).inside in (omega arith, (name_below c.u16_at-x.ensures.0 (call-named _ _ _ _ p.0 p.1).below, callee_params _ c.check_callee-f.ensures.sig c.map_or-params.ensures (λ sig h. search rules), call-args _ _ _ _ p.0 p.1))

pub check_call-returns : goal.check_call-returns
check_call-returns t c = let p = c.requires in call_typing _ _ _ _ _ _ p.0 p.1 c.u16_at-x.ensures.0 c.skip_exprs-end.ensures c.span_at-span.ensures refl c.check_callee-f.ensures c.check_arguments-sink.ensures (callee_typed _ _ c.check_callee-f.ensures.sig c.map-typed.ensures.cases (λ sig ty h. search rules))

pub check_expr_in-bounds-sema-at : goal.check_expr_in-bounds-sema-at
check_expr_in-bounds-sema-at t c = expr_in _ _ _ _ c.requires

pub check_expr_in-overflow_add-at : goal.check_expr_in-overflow_add-at
check_expr_in-overflow_add-at t c = let i = expr_in _ _ _ _ c.requires in omega arith

pub check_expr_in-check_ident-requires : goal.check_expr_in-check_ident-requires
check_expr_in-check_ident-requires t c = let p = c.requires in (ident-inside _ _ _ _ p c.in-3.is, (ident-named _ _ _ _ p c.in-3.is).below)

pub check_expr_in-check_index-requires : goal.check_expr_in-check_index-requires
check_expr_in-check_index-requires t c = let p = c.requires in (index-inside _ _ _ _ p c.in-4.is, (index-named _ _ _ _ p c.in-4.is).below)

pub check_expr_in-overflow_sub-left : goal.check_expr_in-overflow_sub-left
check_expr_in-overflow_sub-left t c = let l = expr_left _ _ _ _ c.requires in omega arith

pub check_expr_in-check_expr_in-t-requires : goal.check_expr_in-check_expr_in-t-requires
check_expr_in-check_expr_in-t-requires t c = let p = c.requires in let i = expr_in _ _ _ _ p in (omega arith, (neg_inner _ _ _ _ p c.in-7.is))

pub check_expr_in-negation-requires : goal.check_expr_in-negation-requires
check_expr_in-negation-requires t c = let p = c.requires in (neg-inside _ _ _ _ p c.in-7.is _ c.check_expr_in-t.ensures.next)

pub check_expr_in-overflow_sub-left-in_default : goal.check_expr_in-overflow_sub-left-in_default
check_expr_in-overflow_sub-left-in_default t c = let l = expr_left _ _ _ _ c.requires in omega arith

pub check_expr_in-check_expr_in-l-requires : goal.check_expr_in-check_expr_in-l-requires
check_expr_in-check_expr_in-l-requires t c = let p = c.requires in let i = expr_in _ _ _ _ p in (omega arith, (pair_lhs _ _ _ _ p (operation _ _ _ _ p (unlike 8 _ c.in_default.in_default-own.rest))))

pub check_expr_in-overflow_sub-left-in_default-2 : goal.check_expr_in-overflow_sub-left-in_default-2
check_expr_in-overflow_sub-left-in_default-2 t c = let l = expr_left _ _ _ _ c.requires in omega arith

pub check_expr_in-check_expr_in-r-requires : goal.check_expr_in-check_expr_in-r-requires
check_expr_in-check_expr_in-r-requires t c = let p = c.requires in let o = operation _ _ _ _ p (unlike 8 _ c.in_default.in_default-own.rest) in let e = c.check_expr_in-l.ensures in (omega (arith, expr_in _ _ _ _ p, e.next, expr_forward _ _ _ _ (pair_lhs _ _ _ _ p o)), (pair_rhs _ _ _ _ p o _ e.next))

pub check_expr_in-operation-requires : goal.check_expr_in-operation-requires
check_expr_in-operation-requires t c = let p = c.requires in (pair_inside _ _ _ _ p (operation _ _ _ _ p (unlike 8 _ c.in_default.in_default-own.rest)) _ c.check_expr_in-l.ensures.next _ c.check_expr_in-r.ensures.next)

pub check_expr_in-returns-in-0 : goal.check_expr_in-returns-in-0
check_expr_in-returns-in-0 t c = let p = c.requires in int_typing _ _ _ _ p c.in-0.is c.has_type.ensures

pub check_expr_in-returns-in-1 : goal.check_expr_in-returns-in-1
check_expr_in-returns-in-1 t c = let p = c.requires in float_typing _ _ _ _ p c.in-1.is c.has_type-in-1.ensures

pub check_expr_in-returns-in-2 : goal.check_expr_in-returns-in-2
check_expr_in-returns-in-2 t c = let p = c.requires in bool_typing _ _ _ _ p c.in-2.is c.has_type-in-2.ensures

pub check_expr_in-returns-in-3 : goal.check_expr_in-returns-in-3
check_expr_in-returns-in-3 t c = ident_typing _ _ _ _ c.requires c.in-3.is c.check_ident.ensures

pub check_expr_in-returns-in-4 : goal.check_expr_in-returns-in-4
check_expr_in-returns-in-4 t c = index_typing _ _ _ _ c.requires c.in-4.is c.check_index.ensures

pub check_expr_in-returns-in-6 : goal.check_expr_in-returns-in-6
check_expr_in-returns-in-6 t c = let p = c.requires in const_typing _ _ _ _ p c.in-6.is c.has_type-in-6.ensures

pub check_expr_in-returns-in-7 : goal.check_expr_in-returns-in-7
check_expr_in-returns-in-7 t c = neg_typing _ _ _ _ c.requires c.in-7.is c.check_expr_in-t.ensures c.negation.ensures

pub check_expr_in-returns-in_default : goal.check_expr_in-returns-in_default
check_expr_in-returns-in_default t c = let h = c.requires in pair_typing _ _ _ _ h (operation _ _ _ _ h (unlike 8 _ c.in_default.in_default-own.rest)) c.check_expr_in-l.ensures c.check_expr_in-r.ensures c.operator-operator.ensures c.operation.ensures
