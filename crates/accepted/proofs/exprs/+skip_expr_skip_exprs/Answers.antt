use mathlib.Core.Path.{sym}
use Rattle.accepted.specs.Parts.{next_is}
use Rattle.accepted.specs.Exprs.{int_lit_is, float_lit_is, bool_lit_is, ident_is, index_is, call_is, const_is, neg-inside, neg_is}
use Rattle.accepted.proofs.SkipParts.{pair-inside}
use native.Mathlib.Omega.{arith}
use Rattle.accepted.proofs.exprs.+skip_expr_skip_exprs.Goals as goal

pub skip_expr-returns-in-0 : goal.skip_expr-returns-in-0
skip_expr-returns-in-0 t c = sym (next_is (int_lit_is _ _ _ _ c.requires c.in-0.is))

pub skip_expr-returns-in-1 : goal.skip_expr-returns-in-1
skip_expr-returns-in-1 t c = sym (next_is (float_lit_is _ _ _ _ c.requires c.in-1.is))

pub skip_expr-returns-in-2 : goal.skip_expr-returns-in-2
skip_expr-returns-in-2 t c = sym (next_is (bool_lit_is _ _ _ _ c.requires c.in-2.is))

pub skip_expr-returns-in-3 : goal.skip_expr-returns-in-3
skip_expr-returns-in-3 t c = sym (next_is (ident_is _ _ _ _ c.requires c.in-3.is))

pub skip_expr-returns-in-4 : goal.skip_expr-returns-in-4
skip_expr-returns-in-4 t c = sym (next_is (index_is _ _ _ _ c.requires c.in-4.is))

pub skip_expr-returns-in-5 : goal.skip_expr-returns-in-5
skip_expr-returns-in-5 t c = sym (next_is (call_is _ _ _ _ c.requires c.in-5.is _ c.skip_exprs.ensures))

pub skip_expr-returns-in-6 : goal.skip_expr-returns-in-6
skip_expr-returns-in-6 t c = sym (next_is (const_is _ _ _ _ c.requires c.in-6.is))

pub skip_expr-returns-in-7 : goal.skip_expr-returns-in-7
skip_expr-returns-in-7 t c = sym (next_is (neg_is _ _ _ _ c.requires c.in-7.is _ c.skip_expr.ensures))

pub skip_expr-overflow_add-result-in-7 : goal.skip_expr-overflow_add-result-in-7
skip_expr-overflow_add-result-in-7 t c = let i = neg-inside _ _ _ _ c.requires c.in-7.is _ c.skip_expr.ensures in omega arith

pub skip_expr-overflow_add-result-in_default : goal.skip_expr-overflow_add-result-in_default
skip_expr-overflow_add-result-in_default t c = let i = pair-inside _ _ _ _ c.requires (omega arith) _ c.skip_expr-k.ensures _ c.skip_expr-in_default.ensures in omega arith
