use Rattle.std.proofs.Common.{ℕ, zero, suc, ◌<◌, ◌≡◌, ◌⊎◌, refl, sym, arith}
use mathlib.Core.Logic.{inl, inr}
use Rattle.accepted.specs.Parts.{next_is}
use Rattle.accepted.specs.Remains.{remains-first, remains-step, remains-done}
use Rattle.accepted.specs.Bodies.{body_in, body-started, stmt_in, stmt-left}
use Rattle.accepted.specs.Stmts.{include-inside, include_is, register-size, register-inside, register-next, assignment-value, assignment-inside, assignment_is, reset_target, reset-inside, reset_is, barrier_targets, barrier-inside, barrier_is}
use Rattle.accepted.specs.Compound.{compound-body, compound_else, compound-next, compound-inside, if-next, if-inside}
use Rattle.accepted.proofs.stmts.+skip_body_skip_compound_skip_else_skip_stmt.Goals as goal

-- the case bytes of registers
register_case : (n : ℕ) → 0 < n → n < 3 → (n ≡ 1) ⊎ (n ≡ 2)
register_case zero l h = absurd (omega arith)
register_case (suc zero) l h = inl refl
register_case (suc (suc zero)) l h = inr refl
register_case (suc (suc (suc n))) l h = absurd (omega arith)

pub skip_body-overflow_add-k : goal.skip_body-overflow_add-k
skip_body-overflow_add-k t c = let i = body_in _ _ _ c.requires in omega arith

pub skip_body-u16_at-end-requires : goal.skip_body-u16_at-end-requires
skip_body-u16_at-end-requires t c = body_in _ _ _ c.requires

pub skip_body-loop-init : goal.skip_body-loop-init
skip_body-loop-init t c = body-started _ _ _ c.requires _ c.u16_at-end.ensures.0

pub skip_body-skip_stmt-k-requires : goal.skip_body-skip_stmt-k-requires
skip_body-skip_stmt-k-requires t c = (omega arith, remains-first c.loop.invariant c.loop-test.true)

pub skip_body-loop-preserved : goal.skip_body-loop-preserved
skip_body-loop-preserved t c = remains-step c.loop.invariant c.loop-test.true c.skip_stmt-k.ensures

pub skip_body-returns : goal.skip_body-returns
skip_body-returns t c = remains-done c.loop.invariant c.loop-test.false

pub skip_compound-overflow_sub-left : goal.skip_compound-overflow_sub-left
skip_compound-overflow_sub-left t c = let i = stmt-left _ _ _ _ c.requires.0 in omega arith

pub skip_compound-skip_body-m-requires : goal.skip_compound-skip_body-m-requires
skip_compound-skip_body-m-requires t c = let p = c.requires in (let i = stmt-left _ _ _ _ p.0 in omega arith, compound-body _ _ _ _ p.0 p.1 _ c.body_place-k.ensures)

pub skip_compound-skip_else-requires : goal.skip_compound-skip_else-requires
skip_compound-skip_else-requires t c = let p = c.requires in (let i = stmt-left _ _ _ _ p.0 in omega arith, compound_else _ _ _ _ p.0 p.1 _ c.body_place-k.ensures _ c.skip_body-m.ensures c.if-s-at-eq12.true)

pub skip_compound-overflow_add-result : goal.skip_compound-overflow_add-result
skip_compound-overflow_add-result t c = let p = c.requires in let i = if-inside _ _ _ _ p.0 p.1 _ c.body_place-k.ensures _ c.skip_body-m.ensures c.if-s-at-eq12.true _ c.skip_else.ensures in omega arith

pub skip_compound-returns-then-s-at-eq12 : goal.skip_compound-returns-then-s-at-eq12
skip_compound-returns-then-s-at-eq12 t c = let p = c.requires in if-next _ _ _ _ p.0 p.1 _ c.body_place-k.ensures _ c.skip_body-m.ensures c.if-s-at-eq12.true _ c.skip_else.ensures

pub skip_compound-overflow_add-result-2 : goal.skip_compound-overflow_add-result-2
skip_compound-overflow_add-result-2 t c = let p = c.requires in let i = compound-inside _ _ _ _ p.0 p.1 _ c.body_place-k.ensures _ c.skip_body-m.ensures c.if-s-at-eq12.false in omega arith

pub skip_compound-returns : goal.skip_compound-returns
skip_compound-returns t c = let p = c.requires in compound-next _ _ _ _ p.0 p.1 _ c.body_place-k.ensures _ c.skip_body-m.ensures c.if-s-at-eq12.false

pub skip_stmt-bounds-s-at : goal.skip_stmt-bounds-s-at
skip_stmt-bounds-s-at t c = stmt_in _ _ _ _ c.requires

pub skip_stmt-overflow_add-result : goal.skip_stmt-overflow_add-result
skip_stmt-overflow_add-result t c = let i = include-inside _ _ _ _ c.requires c.in-0.is in omega arith

pub skip_stmt-skip_expr-requires : goal.skip_stmt-skip_expr-requires
skip_stmt-skip_expr-requires t c = assignment-value _ _ _ _ c.requires c.in-4.is

pub skip_stmt-overflow_add-result-in-4 : goal.skip_stmt-overflow_add-result-in-4
skip_stmt-overflow_add-result-in-4 t c = let i = assignment-inside _ _ _ _ c.requires c.in-4.is _ c.skip_expr.ensures in omega arith

pub skip_stmt-skip_operand-requires : goal.skip_stmt-skip_operand-requires
skip_stmt-skip_operand-requires t c = reset_target _ _ _ _ c.requires c.in-9.is

pub skip_stmt-overflow_add-result-in-9 : goal.skip_stmt-overflow_add-result-in-9
skip_stmt-overflow_add-result-in-9 t c = let i = reset-inside _ _ _ _ c.requires c.in-9.is _ c.skip_operand.ensures in omega arith

pub skip_stmt-skip_operands-requires : goal.skip_stmt-skip_operands-requires
skip_stmt-skip_operands-requires t c = barrier_targets _ _ _ _ c.requires c.in-10.is

pub skip_stmt-overflow_add-result-in-10 : goal.skip_stmt-overflow_add-result-in-10
skip_stmt-overflow_add-result-in-10 t c = let i = barrier-inside _ _ _ _ c.requires c.in-10.is _ c.skip_operands.ensures in omega arith

pub skip_stmt-skip_number-requires : goal.skip_stmt-skip_number-requires
skip_stmt-skip_number-requires t c = register-size _ _ _ _ c.requires (register_case _ (omega arith) (omega arith))

pub skip_stmt-overflow_add-result-in-1 : goal.skip_stmt-overflow_add-result-in-1
skip_stmt-overflow_add-result-in-1 t c = let i = register-inside _ _ _ _ c.requires (register_case _ (omega arith) (omega arith)) _ c.skip_number.ensures in omega arith

pub skip_stmt-returns-in-0 : goal.skip_stmt-returns-in-0
skip_stmt-returns-in-0 t c = sym (next_is (include_is _ _ _ _ c.requires c.in-0.is))

pub skip_stmt-returns-in-4 : goal.skip_stmt-returns-in-4
skip_stmt-returns-in-4 t c = sym (next_is (assignment_is _ _ _ _ c.requires c.in-4.is _ c.skip_expr.ensures))

pub skip_stmt-returns-in-9 : goal.skip_stmt-returns-in-9
skip_stmt-returns-in-9 t c = sym (next_is (reset_is _ _ _ _ c.requires c.in-9.is _ c.skip_operand.ensures))

pub skip_stmt-returns-in-10 : goal.skip_stmt-returns-in-10
skip_stmt-returns-in-10 t c = sym (next_is (barrier_is _ _ _ _ c.requires c.in-10.is _ c.skip_operands.ensures))

pub skip_stmt-returns-in-1 : goal.skip_stmt-returns-in-1
skip_stmt-returns-in-1 t c = register-next _ _ _ _ c.requires (register_case _ (omega arith) (omega arith)) _ c.skip_number.ensures

pub skip_compound-overflow_sub-left-then-s-at-eq12 : goal.skip_compound-overflow_sub-left-then-s-at-eq12
skip_compound-overflow_sub-left-then-s-at-eq12 t c = let i = stmt-left _ _ _ _ c.requires.0 in omega arith
