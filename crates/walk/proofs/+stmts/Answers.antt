use mathlib.Core.Path.{refl, sym, ap, ◌∙◌}
use native.Mathlib.Omega.{arith}
use Rattle.text.proofs.Unlike.{last-from}
use Rattle.context.specs.declared.State.{State}
use Rattle.accepted.specs.Bodies.{body_in, else_in, stmt_in, stmt-below, stmt-left}
use Rattle.walk.proofs.Plain.{late}
use Rattle.walk.proofs.Loop.{stepped_as, going_asked, going_start, going_stmt, going_over, going_more, going_next, going_end}
use Rattle.walk.proofs.Enclosed.{opened_moved}
use Rattle.walk.proofs.Held.{looped_went}
use Rattle.walk.proofs.Cases.{gate-below, gate-room, gate-over, gate_went, for_below, for_went, while-below, while_went, none_went, some_below, some-over, some-room, some_went}
use Rattle.walk.proofs.Branches.{then-below, then-over, else_below, if_went}
use Rattle.walk.proofs.+stmts.Goals as goal
use Rattle.walk.proofs.+stmts.Goals.{analyze_stmts-then-is_plain+in_ok-a, analyze_stmts-else-is_plain+in_ok-s}

-- a body
pub analyze_stmts-u16_at-n-requires : goal.analyze_stmts-u16_at-n-requires
analyze_stmts-u16_at-n-requires t c = body_in _ _ _ c.requires.accepted

pub analyze_stmts-overflow_add-k : goal.analyze_stmts-overflow_add-k
analyze_stmts-overflow_add-k t c = omega (arith, body_in _ _ _ c.requires.accepted, c.requires.walkable.small)

pub analyze_stmts-loop-init : goal.analyze_stmts-loop-init
analyze_stmts-loop-init t c = going_start c.requires _ (omega (arith, c.u16_at-n.ensures.0)) _ refl refl refl refl

pub analyze_stmts-bounds-texts-k : goal.analyze_stmts-bounds-texts-k
analyze_stmts-bounds-texts-k t c = stmt_in _ _ _ _ (going_stmt c.loop.invariant (omega arith))

pub analyze_stmts-invariant_of-here-clause-accepted : goal.analyze_stmts-invariant_of-here-clause-accepted
analyze_stmts-invariant_of-here-clause-accepted t c = going_stmt c.loop.invariant (omega arith)

pub analyze_stmts-keyed_stmt-requires : goal.analyze_stmts-keyed_stmt-requires
analyze_stmts-keyed_stmt-requires t c = (going_asked c.loop.invariant (omega arith) c.requires.shallow, sym c.is_plain.ensures ∙ c.if-is_plain.true)

pub analyze_stmts-returns-in_err-a : goal.analyze_stmts-returns-in_err-a
analyze_stmts-returns-in_err-a t c = rw c.from_residual.ensures (going_over c.loop.invariant (omega arith) c.in_err-a.ensures _ refl refl)

pub analyze_stmts-body_stmt-requires : goal.analyze_stmts-body_stmt-requires
analyze_stmts-body_stmt-requires t c =
    let g = c.loop.invariant in
    let a = going_asked g (omega arith) c.requires.shallow in
    (omega (arith, c.decreases, g.past, stmt_in _ _ _ _ a.accepted), (a, sym c.is_plain.ensures ∙ c.if-is_plain.false))

pub analyze_stmts-returns-in_err-s : goal.analyze_stmts-returns-in_err-s
analyze_stmts-returns-in_err-s t c = rw c.from_residual-in_err-s.ensures (going_over c.loop.invariant (omega arith) c.in_err-s.ensures _ refl refl)

pub analyze_stmts-loop-preserved : goal.analyze_stmts-loop-preserved
analyze_stmts-loop-preserved t c =
    let g = c.loop.invariant in
    let x = c.if-is_plain in
    going_next _ _
    (going_more g (omega arith)
    (elim x.branch [
      | analyze_stmts-then-is_plain+in_ok-a w ↦
          stepped_as _ w.in_ok-a.ensures w.index-is w.scratch-is w.out-is x.s _ _ (ap (λ (y : State). y.keys) w.s-is) (ap (λ (y : State). y.marks) w.s-is) w.k-is w.sink-is
      | analyze_stmts-else-is_plain+in_ok-s w ↦
          stepped_as _ w.in_ok-s.ensures w.index-is w.scratch-is w.out-is x.s _ _ (ap (λ (y : State). y.keys) w.s-is) (ap (λ (y : State). y.marks) w.s-is) w.k-is w.sink-is
    ]))

pub analyze_stmts-returns : goal.analyze_stmts-returns
analyze_stmts-returns t c = going_end c.loop.invariant (omega arith) _ refl refl refl refl

-- a statement with statements in it
pub body_stmt-bounds-texts-at : goal.body_stmt-bounds-texts-at
body_stmt-bounds-texts-at t c = stmt_in _ _ _ _ c.requires.0.accepted

pub body_stmt-while_loop-requires : goal.body_stmt-while_loop-requires
body_stmt-while_loop-requires t c =
    let p = c.requires in
    let r = c.in_default.in_default-own.rest in
    (omega (arith, c.decreases), (p.0, last-from 12 2 _ ((tt, r.0.1), r.1) (late _ p.1 r.0.0.1) (stmt-below _ _ _ _ p.0.accepted)))

-- a gate definition
pub gate_def-overflow_sub-left : goal.gate_def-overflow_sub-left
gate_def-overflow_sub-left t c = omega (arith, stmt-left _ _ _ _ c.requires.0.accepted)

pub gate_def-analyze_stmts-requires : goal.gate_def-analyze_stmts-requires
gate_def-analyze_stmts-requires t c = gate-below c.requires.0 c.requires.1 (opened_moved c.args.st.now _ c.open_gate-a.ensures _ c.moved-s.ensures) c.decreases

pub gate_def-returns-in_err-r : goal.gate_def-returns-in_err-r
gate_def-returns-in_err-r t c = rw c.from_residual.ensures (gate-over c.requires.0 c.requires.1 (opened_moved c.args.st.now _ c.open_gate-a.ensures _ c.moved-s.ensures) c.in_err-r.ensures)

pub gate_def-overflow_add-r : goal.gate_def-overflow_add-r
gate_def-overflow_add-r t c =
    omega (arith, gate-room c.requires.0 c.requires.1 (opened_moved c.args.st.now _ c.open_gate-a.ensures _ c.moved-s.ensures) c.in_ok-r.ensures, c.requires.0.walkable.small)

pub gate_def-returns : goal.gate_def-returns
gate_def-returns t c = gate_went c.requires.0 c.requires.1 (opened_moved c.args.st.now _ c.open_gate-a.ensures _ c.moved-s.ensures) c.in_ok-r.ensures _ refl refl refl refl

-- an `if`
pub branch-overflow_sub-left : goal.branch-overflow_sub-left
branch-overflow_sub-left t c = omega (arith, stmt-left _ _ _ _ c.requires.0.accepted)

pub branch-analyze_stmts-requires : goal.branch-analyze_stmts-requires
branch-analyze_stmts-requires t c = then-below c.requires.0 c.requires.1 (opened_moved c.args.st.now _ c.open_if-a.ensures _ c.moved-s.ensures) c.decreases

pub branch-returns-in_err-t : goal.branch-returns-in_err-t
branch-returns-in_err-t t c = rw c.from_residual.ensures (then-over c.requires.0 c.requires.1 (opened_moved c.args.st.now _ c.open_if-a.ensures _ c.moved-s.ensures) c.in_err-t.ensures)

pub branch-branch_else-requires : goal.branch-branch_else-requires
branch-branch_else-requires t c = else_below c.requires.0 c.requires.1 (opened_moved c.args.st.now _ c.open_if-a.ensures _ c.moved-s.ensures) c.in_ok-t.ensures c.decreases

pub branch-returns : goal.branch-returns
branch-returns t c = if_went c.requires.0 c.requires.1 (opened_moved c.args.st.now _ c.open_if-a.ensures _ c.moved-s.ensures) c.in_ok-t.ensures _ c.branch_else.ensures

-- its `else`
pub branch_else-bounds-texts-k : goal.branch_else-bounds-texts-k
branch_else-bounds-texts-k t c = else_in _ _ _ c.requires.asked.accepted

pub branch_else-overflow_add-then : goal.branch_else-overflow_add-then
branch_else-overflow_add-then t c = let a = c.requires.asked in omega (arith, else_in _ _ _ a.accepted, a.walkable.small)

pub branch_else-returns-then-texts-k-eq0 : goal.branch_else-returns-then-texts-k-eq0
branch_else-returns-then-texts-k-eq0 t c =
    let u = c.unite.ensures in none_went c.requires c.if-texts-k-eq0.true _ refl refl refl (u.placed, (u.marks, u.behind))

pub branch_else-analyze_stmts-requires : goal.branch_else-analyze_stmts-requires
branch_else-analyze_stmts-requires t c = some_below c.requires c.if-texts-k-eq0.false c.enter.ensures c.decreases

pub branch_else-returns-in_err-e : goal.branch_else-returns-in_err-e
branch_else-returns-in_err-e t c = rw c.from_residual.ensures (some-over c.requires c.if-texts-k-eq0.false c.enter.ensures c.in_err-e.ensures)

pub branch_else-overflow_add-e : goal.branch_else-overflow_add-e
branch_else-overflow_add-e t c = omega (arith, some-room c.requires c.if-texts-k-eq0.false c.enter.ensures c.in_ok-e.ensures, c.requires.asked.walkable.small)

pub branch_else-returns : goal.branch_else-returns
branch_else-returns t c =
    let u = c.unite-2.ensures in some_went c.requires c.if-texts-k-eq0.false c.enter.ensures c.in_ok-e.ensures _ refl refl refl (u.placed, (u.marks, u.behind))

-- loops
pub for_loop-overflow_sub-left : goal.for_loop-overflow_sub-left
for_loop-overflow_sub-left t c = omega (arith, stmt-left _ _ _ _ c.requires.0.accepted)

pub for_loop-loop_body-requires : goal.for_loop-loop_body-requires
for_loop-loop_body-requires t c = for_below c.requires.0 c.requires.1 (opened_moved c.args.st.now _ c.open_for-a.ensures _ refl) c.decreases

pub for_loop-returns : goal.for_loop-returns
for_loop-returns t c = for_went c.requires.0 c.requires.1 (opened_moved c.args.st.now _ c.open_for-a.ensures _ refl) _ c.loop_body.ensures

pub while_loop-overflow_sub-left : goal.while_loop-overflow_sub-left
while_loop-overflow_sub-left t c = omega (arith, stmt-left _ _ _ _ c.requires.0.accepted)

pub while_loop-loop_body-requires : goal.while_loop-loop_body-requires
while_loop-loop_body-requires t c = while-below c.requires.0 c.requires.1 (opened_moved c.args.st.now _ c.open_while-a.ensures _ refl) c.decreases

pub while_loop-returns : goal.while_loop-returns
while_loop-returns t c = while_went c.requires.0 c.requires.1 (opened_moved c.args.st.now _ c.open_while-a.ensures _ refl) _ c.loop_body.ensures

pub loop_body-returns : goal.loop_body-returns
loop_body-returns t c = let u = c.unite.ensures in looped_went c.requires (rw c.moved-s.ensures at c.in_ok-r.ensures) _ refl refl refl (u.placed, (u.marks, u.behind))
