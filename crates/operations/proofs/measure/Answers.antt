use mathlib.Core.Path.{refl}
use mathlib.Core.List.{[]}
use Rattle.accepted.specs.Bodies.{stmt_in}
use Rattle.accepted.specs.Stmts.{measure-qubit}
use Rattle.accepted.specs.Operands.{operand_below}
use Rattle.promises.specs.Walks.{state_of}
use Rattle.operations.proofs.Measured.{measure-option, measure_in, measure-place, measure-covers, measure-walked}
use native.Mathlib.Omega.{arith}
use Rattle.std.proofs.Common.{rules}
use Rattle.operations.proofs.measure.Goals as goal

pub operand_at-qubit-requires : goal.operand_at-qubit-requires
operand_at-qubit-requires c = measure-qubit _ _ _ _ c.args.here.accepted c.requires.walkable.2

pub check_measure-a-requires : goal.check_measure-a-requires
check_measure-a-requires c =
    let h = c.args.here.accepted in
    let b = c.requires.walkable.2 in
    let st = state_of c.args.here.at c.args.sink [] in
    let q = c.operand_at-qubit in
    rw c.context-sema.ensures.0 (operand_below _ _ _ q.result.value q.ensures, measure-option _ _ st h b q.result.value _ q.ensures, measure_in _ _ st h b q.result.value _ q.ensures _ refl)

pub mark_measured-requires : goal.mark_measured-requires
mark_measured-requires c =
    let p = c.requires.walkable in
    let h = c.args.here.accepted in
    let st = state_of c.args.here.at c.args.sink [] in
    let q = c.operand_at-qubit in
    let n = operand_below _ _ _ q.result.value q.ensures in
    let few = c.args.here.texts.placed.few in
    let i = stmt_in _ _ _ _ h in
    let small = p.0.small in
    (p.0.few, p.1.room, search rules, omega arith, measure-place _ _ _ h p.2, omega arith, measure-covers _ _ st h p.2 q.result.value _ q.ensures _ _ c.requires.stmt_keyed)

pub overflow_add-result : goal.overflow_add-result
overflow_add-result c =
    let q = c.operand_at-qubit in
    let e = rw c.context-sema.ensures.0 at c.check_measure-a.ensures.next in
    let i = measure_in _ _ (state_of c.args.here.at c.args.sink []) c.args.here.accepted c.requires.walkable.2 q.result.value _ q.ensures _ e in
    omega arith

pub returns-clause-walked : goal.returns-clause-walked
returns-clause-walked c =
    let p = c.requires.walkable in
    let q = c.operand_at-qubit in
    let m = c.mark_measured in
    let s = c.context-sema.ensures in
    measure-walked _ _ (state_of c.args.here.at c.args.sink _) c.args.here.accepted p.2 q.result.value _ q.ensures _ p.1 _ (rw (s.0, s.1, s.2) at c.check_measure-a.ensures) _ (m.ensures.marks _) (m.ensures.placed _)
