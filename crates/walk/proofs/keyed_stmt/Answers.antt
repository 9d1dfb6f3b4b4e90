use mathlib.Core.Path.{refl}
use Rattle.context.specs.declared.State.{State}
use Rattle.walk.proofs.Steps.{ready_of, step-walkable, step_keyed, step_went}
use Rattle.walk.proofs.keyed_stmt.Goals as goal

pub plain_stmt-a-requires-clause-walkable : goal.plain_stmt-a-requires-clause-walkable
plain_stmt-a-requires-clause-walkable c =
    let p = c.requires in
    let a = c.args in
    let st : State = record { at = a.here.at; sink = a.sink; keys = a.keys; marks = a.marks.now } in
    let k = c.in_ok-count.ensures in
    (step-walkable _ _ st _ _ _ k.index k.added p.0.walkable, ready_of p.0.ready, p.1)

pub plain_stmt-a-requires-clause-stmt_keyed : goal.plain_stmt-a-requires-clause-stmt_keyed
plain_stmt-a-requires-clause-stmt_keyed c =
    let a = c.args in
    let k = c.in_ok-count.ensures in
    step_keyed _ _ (record { at = a.here.at; sink = a.sink; keys = a.keys; marks = a.marks.now }) _ _ _ k.index k.added

pub returns : goal.returns
returns c =
    let a = c.args in
    let k = c.in_ok-count.ensures in
    let w = c.plain_stmt-a.ensures in
    step_went _ _ (record { at = a.here.at; sink = a.sink; keys = a.keys; marks = a.marks.now }) _ _ _ k.index k.added c.requires.0.indexed _ refl c.requires.0.blank w.walked w.behind
