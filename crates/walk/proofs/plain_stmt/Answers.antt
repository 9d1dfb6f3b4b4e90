use Rattle.text.proofs.Unlike.{last-case}
use Rattle.accepted.specs.Bodies.{stmt_in}
use Rattle.walk.proofs.Plain.{plain-below, plain_other}
use Rattle.walk.proofs.plain_stmt.Goals as goal

pub bounds-here-here : goal.bounds-here-here
bounds-here-here c = stmt_in _ _ _ _ c.args.here.accepted

pub delay-requires : goal.delay-requires
delay-requires c =
    let p = c.requires.walkable in
    let r = c.in_default.in_default-own.rest in
    (p.0, p.1, last-case 11 _ (((((r.0.0.0.0, plain_other _ p.2), r.0.0.0.1), r.0.0.1), r.0.1), r.1) (plain-below _ p.2))

pub returns-in-0-clause-walked : goal.returns-in-0-clause-walked
returns-in-0-clause-walked c = c.include.ensures _ _ c.requires.walkable.1.placed

pub returns-in-1-clause-walked : goal.returns-in-1-clause-walked
returns-in-1-clause-walked c = c.qubit_decl.ensures _ _ c.requires.walkable.1.placed

pub returns-in-2-clause-walked : goal.returns-in-2-clause-walked
returns-in-2-clause-walked c = c.bit_decl.ensures _ _ c.requires.walkable.1.placed

pub returns-in-3-clause-walked : goal.returns-in-3-clause-walked
returns-in-3-clause-walked c = c.classical_decl.ensures _ _ c.requires.walkable.1.placed

pub returns-in-4-clause-walked : goal.returns-in-4-clause-walked
returns-in-4-clause-walked c = c.assignment.ensures _ _ c.requires.walkable.1.placed

pub returns-in-7-clause-walked : goal.returns-in-7-clause-walked
returns-in-7-clause-walked c = c.function_def.ensures _ _ c.requires.walkable.1.placed
