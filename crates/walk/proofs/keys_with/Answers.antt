use Rattle.accepted.specs.Bodies.{stmt_in}
use Rattle.std.proofs.Common.{refl}
use Rattle.walk.proofs.Plain.{plain-below, plain_other}
use Rattle.walk.proofs.Steps.{plain-keys}
use Rattle.walk.proofs.keys_with.Goals as goal

pub bounds-here-here : goal.bounds-here-here
bounds-here-here c = stmt_in _ _ _ _ c.args.here.accepted

pub returns-clause-added : goal.returns-clause-added
returns-clause-added c =
    let p = c.requires in
    rw (plain-keys _ _ _ c.args.here.accepted (plain-below _ p.2) (plain_other _ p.2) c.if-here-eq8.false _ _) (refl, p.0.few)
