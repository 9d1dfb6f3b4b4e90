use Rattle.lines.proofs.Lines.{said_as, then_said, shown-said, by-index, by-slice, by-name, said-all}
use Rattle.std.proofs.Common.{arith}
use Rattle.lines.proofs.messages.operand.Goals as goal

pub returns-in-Some-default : goal.returns-in-Some-default
returns-in-Some-default c =
    said_as
    (then_said (shown-said c.name_of.ensures c.copy-a.ensures) (then_said (said-all c.put-b.ensures) (then_said c.decimal-c.ensures (said-all c.put.ensures))))
    (by-index _ c.args.op c.in-Some-default.is-0)
    (omega arith)

pub returns-in-None-Some : goal.returns-in-None-Some
returns-in-None-Some c =
    said_as
    (then_said (shown-said c.name_of.ensures c.copy-a.ensures) (then_said (said-all c.put-b-in-None-Some.ensures) (then_said c.decimal-c-in-None-Some.ensures (then_said (said-all c.put-d.ensures) (then_said c.decimal-e.ensures (said-all c.put-in-None-Some.ensures))))))
    (by-slice _ c.args.op c.in-None-Some.is-0 c.in-None-Some.is-1)
    (omega arith)

pub returns-in-None-None : goal.returns-in-None-None
returns-in-None-None c =
    said_as (shown-said c.name_of.ensures c.copy-a.ensures) (by-name _ c.args.op c.in-None-None.is-0 c.in-None-None.is-1) (omega arith)
