use Rattle.typing.proofs.Operators.{operation-left, operation-right, operation-typed, operation-refused}
use Rattle.typing.proofs.cases.operation.Goals as goal
use Rattle.typing.proofs.cases.operation.Goals.{in_default-via-in-Some+in_default, in_default-via-in_default}

pub returns-in_default : goal.returns-in_default
returns-in_default c = elim c.in_default.branch [ in_default-via-in_default w ↦ operation-left _ _ _ w.in_default.is-0 | in_default-via-in-Some+in_default w ↦ operation-right _ _ w.in_default.is-0 w.in_default.is-1 ]

pub returns-in_default-pair_type : goal.returns-in_default-pair_type
returns-in_default-pair_type c = operation-refused c.span_at-span.ensures _ c.in-Some-Some.is-0 c.in-Some-Some.is-1 c.pair_type.ensures c.in_default-pair_type.is c.pair_message.ensures c.refuse.ensures

pub returns : goal.returns
returns c = operation-typed _ _ c.in-Some-Some.is-0 c.in-Some-Some.is-1 c.pair_type.ensures c.in-Some.is c.has_type.ensures
