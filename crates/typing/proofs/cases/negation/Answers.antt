use Rattle.typing.proofs.Operators.{neg-untyped, neg-typed, neg-refused}
use Rattle.typing.proofs.cases.negation.Goals as goal

pub returns-in_default : goal.returns-in_default
returns-in_default c = neg-untyped _ c.in_default.is

pub returns-then-is_numeric : goal.returns-then-is_numeric
returns-then-is_numeric c = neg-typed _ c.in-Some.is c.is_numeric.ensures c.if-is_numeric.true

pub returns : goal.returns
returns c = neg-refused c.span_at-span.ensures c.in-Some.is c.is_numeric.ensures c.if-is_numeric.false c.refuse.ensures
