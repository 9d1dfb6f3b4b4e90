use Rattle.typing.proofs.Callees.{argument_free, argument_there}
use Rattle.typing.proofs.calls.check_argument.Goals as goal

pub returns-then-params-i : goal.returns-then-params-i
returns-then-params-i c = let p = c.requires in argument_free _ _ _ _ c.args.t.typed p.1 c.if-params-i.true

pub returns : goal.returns
returns c = argument_there _ _ _ _ c.args.t.typed c.requires.1 c.if-params-i.false (rw c.from.ensures at c.param_type-expected.ensures) (rw c.from-2.ensures at c.check_wanted.ensures)
