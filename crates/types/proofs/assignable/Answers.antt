use Rattle.std.proofs.Common.{◌∙◌}
use Rattle.types.specs.Types.{assignable_to}
use Rattle.types.proofs.Tables.{answers, assigned}
use Rattle.types.proofs.assignable.Goals as goal

pub returns : goal.returns
unfolding assignable_to answers
returns c = assigned c.args.expected c.args.actual _ _ (c.from-row.ensures ∙ c.number.ensures.0) (c.from-column.ensures ∙ c.number-2.ensures.0)
