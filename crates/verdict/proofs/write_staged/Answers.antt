use Rattle.verdict.proofs.Staging.{staged-behind}
use Rattle.verdict.proofs.write_staged.Goals as goal

pub returns : goal.returns
returns c = staged-behind _ _ _ _ _ _ c.first_line-after.ensures c.requires _ c.copy_from_slice.ensures.after
