use Rattle.checker.proofs.Judging.{staged-written}
use Rattle.checker.proofs.File.write_listing.Goals as goal

pub returns-then-n-stage-clause-listed : goal.returns-then-n-stage-clause-listed
returns-then-n-stage-clause-listed c =
    staged-written _ _ _ c.requires.known c.requires.listable.few _ _ c.if-n-stage.true c.write_staged.ensures
