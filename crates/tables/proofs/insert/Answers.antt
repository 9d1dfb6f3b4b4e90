use Rattle.tables.proofs.Becoming.{inserted}
use Rattle.tables.proofs.insert.Goals as goal

pub returns : goal.returns
returns c = search inserted
