use Rattle.typing.proofs.Finds.{found-error}
use Rattle.typing.proofs.cases.refuse.Goals as goal

pub returns : goal.returns
returns c = found-error c.error.ensures c.report-sink.ensures
