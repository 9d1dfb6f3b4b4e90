use Rattle.promises.specs.Emitted.{emitted_report}
use Rattle.declarations.proofs.reports.report_error.Goals as goal

pub returns : goal.returns
returns c = emitted_report c.error.ensures c.report.ensures
