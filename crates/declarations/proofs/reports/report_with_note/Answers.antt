use Rattle.promises.specs.Emitted.{emitted_report}
use Rattle.declarations.proofs.reports.report_with_note.Goals as goal

pub returns : goal.returns
returns c = emitted_report c.error_with_note.ensures c.report.ensures
