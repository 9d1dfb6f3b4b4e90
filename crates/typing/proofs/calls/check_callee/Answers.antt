use Rattle.promises.specs.Emitted.{emitted_report}
use Rattle.typing.proofs.Callees.{callee_missing, callee_there}
use Rattle.typing.proofs.calls.check_callee.Goals as goal

pub returns-in-Some : goal.returns-in-Some
returns-in-Some c = callee_there _ _ _ _ c.function-sig.ensures c.in-Some.is c.count_arguments-sink.ensures

pub returns-in-None : goal.returns-in-None
returns-in-None c = callee_missing _ _ _ _ c.function-sig.ensures c.in-None.is (emitted_report c.error.ensures c.report-sink.ensures)
