use Rattle.promises.specs.Emitted.{emitted_then}
use Rattle.operations.proofs.calls.report_arity.Goals as goal

pub returns : goal.returns
returns c = emitted_then c.check_param_count-s.ensures c.check_qubit_count.ensures
