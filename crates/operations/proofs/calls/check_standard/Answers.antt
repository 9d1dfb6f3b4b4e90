use Rattle.std.proofs.Common.{refl}
use Rattle.operations.proofs.Arity.{standard_some, standard_none}
use Rattle.operations.proofs.calls.check_standard.Goals as goal

pub returns-in_default : goal.returns-in_default
returns-in_default c = standard_none _ _ c.name_of-name.ensures c.standard_gate_signature.ensures c.in_default.is refl c.report_call.ensures

pub returns : goal.returns
returns c = standard_some _ _ c.name_of-name.ensures c.standard_gate_signature.ensures _ c.in-Some.is c.report_arity.ensures
