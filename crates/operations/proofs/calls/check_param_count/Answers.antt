use Rattle.operations.proofs.Arity.{params_fit, params-differ}
use Rattle.operations.proofs.calls.check_param_count.Goals as goal

pub returns-then-call-gate : goal.returns-then-call-gate
returns-then-call-gate c = params_fit c.args.call _ c.args.gate.decl c.if-call-gate.true

pub returns : goal.returns
returns c = params-differ c.args.call _ c.args.gate.decl c.if-call-gate.false (rw (c.from.ensures, c.from-2.ensures) at c.report_call.ensures)
