use Rattle.operations.proofs.Arity.{qubits_fit, qubits-differ}
use Rattle.operations.proofs.calls.check_qubit_count.Goals as goal

pub returns-then-is_arity : goal.returns-then-is_arity
returns-then-is_arity c = qubits_fit c.args.call _ c.args.gate.decl c.is_arity.ensures c.if-is_arity.true

pub returns : goal.returns
returns c = qubits-differ c.args.call _ c.args.gate.decl c.is_arity.ensures c.if-is_arity.false (rw (c.from.ensures, c.from-2.ensures) at c.report_call.ensures)
