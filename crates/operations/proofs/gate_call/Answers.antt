use Rattle.accepted.specs.Stmts.{gate_call-modifiers}
use Rattle.promises.specs.Walks.{state_of}
use Rattle.operations.proofs.Called.{call-name, call-params, call-args, call_in, call-walked}
use native.Mathlib.Omega.{arith}
use Rattle.operations.proofs.gate_call.Goals as goal

pub check_signature-named-requires : goal.check_signature-named-requires
check_signature-named-requires c = let a = c.call_at-call in rw c.context-sema.ensures.0 (call-name _ _ _ c.args.here.accepted c.requires.2 a.result a.ensures)

pub check_values-checked-requires : goal.check_values-checked-requires
check_values-checked-requires c = let h = c.args.here.accepted in let a = c.call_at-call in rw c.context-sema.ensures.0 (gate_call-modifiers _ _ _ _ h c.requires.2, call-params _ _ _ h c.requires.2 a.result a.ensures)

pub check_args-said-requires : goal.check_args-said-requires
check_args-said-requires c = let a = c.call_at-call in rw c.context-sema.ensures.0 (call-args _ _ _ c.args.here.accepted c.requires.2 a.result a.ensures)

pub overflow_add-result : goal.overflow_add-result
overflow_add-result c = let a = c.call_at-call in let i = call_in _ _ _ c.args.here.accepted c.requires.2 a.result a.ensures in omega arith

pub returns : goal.returns
returns c = let s = c.context-sema.ensures in let a = c.call_at-call in call-walked _ _ _ (state_of c.args.here.at c.args.sink _) c.args.here.accepted c.requires.2 a.result a.ensures c.requires.1 (rw (s.0, s.1) at c.check_signature-named.ensures) (rw (s.0, s.1, s.2) at c.check_values-checked.ensures) (rw (s.0, s.1, s.2) at c.check_args-said.ensures)
