-- A whole gate call. Assumes nothing.
use Prim.Native.Nat.{ℕ, ◌+◌, ◌-◌, ◌≤◌, ◌<◌}
use mathlib.Core.Path.{◌≡◌, refl, ap, ◌∙◌}
use mathlib.Core.List.{List, [], ◌++◌, append_assoc}
use mathlib.Core.Option.{Option, none, some}
use lib.ListN.{length, get_or}
use Rattle.std.specs.Prelude.{Some, None}
use Rattle.std.specs.Prelude as rust
use Rattle.span.specs.declared.Span.{Span}
use Rattle.ast.specs.Tree.{Text, Exprs, no_expr, more_expr, GateModifier, GateOperand, Stmt, expr_count}
use Rattle.gates.specs.declared.StandardGate.{StandardGate}
use Rattle.tree.specs.Ans.{Ans, ok, IsOk, next_of, given}
use Rattle.tree.specs.Read.{vec}
use Rattle.tree.specs.Exprs.{exprs}
use Rattle.tree.specs.Stmts.{held, modifier, operand, stmt}
use Rattle.tree.specs.Decode.{texts_of}
use Rattle.sema.specs.Messages
use Rattle.sema.specs.Symbols.{Symbols, GateSig, FunctionSig, Table, after}
use Rattle.sema.specs.Marks.{Key, Marks, effect, apply, mark}
use Rattle.sema.specs.Constants.{controls}
use Rattle.sema.specs.Operands.{use_operands}
use Rattle.sema.specs.Exprs.{check_modifiers}
use Rattle.sema.specs.Stmts.{SemaContext, arity_says, standard_says, signature_says, params_say, register_widths, widths_say, gate_call_says, analyze_stmt}
use Rattle.context.specs.declared.Sink.{Sink}
use Rattle.context.specs.declared.After.{After}
use Rattle.context.specs.declared.State.{State}
use Rattle.context.specs.View.{scopes_of, gates_of, functions_of, marks_of, context_of}
use Rattle.accepted.specs.Parts.{value_or, given_ok}
use Rattle.accepted.specs.Stmts.{gate_call-named, gate_call-params, gate_call-args, gate_call_is, gate_call-inside}
use Rattle.promises.specs.Emitted.{Emitted, emitted_as, emitted_then}
use Rattle.promises.specs.Typings.{SaidOf, plain_context}
use Rattle.promises.specs.Walks.{state_of, Ready, StmtWalked}
use Rattle.promises.specs.WalkLaws.{same-walked}
use Rattle.operations.specs.declared.calls.Call.{Call}
use Rattle.operations.specs.Calls.{CallOf, arity_by, standard_by, signature_by}
use Rattle.operations.proofs.Simple.{said_ok}

-- modifiers, and the parameters behind them
pub values-said : {t : List Text} (ss : Symbols) (fs : Table FunctionSig) {x : Ans (List GateModifier)} (tree : List ℕ) {s : Sink} {o : List ℕ} {a : After} {q : List ℕ} {b : After} {o' : List ℕ}
    → IsOk x → IsOk (exprs (held t) tree (next_of x)) → SaidOf t (check_modifiers ss fs) x s o a q → SaidOf t (params_say (plain_context ss fs)) (exprs (held t) tree a.next) a.sink q b o'
    → Emitted t (check_modifiers ss fs (value_or [] x) ++ params_say (plain_context ss fs) (value_or no_expr (exprs (held t) tree (next_of x)))) s o b.sink o'
values-said ss fs tree h i p r = emitted_then (said_ok [] h p) (said_ok no_expr i (rw p.next at r))

-- operands, each by itself and together
pub args_said : {t : List Text} (ss : Symbols) (m : Marks) (sp : Span) (x : Ans (List GateOperand)) {s : Sink} {o : List ℕ} {r : Sink} {q : List ℕ} {r' : Sink} {o' : List ℕ}
    → IsOk x → Emitted t (given [] (use_operands ss m sp) x) s o r q → Emitted t (given [] (λ ops. widths_say sp (register_widths ss ops)) x) r q r' o'
    → Emitted t (use_operands ss m sp (value_or [] x) ++ widths_say sp (register_widths ss (value_or [] x))) s o r' o'
args_said ss m sp x h p r =
    emitted_then (emitted_as p (given_ok [] [] (use_operands ss m sp) x h)) (emitted_as r (given_ok [] [] (λ ops. widths_say sp (register_widths ss ops)) x h))

-- only symbols and functions play a part in what is said of parameters
params-plain : (c : SemaContext) (es : Exprs) → params_say (plain_context c.symbols c.functions) es ≡ params_say c es
unfolding params_say
params-plain c no_expr = refl
params-plain c (more_expr e es) = rw (params-plain c es)

-- the signature of a call, by its numbers
module _ (t : List Text) (c : Call) (ps : Exprs) (ms : List GateModifier) (ops : List GateOperand) (p : c.params ≡ expr_count ps) (k : c.controls ≡ controls ms) (a : c.args ≡ length ops) where
  arity_none : (params qubits : ℕ) → arity_by c params qubits none ≡ arity_says c.name params qubits none ps ms ops c.span
  unfolding arity_says
  arity_none params qubits = rw (p, k, a)

  arity_some : (params qubits : ℕ) (at : Span) → arity_by c params qubits (some (Messages.defined_here c.name, at)) ≡ arity_says c.name params qubits (some at) ps ms ops c.span
  unfolding arity_says
  arity_some params qubits at = rw (p, k, a)

  standard_is : (f : rust.Option StandardGate) → standard_by c f ≡ standard_says t c.name ps ms ops c.span f
  unfolding standard_by standard_says
  standard_is None = refl
  standard_is (Some gate) = arity_none gate.params gate.qubits

  signature_says_lem : (d : SemaContext) → signature_by t d.gates c ≡ signature_says t d c.name ps ms ops c.span
  unfolding signature_by signature_says
  signature_says_lem d = go (d.gates c.name) refl
    where
      go : (o : Option GateSig) → d.gates c.name ≡ o → signature_by t d.gates c ≡ signature_says t d c.name ps ms ops c.span
      go none e = rw (e, signature_by, signature_says) (standard_is _)
      go (some sig) e = rw (e, signature_by, signature_says) (arity_some _ _ _)

module _ (tree : List ℕ) (left at : ℕ) (h : IsOk (stmt (texts_of tree) left tree at)) (b : get_or tree at 0 ≡ 5) (c : Call) (co : CallOf (texts_of tree) tree at c) where
  pub call-name : c.name < length (texts_of tree)
  call-name = rw co.name (gate_call-named (texts_of tree) left tree at h b).below

  pub call-params : IsOk (exprs (held (texts_of tree)) tree (next_of (vec (modifier (texts_of tree)) tree (at + 3))))
  call-params = gate_call-params (texts_of tree) left tree at h b _ refl

  pub call-args : IsOk (vec (operand (texts_of tree)) tree c.args_at)
  call-args = gate_call-args (texts_of tree) left tree at h b _ co.params_at _ co.args_at

  pub call_in : c.end + 8 ≤ length tree
  call_in = gate_call-inside (texts_of tree) left tree at h b _ co.params_at _ co.args_at _ co.end

  pub call_is : stmt (texts_of tree) left tree at ≡ ok (Stmt.GateCall at c.name (value_or [] (vec (modifier (texts_of tree)) tree (at + 3))) (value_or no_expr (exprs (held (texts_of tree)) tree c.params_at)) (value_or [] (vec (operand (texts_of tree)) tree c.args_at)) c.span) (c.end + 8)
  call_is = gate_call_is (texts_of tree) left tree at h b _ co.params_at _ co.args_at _ co.end ∙ rw (co.name, co.span)

pub call-walked : (tree : List ℕ) (ks : List Key) (left : ℕ) (st : State) (h : IsOk (stmt (texts_of tree) left tree st.at)) (b : get_or tree st.at 0 ≡ 5) (c : Call) (co : CallOf (texts_of tree) tree st.at c) {s o : List ℕ} → Ready tree s st
    → {r : Sink} {q : List ℕ} → Emitted (texts_of tree) (signature_by (texts_of tree) (gates_of s) c) st.sink o r q
    → {r' : Sink} {q' : List ℕ} → Emitted (texts_of tree) (check_modifiers (scopes_of s (9 - left)) (functions_of s) (value_or [] (vec (modifier (texts_of tree)) tree (st.at + 3))) ++ params_say (plain_context (scopes_of s (9 - left)) (functions_of s)) (value_or no_expr (exprs (held (texts_of tree)) tree (next_of (vec (modifier (texts_of tree)) tree (st.at + 3)))))) r q r' q'
    → {r'' : Sink} {o' : List ℕ} → Emitted (texts_of tree) (use_operands (scopes_of s (9 - left)) (marks_of tree ks st.marks) c.span (value_or [] (vec (operand (texts_of tree)) tree c.args_at)) ++ widths_say c.span (register_widths (scopes_of s (9 - left)) (value_or [] (vec (operand (texts_of tree)) tree c.args_at)))) r' q' r'' o'
    → StmtWalked tree ks left st s o (state_of (c.end + 8) r'' st.marks) s o'
unfolding analyze_stmt after effect apply mark gate_call_says
call-walked tree ks left st h b c co {s} ready p v w =
    let d : SemaContext = context_of tree ks s (9 - left) st.marks in
    let ms : List GateModifier = value_or [] (vec (modifier (texts_of tree)) tree (st.at + 3)) in
    let ps : Exprs = value_or no_expr (exprs (held (texts_of tree)) tree c.params_at) in
    let ops : List GateOperand = value_or [] (vec (operand (texts_of tree)) tree c.args_at) in
    let signature = emitted_as p (signature_says_lem (texts_of tree) c ps ms ops co.params co.controls co.args d) in
    let values = emitted_as (rw (← co.params_at) at v) (ap (λ ds. check_modifiers d.symbols d.functions ms ++ ds) (params-plain d ps)) in
    let rest = emitted_as (emitted_then values w) (append_assoc (check_modifiers d.symbols d.functions ms) (params_say d ps) (use_operands d.symbols d.measured c.span ops ++ widths_say c.span (register_widths d.symbols ops))) in
    same-walked tree ks left st (call_is tree left st.at h b c co) ready refl refl (emitted_then signature rest) ready.placed
