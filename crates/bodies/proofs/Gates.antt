-- Before the body of a gate definition. Assumes nothing.
use Prim.Native.Nat.{ℕ, suc, ◌+◌, ◌-◌, ◌≤◌, ◌<◌}
use mathlib.Core.Path.{◌≡◌, refl, ap, ◌∙◌}
use mathlib.Core.List.{List, [], ◌∷◌}
use native.Mathlib.Omega.{arith}
use lib.ListN.{length, get_or}
use Rattle.span.specs.declared.Span.{Span}
use Rattle.ast.specs.Tree.{Text, TextNumber}
use Rattle.tree.specs.Ans.{IsOk, next_of}
use Rattle.tree.specs.Read.{vec}
use Rattle.tree.specs.Exprs.{name}
use Rattle.tree.specs.Stmts.{body, stmt}
use Rattle.tree.specs.Decode.{texts_of}
use Rattle.sema.specs.Symbols.{gate_scope, Symbols}
use Rattle.context.specs.declared.Sink.{Sink}
use Rattle.context.specs.declared.GateSig.{GateSig as GateValue}
use Rattle.std.specs.Prelude.{Option as Maybe, Some, None, true, false}
use Rattle.std.specs.Option.{is_some}
use Rattle.context.specs.declared.State.{State}
use Rattle.context.specs.Values.{found_gate_of}
use Rattle.context.specs.View.{number_at, span_at, scopes_of, gates_of, functions_of}
use Rattle.lines.specs.declared.Message.{Message}
use Rattle.lines.specs.declared.Diagnostic.{Diagnostic}
use Rattle.lines.specs.Values.{error_of, Reported}
use Rattle.tables.specs.Tables.{Becomes, GateDefined}
use Rattle.accepted.specs.Parts.{value_or}
use Rattle.accepted.specs.Stmts.{gate_def-named, gate_def-params, gate_def_qparams, gate_def-body, gate_def-inside}
use Rattle.accepted.specs.Bodies.{stmt-left}
use Rattle.promises.specs.Emitted.{Emitted, error-fits, emitted-none, emitted_report}
use Rattle.bodies.specs.declared.gate_defs.GateParts.{GateParts}
use Rattle.bodies.specs.Opened.{gate_qubits, gate_known, GateOpened}
use Rattle.bodies.specs.Parts.{GatePartsOf, GateEntered}

-- the parts as they are read
pub parts_of : (tree : List ℕ) (left at x k m n : ℕ) (sp : Span) → IsOk (stmt (texts_of tree) left tree at) → get_or tree at 0 ≡ 6 → x ≡ number_at 2 tree (at + 1) → k ≡ gate_qubits tree left at → m ≡ next_of (vec (name (texts_of tree)) tree k) → n ≡ next_of (body (stmt (texts_of tree) (left - 1)) tree m) → sp ≡ span_at tree n → GatePartsOf tree left at (record { name = x; params_at = at + 3; qubits_at = k; body_at = m; span = sp })
parts_of tree left at x k m n sp h b x-is k_is m-is n-is sp-is = record {
  name_is = x-is;
  named = rw x-is (gate_def-named (texts_of tree) left tree at h b).below;
  params_are = refl;
  qubits_are = k_is;
  body_is = cc;
  span_is = cc;
}

-- what is said of the name: nothing where no gate was found
module _ {t : List Text} (s : List ℕ) {o : List ℕ} {sink : Sink} (x : ℕ) (sp : Span) where
  pub gate_unknown : (found : Maybe GateValue) → found_gate_of found ≡ gates_of s x → is_some found ≡ false → Emitted t (gate_known (gates_of s) x sp) sink o sink o
  gate_unknown None e n = rw (← e) emitted-none
  gate_unknown (Some g) e n = absurd cc

  pub gate_known_lem : {o' : List ℕ} {r : Sink} {d : Diagnostic} (found : Maybe GateValue) → found_gate_of found ≡ gates_of s x → is_some found ≡ true → d ≡ error_of (Message.GateAlreadyDefined x) sp → Reported t d sink o r o' → Emitted t (gate_known (gates_of s) x sp) sink o r o'
  gate_known_lem None e n d p = absurd cc
  gate_known_lem (Some g) e n d p = rw (← e) (emitted_report d p)

-- a gate defined, and then its scope entered
pub gate-entered : (s u v : List ℕ) (depth x p q : ℕ) (params qparams : List TextNumber) (sp : Span) → p ≡ length params → q ≡ length qparams → depth < 9 → GateDefined s u x (record { param-count = p; qubit-count = q; decl_span = sp }) → Becomes u v (suc depth) (gate_scope params qparams sp ∷ scopes_of u depth) (gates_of u) (functions_of u) → GateEntered s v depth x params qparams sp
gate-entered s u v depth x p q params qparams sp p-is q-is l g e =
    let d = g depth (omega arith) in
    record {
      scopes_are = e.scopes_are ∙ ap (λ (ss : Symbols). gate_scope params qparams sp ∷ ss) d.scopes_are;
      gates_are = rw (← p-is, ← q-is) (e.gates_are ∙ d.gates_are);
      functions_are = e.functions_are ∙ d.functions_are;
      same_length = e.same_length ∙ d.same_length;
      same_rest = e.same_rest ∙ d.same_rest;
    }

pub gate-opened : (tree : List ℕ) (left : ℕ) (st : State) (s o s' o' : List ℕ) (r : GateParts) (sink : Sink) → GatePartsOf tree left st.at r → Emitted (texts_of tree) (gate_known (gates_of s) r.name r.span) st.sink o sink o' → GateEntered s s' (9 - left) r.name (value_or [] (vec (name (texts_of tree)) tree r.params_at)) (value_or [] (vec (name (texts_of tree)) tree r.qubits_at)) r.span → GateOpened tree left st s o (record { at = r.body_at; sink = sink; keys = st.keys; marks = st.marks }) s' o'
gate-opened tree left st s o s' o' r sink p e b = record {
  at = p.body_is;
  keys = refl;
  marks = refl;
  emitted = rw (← p.span_is, ← p.name_is) e;
  becomes = rw (← p.span_is, ← p.qubits_are, ← p.params_are, ← p.name_is) b;
}

-- what is known of the parts where they are read
module _ (t : List Text) (left : ℕ) (s : List ℕ) (at : ℕ) (h : IsOk (stmt t left s at)) (b : get_or s at 0 ≡ 6) where
  pub gate-named_in : at + 3 ≤ length s
  gate-named_in = (gate_def-named t left s at h b).inside

pub ruleset gates = (stmt-left, gate-named_in, gate_def-params, gate_def_qparams, gate_def-body, gate_def-inside)

pub ruleset reports = (error-fits)
