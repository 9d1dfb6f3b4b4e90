-- What is said of the arity of a gate call: what each way out shows. Assumes nothing.
use Prim.Native.Nat.{ℕ, ◌+◌}
use mathlib.Core.Path.{◌≡◌, sym, ap, ◌∙◌}
use mathlib.Core.List.{List, [], map}
use mathlib.Core.Option.{none, some}
use mathlib.Core.Bool.{Bool, true, false, and-eq-true_iff}
use native.Mathlib.Nat.{add_comm}
use lib.ListN.{get_or}
use Rattle.std.specs.Prelude.{Option, Some, None}
use lib.Dec.{eqb}
use borrow.Author.Tests.{eq-eqb, ne_eqb}
use Rattle.span.specs.declared.Span.{Span}
use Rattle.ast.specs.Tree.{Text}
use Rattle.gates.specs.Gates.{lower, signature_of}
use Rattle.gates.specs.declared.StandardGate.{StandardGate}
use Rattle.sema.specs.Messages
use Rattle.sema.specs.Symbols.{GateSig, Table}
use Rattle.sema.specs.Operands.{unless}
use Rattle.context.specs.declared.Sink.{Sink}
use Rattle.context.specs.declared.GateSig.{GateSig as GateValue}
use Rattle.context.specs.Values.{found_gate_of}
use Rattle.sema.specs.Messages.{name_at}
use Rattle.lines.specs.Stored.{Shown}
use Rattle.lines.specs.declared.Severity.{Severity}
use Rattle.lines.specs.declared.Message.{Message}
use Rattle.lines.specs.declared.Note.{Note}
use Rattle.lines.specs.declared.Diagnostic.{Diagnostic as DiagnosticValue}
use Rattle.lines.specs.Values.{secondary_of, error_of, Reported}
use Rattle.promises.specs.Emitted.{Emitted, emitted-one, emitted_then, emitted_as, unless_holds, unless_fails}
use Rattle.operations.specs.declared.calls.Call.{Call}
use Rattle.operations.specs.Calls.{noted, params_by, qubits_by, fits_arity, arity_by, standard_by, standard_of, signature_by}

-- `fits_arity`
module _ (c : Call) (params qubits : ℕ) where
  pub arity_fits : {t : List Text} (decl : Option (Note × Span)) {s : Sink} {o : List ℕ} (b : Bool) → b ≡ fits_arity c params qubits → b ≡ true → Emitted t (arity_by c params qubits (secondary_of decl)) s o s o
  arity_fits decl b is e =
      let g = (and-eq-true_iff (eqb c.params params) (eqb c.args (qubits + c.controls))).0 (sym is ∙ e) in
      emitted_then (unless_holds _ _ g.0) (unless_holds _ _ g.1)

module _ {t : List Text} (c : Call) (n : ℕ) (decl : Option (Note × Span)) {s : Sink} {o : List ℕ} where
  pub params_fit : c.params ≡ n → Emitted t (params_by c n (secondary_of decl)) s o s o
  params_fit e = unless_holds _ _ (eq-eqb c.params n e)

  pub params-differ : {r : Sink} {o' : List ℕ} → (c.params ≡ n → ⊥)
      → Reported t (record { severity = Severity.Error; message = Message.GateParams c.name n c.params; span = c.span; secondary = decl }) s o r o'
      → Emitted t (params_by c n (secondary_of decl)) s o r o'
  params-differ e p = unless_fails _ (ne_eqb c.params n e) p

  module _ {b : Bool} (is : b ≡ eqb c.args (n + c.controls)) where
    pub qubits_fit : b ≡ true → Emitted t (qubits_by c n (secondary_of decl)) s o s o
    qubits_fit e = unless_holds _ _ (sym is ∙ e)

    pub qubits-differ : {r : Sink} {o' : List ℕ} → b ≡ false
        → Reported t (record { severity = Severity.Error; message = Message.GateQubits c.name c.controls n c.args; span = c.span; secondary = decl }) s o r o'
        → Emitted t (qubits_by c n (secondary_of decl)) s o r o'
    qubits-differ e p =
        emitted_as (unless_fails (eqb c.args (n + c.controls)) (sym is ∙ e) p)
        (ap (λ (k : ℕ). unless (eqb c.args (n + c.controls)) (noted (Messages.gate_qubits c.name k c.args) c.span (secondary_of decl))) (add_comm c.controls n))

-- a standard gate, or none
module _ (t : List Text) (c : Call) {text : List ℕ} (e : Shown text (name_at t c.name) 64) {f : Option StandardGate} (g : f ≡ signature_of (map lower text)) where
  signature_is : f ≡ signature_of (map lower (get_or t c.name []))
  unfolding name_at
  signature_is = g ∙ ap (λ x. signature_of (map lower x)) e.shows

  pub standard_some : {s : Sink} {o : List ℕ} {r : Sink} {o' : List ℕ} (gate : StandardGate) → f ≡ Some gate → Emitted t (arity_by c gate.params gate.qubits none) s o r o' → Emitted t (standard_of t c) s o r o'
  unfolding standard_by
  standard_some gate k m = emitted_as m (ap (standard_by c) (sym k ∙ signature_is))

  pub standard_fits : {s : Sink} {o : List ℕ} (gate : StandardGate) (b : Bool) → f ≡ Some gate → b ≡ fits_arity c gate.params gate.qubits → b ≡ true → Emitted t (standard_of t c) s o s o
  standard_fits gate b k is h = standard_some gate k (arity_fits c gate.params gate.qubits None b is h)

  pub standard_none : {s : Sink} {o : List ℕ} {r : Sink} {o' : List ℕ} {d : DiagnosticValue} → f ≡ None → d ≡ error_of (Message.GateNotDefined c.name) c.span → Reported t d s o r o' → Emitted t (standard_of t c) s o r o'
  unfolding standard_by
  standard_none k l m = emitted_as (emitted-one (rw l at m)) (ap (standard_by c) (sym k ∙ signature_is))

-- a definition of the program, or none
module _ {t : List Text} (gs : Table GateSig) (c : Call) {s : Sink} {o : List ℕ} {f : Option GateValue} (e : found_gate_of f ≡ gs c.name) where
  pub undefined : {r : Sink} {o' : List ℕ} → f ≡ None → Emitted t (standard_of t c) s o r o' → Emitted t (signature_by t gs c) s o r o'
  unfolding signature_by
  undefined k m = rw (← e, k, signature_by) m

  pub defined : {r : Sink} {o' : List ℕ} (sig : GateValue) → f ≡ Some sig → Emitted t (arity_by c sig.param_count sig.qubit_count (some (Messages.defined_here c.name, sig.decl_span))) s o r o' → Emitted t (signature_by t gs c) s o r o'
  unfolding signature_by
  defined sig k m = rw (← e, k, signature_by) m

  pub defined-fits : (sig : GateValue) (b : Bool) → f ≡ Some sig → b ≡ fits_arity c sig.param_count sig.qubit_count → b ≡ true → Emitted t (signature_by t gs c) s o s o
  defined-fits sig b k is h = defined sig k (arity_fits c _ _ (Some ((Note.DefinedHere c.name), sig.decl_span)) b is h)

pub ruleset fits = (defined-fits)
