-- A gate call by its numbers, and what is said of its arity.
use Rattle.std.specs.Prelude.{ℕ, ◌+◌, ◌≡◌, List, [], ◌∷◌, ◌++◌, map, Bool, ◌&&◌, length, get_or, eqb, Some, None}
use Rattle.std.specs.Prelude as rust
use Rattle.std.proofs.Math.Option.{Option, none, some}
use Rattle.span.specs.declared.Span.{Span}
use Rattle.ast.specs.Tree.{Text, no_expr, expr_count}
use Rattle.gates.specs.Gates.{lower, signature_of}
use Rattle.gates.specs.declared.StandardGate.{StandardGate}
use Rattle.tree.specs.Ans.{next_of}
use Rattle.tree.specs.Read.{vec}
use Rattle.tree.specs.Exprs.{exprs}
use Rattle.tree.specs.Stmts.{held, modifier, operand}
use Rattle.sema.specs.Messages
use Rattle.sema.specs.Messages.{Message, Note, Diagnostic, Error, error}
use Rattle.sema.specs.Symbols.{GateSig, Table}
use Rattle.sema.specs.Constants.{controls}
use Rattle.sema.specs.Operands.{unless}
use Rattle.context.specs.View.{number_at, span_at}
use Rattle.accepted.specs.Parts.{value_or}
use Rattle.operations.specs.declared.calls.Call.{Call}

-- the call at a place: where its parts stand, and how many they are
pub record CallOf (t : List Text) (s : List ℕ) (at : ℕ) (c : Call) : Type 0 where
  pub name : c.name ≡ number_at 2 s (at + 1)
  pub params_at : c.params_at ≡ next_of (vec (modifier t) s (at + 3))
  pub args_at : c.args_at ≡ next_of (exprs (held t) s c.params_at)
  pub end : c.end ≡ next_of (vec (operand t) s c.args_at)
  pub span : c.span ≡ span_at s c.end
  pub params : c.params ≡ expr_count (value_or no_expr (exprs (held t) s c.params_at))
  pub args : c.args ≡ length (value_or [] (vec (operand t) s c.args_at))
  pub controls : c.controls ≡ controls (value_or [] (vec (modifier t) s (at + 3)))

-- an error with a note or without
abbrev pub noted : Message → Span → Option (Note × Span) → Diagnostic
noted m sp note = record { severity = Error; message = m; span = sp; secondary = note }

-- the number of parameters, and that of qubits
abbrev pub params_by : Call → ℕ → Option (Note × Span) → List Diagnostic
params_by c params note = unless (eqb c.params params) (noted (Messages.gate_params c.name params c.params) c.span note)

abbrev pub qubits_by : Call → ℕ → Option (Note × Span) → List Diagnostic
qubits_by c qubits note = unless (eqb c.args (qubits + c.controls)) (noted (Messages.gate_qubits c.name (qubits + c.controls) c.args) c.span note)

-- as many of both as there should be
abbrev pub fits_arity : Call → ℕ → ℕ → Bool
fits_arity c params qubits = eqb c.params params && eqb c.args (qubits + c.controls)

abbrev pub arity_by : Call → ℕ → ℕ → Option (Note × Span) → List Diagnostic
arity_by c params qubits note = params_by c params note ++ qubits_by c qubits note

unfoldable pub standard_by : Call → rust.Option StandardGate → List Diagnostic
standard_by c None = error (Messages.gate_not_defined c.name) c.span ∷ []
standard_by c (Some gate) = arity_by c gate.params gate.qubits none

abbrev pub standard_of : List Text → Call → List Diagnostic
standard_of t c = standard_by c (signature_of (map lower (get_or t c.name [])))

unfoldable pub signature_by : List Text → Table GateSig → Call → List Diagnostic
signature_by t gs c =
    elim (gs c.name) [
      | none ↦ standard_of t c
      | some sig ↦ arity_by c sig.param-count sig.qubit-count (some (Messages.defined_here c.name, sig.decl_span))
    ]
