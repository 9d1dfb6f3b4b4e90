-- What the functions before a body say of its statement's parts.
use Rattle.std.specs.Prelude.{ℕ, suc, ◌+◌, ◌<◌, ◌≡◌, Bool, List, ◌∷◌, ◌++◌, length, get_or, eqb}
use Rattle.span.specs.declared.Span.{Span}
use Rattle.ast.specs.Tree.{TextNumber, ForRange}
use Rattle.ast.specs.declared.ClassicalType.{ClassicalType}
use Rattle.types.specs.Types.{number_of}
use Rattle.tree.specs.Decode.{texts_of}
use Rattle.sema.specs.Messages
use Rattle.sema.specs.Messages.{Diagnostic, error}
use Rattle.sema.specs.Symbols.{insert, gate_scope}
use Rattle.sema.specs.Operands.{unless}
use Rattle.sema.specs.Exprs.{require_type}
use Rattle.sema.specs.Stmts.{SemaContext, step_says}
use Rattle.context.specs.View.{number_at, type_of, scopes_of, gates_of, functions_of}
use Rattle.tables.specs.Tables.{Becomes}
use Rattle.bodies.specs.declared.gate_defs.GateParts.{GateParts}
use Rattle.bodies.specs.declared.for_loops.ForParts.{ForParts}
use Rattle.bodies.specs.Opened.{gate_qubits, gate_body, gate_span, for_body, for_span}

pub record GatePartsOf (tree : List ℕ) (left at : ℕ) (r : GateParts) : Type 0 where
  pub name_is : r.name ≡ number_at 2 tree (at + 1)
  pub named : r.name < length (texts_of tree)
  pub params_are : r.params_at ≡ at + 3
  pub qubits_are : r.qubits_at ≡ gate_qubits tree left at
  pub body_is : r.body_at ≡ gate_body tree left at
  pub span_is : r.span ≡ gate_span tree left at

-- the gate is defined, and its scope entered
abbrev pub GateEntered : List ℕ → List ℕ → ℕ → TextNumber → List TextNumber → List TextNumber → Span → Type 0
GateEntered s t depth x params qparams sp =
    Becomes s t (suc depth) (gate_scope params qparams sp ∷ scopes_of s depth)
    (insert (gates_of s) x (record { param-count = length params; qubit-count = length qparams; decl_span = sp })) (functions_of s)

pub record ForPartsOf (tree : List ℕ) (left at : ℕ) (r : ForParts) : Type 0 where
  pub name_is : r.name ≡ number_at 2 tree (at + 1)
  pub named : r.name < length (texts_of tree)
  pub type_is : r.ty ≡ type_of (get_or tree (at + 3) 0)
  pub body_is : r.body_at ≡ for_body tree left at
  pub span_is : r.span ≡ for_span tree left at

abbrev pub is_int : ClassicalType → Bool
is_int ty = eqb (number_of ty) (number_of ClassicalType.Int)

-- what is said of a loop's variable, and of its bounds
abbrev pub variable_says : ClassicalType → Span → List Diagnostic
variable_says ty sp = unless (is_int ty) (error Messages.for_variable sp)

abbrev pub bounds_say : SemaContext → ForRange → List Diagnostic
bounds_say c range =
    require_type c.symbols c.functions range.start ClassicalType.Int Messages.range_bound
    ++ (require_type c.symbols c.functions range.end ClassicalType.Int Messages.range_bound
    ++ step_says c range.step)
