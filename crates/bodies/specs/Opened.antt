-- A statement's body is opened: what is said before it is said, the scope that it begins with is entered, and the state is at its count.
use Rattle.std.specs.Prelude.{ℕ, suc, ◌+◌, ◌-◌, ◌≡◌, not, List, [], ◌∷◌, length, get_or}
use Rattle.span.specs.declared.Span.{Span}
use Rattle.ast.specs.Tree.{Text, TextNumber}
use Rattle.ast.specs.declared.ClassicalType.{ClassicalType}
use Rattle.tree.specs.Ans.{next_of, given}
use Rattle.tree.specs.Read.{vec}
use Rattle.tree.specs.Exprs.{name}
use Rattle.tree.specs.Stmts.{stmt, body, held, for_range}
use Rattle.tree.specs.Decode.{texts_of}
use Rattle.sema.specs.Messages
use Rattle.sema.specs.Messages.{Diagnostic, error}
use Rattle.sema.specs.Symbols.{Scope, Table, GateSig, empty, insert, gate_scope, loop_scope}
use Rattle.sema.specs.Operands.{is_some, unless}
use Rattle.sema.specs.Exprs.{require_type}
use Rattle.sema.specs.Stmts.{range_says}
use Rattle.context.specs.declared.State.{State}
use Rattle.context.specs.View.{number_at, span_at, type_of, scopes_of, gates_of, functions_of}
use Rattle.tables.specs.Tables.{Becomes}
use Rattle.accepted.specs.Parts.{value_or}
use Rattle.promises.specs.Emitted.{Emitted}
use Rattle.promises.specs.Typings.{plain_context}

pub record Opened (t : List Text) (depth : ℕ) (scope : Scope) (gates : Table GateSig) (ds : List Diagnostic) (place : ℕ) (st : State) (s o : List ℕ) (r : State) (s' o' : List ℕ) : Type 0 where
  pub at : r.at ≡ place
  pub keys : r.keys ≡ st.keys
  pub marks : r.marks ≡ st.marks
  pub emitted : Emitted t ds st.sink o r.sink o'
  pub becomes : Becomes s s' (suc depth) (scope ∷ scopes_of s depth) gates (functions_of s)

-- The parts of a gate definition at a place: where its qubits stand, its body, and its span.
module _ (tree : List ℕ) (left at : ℕ) where
  abbrev pub gate_qubits : ℕ
  gate_qubits = next_of (vec (name (texts_of tree)) tree (at + 3))

  abbrev pub gate_body : ℕ
  gate_body = next_of (vec (name (texts_of tree)) tree gate_qubits)

  abbrev pub gate_span : Span
  gate_span = span_at tree (next_of (body (stmt (texts_of tree) (left - 1)) tree gate_body))

  abbrev pub gate_params : List TextNumber
  gate_params = value_or [] (vec (name (texts_of tree)) tree (at + 3))

  abbrev pub gate_qparams : List TextNumber
  gate_qparams = value_or [] (vec (name (texts_of tree)) tree gate_qubits)

  -- of a `for`
  abbrev pub for_body : ℕ
  for_body = next_of (for_range (texts_of tree) tree (at + 4))

  abbrev pub for_span : Span
  for_span = span_at tree (next_of (body (stmt (texts_of tree) (left - 1)) tree for_body))

-- what is said of a gate's name
abbrev pub gate_known : Table GateSig → TextNumber → Span → List Diagnostic
gate_known gs x sp = unless (not (is_some (gs x))) (error (Messages.gate_already_defined x) sp)

abbrev pub GateOpened : List ℕ → ℕ → State → List ℕ → List ℕ → State → List ℕ → List ℕ → Type 0
GateOpened tree left st s o r s' o' =
    Opened (texts_of tree) (9 - left) (gate_scope (gate_params tree left st.at) (gate_qparams tree left st.at) (gate_span tree left st.at))
    (insert (gates_of s) (number_at 2 tree (st.at + 1)) (record { param-count = length (gate_params tree left st.at); qubit-count = length (gate_qparams tree left st.at); decl_span = gate_span tree left st.at }))
    (gate_known (gates_of s) (number_at 2 tree (st.at + 1)) (gate_span tree left st.at))
    (gate_body tree left st.at) st s o r s' o'

-- the condition of an `if` or a `while`, and its body behind it
abbrev pub ConditionOpened : Messages.Context → List ℕ → ℕ → State → List ℕ → List ℕ → State → List ℕ → List ℕ → Type 0
ConditionOpened context tree left st s o r s' o' =
    Opened (texts_of tree) (9 - left) empty (gates_of s)
    (given [] (λ e. require_type (scopes_of s (9 - left)) (functions_of s) e ClassicalType.Bool context) (held (texts_of tree) tree (st.at + 1)))
    (next_of (held (texts_of tree) tree (st.at + 1))) st s o r s' o'

abbrev pub ForOpened : List ℕ → ℕ → State → List ℕ → List ℕ → State → List ℕ → List ℕ → Type 0
ForOpened tree left st s o r s' o' =
    Opened (texts_of tree) (9 - left) (loop_scope (number_at 2 tree (st.at + 1)) (type_of (get_or tree (st.at + 3) 0)) (for_span tree left st.at)) (gates_of s)
    (given [] (λ range. range_says (plain_context (scopes_of s (9 - left)) (functions_of s)) (type_of (get_or tree (st.at + 3) 0)) range (for_span tree left st.at)) (for_range (texts_of tree) tree (st.at + 4)))
    (for_body tree left st.at) st s o r s' o'
