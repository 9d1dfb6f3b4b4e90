-- The analysis of statements, as `analyze_stmt`, `analyze_stmts` and `analyze` of src/sema.rs, over the program's texts `t`.
-- A statement gives the context after it and what is said of it.
use Rattle.std.specs.Prelude.{ℕ, ◌+◌, List, [], ◌∷◌, ◌++◌, map, Bool, true, false, cond, ◌&&◌, ◌||◌, not, length, get_or, eqb, ltb, Some, None}
use Rattle.std.specs.Prelude as rust
use Rattle.std.proofs.Math.Option.{Option, none, some}
use Rattle.span.specs.declared.Span.{Span}
use Rattle.ast.specs.Tree.{Text, TextNumber, Expr, Exprs, no_expr, more_expr, GateOperand, GateModifier, ForRange, Stmt, Stmts, no_stmt, more_stmt, Else, no_else, some_else, Program, expr_count}
use Rattle.ast.specs.declared.ClassicalType.{ClassicalType}
use Rattle.ast.specs.declared.ClassicalQualifier.{ClassicalQualifier}
use Rattle.ast.specs.declared.AssignOp.{AssignOp}
use Rattle.types.specs.Types.{number_of, assignable_to, numeric}
use Rattle.gates.specs.Gates.{lower, signature_of}
use Rattle.gates.specs.declared.StandardGate.{StandardGate}
use Rattle.sema.specs.Messages
use Rattle.sema.specs.Messages.{SymbolKind, Qubit, Bit, Classical, Const, GateParam, GateQubit, a_qubit, a_bit, Diagnostic, error, error_with_note, warning}
use Rattle.sema.specs.Symbols.{Symbols, Scope, GateSig, FunctionSig, Table, empty, insert, get, declare_says, after, gate_scope, function_scope, loop_scope}
use Rattle.sema.specs.Marks.{Marks, no_marks, effect, apply, unite, after_loop, lookup_measured}
use Rattle.sema.specs.Constants.{controls}
use Rattle.sema.specs.Operands.{is_some, unless, check_operand, operand_width, use_operands}
use Rattle.sema.specs.Exprs.{expr_span, mismatch, check_expr, require_type, require_numeric, check_modifiers}

-- `SemaContext`; what is said is beside it
pub record SemaContext : Type 0 where
  pub symbols : Symbols
  pub gates : Table GateSig
  pub functions : Table FunctionSig
  pub measured : Marks

abbrev pub Walked : Type 0
Walked = SemaContext × List Diagnostic

abbrev pub new : SemaContext
new = record { symbols = empty ∷ []; gates = empty; functions = empty; measured = no_marks }

-- into a body: a scope more
abbrev pub enter : Scope → SemaContext → SemaContext
enter s c = record { symbols = s ∷ c.symbols; gates = c.gates; functions = c.functions; measured = c.measured }

-- out of a body that the context i ended in, into the scopes of c, with the marks m
abbrev pub leave : SemaContext → SemaContext → Marks → SemaContext
leave c i m = record { symbols = c.symbols; gates = i.gates; functions = i.functions; measured = m }

-- a statement without a body: its declaration and its effect on the marks, and what is said
abbrev pub simple : Stmt → Span → SemaContext → List Diagnostic → Walked
simple s sp c ds =
    (record { symbols = after c.symbols s; gates = c.gates; functions = c.functions; measured = apply (effect c.symbols s) sp c.measured }, ds)

abbrev pub is_const : Option ClassicalQualifier → Bool
is_const none = false
is_const (some ClassicalQualifier.Const) = true
is_const (some ClassicalQualifier.Input) = false
is_const (some ClassicalQualifier.Output) = false

abbrev pub is_input : Option ClassicalQualifier → Bool
is_input none = false
is_input (some ClassicalQualifier.Const) = false
is_input (some ClassicalQualifier.Input) = true
is_input (some ClassicalQualifier.Output) = false

-- an initializer, checked after its name is declared
unfoldable pub init_says : Symbols → Table FunctionSig → ClassicalType → TextNumber → Option Expr → List Diagnostic
init_says ss fs ty x none = []
init_says ss fs ty x (some e) =
    let a = check_expr ss fs e in
    a.says ++ mismatch (λ actual. error (Messages.cannot_initialize ty x actual) (expr_span e)) ty a.type

unfoldable pub classical_says : SemaContext → Option ClassicalQualifier → ClassicalType → TextNumber → Option Expr → Span → Symbols → List Diagnostic
classical_says c q ty x init sp ss =
    declare_says c.symbols x sp
    ++ (unless (not (is_const q && not (is_some init))) (error (Messages.const_without_init x) sp)
    ++ (unless (not (is_input q && is_some init)) (error (Messages.input_with_init x) sp)
    ++ init_says ss c.functions ty x init))

abbrev pub is_assign : AssignOp → Bool
is_assign AssignOp.Assign = true
is_assign AssignOp.AddAssign = false
is_assign AssignOp.SubAssign = false

-- an assignment to a variable of the expected type
unfoldable pub assign_says : TextNumber → AssignOp → Expr → Span → ClassicalType → Option ClassicalType → List Diagnostic
assign_says x op value sp expected none = []
assign_says x op value sp expected (some actual) =
    unless (assignable_to expected actual) (error (Messages.cannot_assign actual expected x) (expr_span value))
    ++ unless (is_assign op || (numeric expected && numeric actual)) (error Messages.compound_numeric sp)

unfoldable pub target_says : TextNumber → AssignOp → Expr → Span → Option ClassicalType → SymbolKind → List Diagnostic
target_says x op value sp actual Qubit = error (Messages.not_assignable x) sp ∷ []
target_says x op value sp actual Bit = error (Messages.not_assignable x) sp ∷ []
target_says x op value sp actual (Classical expected) = assign_says x op value sp expected actual
target_says x op value sp actual (Const ty) = error (Messages.assign_to_const x) sp ∷ []
target_says x op value sp actual GateParam = error (Messages.not_assignable x) sp ∷ []
target_says x op value sp actual GateQubit = error (Messages.not_assignable x) sp ∷ []

unfoldable pub assignment_says : SemaContext → TextNumber → AssignOp → Expr → Span → List Diagnostic
assignment_says c x op value sp =
    let a = check_expr c.symbols c.functions value in
    a.says
    ++ elim (get c.symbols x) [ none ↦ error (Messages.not_declared x) sp ∷ [] | some sym ↦ target_says x op value sp a.type sym.kind ]

-- with a note where the gate is defined in the program
abbrev pub arity_error : Messages.Message → Span → TextNumber → Option Span → Diagnostic
arity_error message sp x none = error message sp
arity_error message sp x (some at) = error_with_note message sp (Messages.defined_here x) at

unfoldable pub arity_says : TextNumber → ℕ → ℕ → Option Span → Exprs → List GateModifier → List GateOperand → Span → List Diagnostic
arity_says x param-count qubit-count decl params modifiers args sp =
    unless (eqb (expr_count params) param-count) (arity_error (Messages.gate_params x param-count (expr_count params)) sp x decl)
    ++ unless (eqb (length args) (qubit-count + controls modifiers)) (arity_error (Messages.gate_qubits x (qubit-count + controls modifiers) (length args)) sp x decl)

unfoldable pub params_say : SemaContext → Exprs → List Diagnostic
params_say c no_expr = []
params_say c (more_expr e es) = require_numeric c.symbols c.functions e Messages.params_numeric ++ params_say c es

-- the widths above 1
unfoldable pub wide : Option ℕ → List ℕ → List ℕ
wide none ws = ws
wide (some n) ws = cond (ltb 1 n) (n ∷ ws) ws

unfoldable pub register_widths : Symbols → List GateOperand → List ℕ
register_widths ss [] = []
register_widths ss (op ∷ ops) = wide (operand_width ss op) (register_widths ss ops)

unfoldable pub all_equal : ℕ → List ℕ → Bool
all_equal n [] = true
all_equal n (w ∷ ws) = eqb w n && all_equal n ws

unfoldable pub widths_say : Span → List ℕ → List Diagnostic
widths_say sp [] = []
widths_say sp (w ∷ ws) = unless (all_equal w (w ∷ ws)) (error Messages.broadcasting sp)

unfoldable pub measure_target : Symbols → GateOperand → Span → Option GateOperand → List Diagnostic
measure_target ss qubit sp none = []
measure_target ss qubit sp (some target) =
    check_operand ss target a_bit
    ++ elim (operand_width ss qubit) [
      | none ↦ []
      | some a ↦
          elim (operand_width ss target) [
            | none ↦ []
            | some b ↦ unless (eqb a b) (error_with_note (Messages.measurement_widths a b) sp Messages.target_declared target.span)
          ]
    ]

unfoldable pub measure_says : SemaContext → GateOperand → Option GateOperand → Span → List Diagnostic
measure_says c qubit target sp =
    check_operand c.symbols qubit a_qubit
    ++ (measure_target c.symbols qubit sp target
    ++ unless (not (is_some (lookup_measured c.measured qubit.name qubit.index))) (warning (Messages.already_measured qubit) sp))

unfoldable pub step_says : SemaContext → Option Expr → List Diagnostic
step_says c none = []
step_says c (some e) = require_type c.symbols c.functions e ClassicalType.Int Messages.range_step

unfoldable pub range_says : SemaContext → ClassicalType → ForRange → Span → List Diagnostic
range_says c ty range sp =
    unless (eqb (number_of ty) (number_of ClassicalType.Int)) (error Messages.for_variable sp)
    ++ (require_type c.symbols c.functions range.start ClassicalType.Int Messages.range_bound
    ++ (require_type c.symbols c.functions range.end ClassicalType.Int Messages.range_bound
    ++ step_says c range.step))

-- a second definition replaces the signature
abbrev pub define_gate : TextNumber → List TextNumber → List TextNumber → Span → SemaContext → SemaContext
define_gate x params qparams sp c =
    record {
      symbols = c.symbols;
      gates = insert c.gates x (record { param-count = length params; qubit-count = length qparams; decl_span = sp });
      functions = c.functions;
      measured = c.measured;
    }

unfoldable pub gate_says : SemaContext → TextNumber → Span → List Diagnostic
gate_says c x sp = unless (not (is_some (c.gates x))) (error (Messages.gate_already_defined x) sp)

-- of two functions of one name the first stays
unfoldable pub define_function : TextNumber → List (ClassicalType × TextNumber) → ClassicalType → Span → Table FunctionSig → Table FunctionSig
define_function x params return_type sp fs =
    elim (fs x) [
      | none ↦ insert fs x (record { params = map (λ p. p.0) params; return_type = return_type; decl_span = sp })
      | some previous ↦ fs
    ]

unfoldable pub function_says : SemaContext → TextNumber → List (ClassicalType × TextNumber) → ClassicalType → Expr → Span → List Diagnostic
function_says c x params return_type body sp =
    let a = check_expr (function_scope params sp ∷ c.symbols) (define_function x params return_type sp c.functions) body in
    elim (c.functions x) [
      | none ↦ []
      | some previous ↦ error_with_note (Messages.function_already_defined x) sp Messages.first_defined previous.decl_span ∷ []
    ]
    ++ (a.says ++ mismatch (λ actual. error (Messages.function_returns x return_type actual) (expr_span body)) return_type a.type)

module _ (t : List Text) where
  unfoldable pub standard_says : TextNumber → Exprs → List GateModifier → List GateOperand → Span → rust.Option StandardGate → List Diagnostic
  standard_says x params modifiers args sp None = error (Messages.gate_not_defined x) sp ∷ []
  standard_says x params modifiers args sp (Some gate) = arity_says x gate.params gate.qubits none params modifiers args sp

  -- "A definition of exactly that name goes before it"
  unfoldable pub signature_says : SemaContext → TextNumber → Exprs → List GateModifier → List GateOperand → Span → List Diagnostic
  signature_says c x params modifiers args sp =
      elim (c.gates x) [
        | none ↦ standard_says x params modifiers args sp (signature_of (map lower (get_or t x [])))
        | some sig ↦ arity_says x sig.param-count sig.qubit-count (some sig.decl_span) params modifiers args sp
      ]

  unfoldable pub gate_call_says : SemaContext → TextNumber → List GateModifier → Exprs → List GateOperand → Span → List Diagnostic
  gate_call_says c x modifiers params args sp =
      signature_says c x params modifiers args sp
      ++ (check_modifiers c.symbols c.functions modifiers
      ++ (params_say c params
      ++ (use_operands c.symbols c.measured sp args
      ++ widths_say sp (register_widths c.symbols args))))

  unfoldable mutual
    pub analyze_stmt : Stmt → SemaContext → Walked
    analyze_stmt (Stmt.Include at path sp) c = simple (Stmt.Include at path sp) sp c []
    analyze_stmt (Stmt.QubitDecl at x size sp) c = simple (Stmt.QubitDecl at x size sp) sp c (declare_says c.symbols x sp)
    analyze_stmt (Stmt.BitDecl at x size sp) c = simple (Stmt.BitDecl at x size sp) sp c (declare_says c.symbols x sp)
    analyze_stmt (Stmt.ClassicalDecl at q ty x init sp) c =
        let s = Stmt.ClassicalDecl at q ty x init sp in
        simple s sp c (classical_says c q ty x init sp (after c.symbols s))
    analyze_stmt (Stmt.Assignment at x op value sp) c = simple (Stmt.Assignment at x op value sp) sp c (assignment_says c x op value sp)
    analyze_stmt (Stmt.GateCall at x modifiers params args sp) c =
        simple (Stmt.GateCall at x modifiers params args sp) sp c (gate_call_says c x modifiers params args sp)
    analyze_stmt (Stmt.GateDef at x params qparams body sp) c =
        let w = analyze_stmts body (enter (gate_scope params qparams sp) (define_gate x params qparams sp c)) in
        (leave c w.0 w.0.measured, gate_says c x sp ++ w.1)
    analyze_stmt (Stmt.FunctionDef at x params return_type body sp) c = (
      record {
        symbols = c.symbols;
        gates = c.gates;
        functions = define_function x params return_type sp c.functions;
        measured = c.measured;
      },
      function_says c x params return_type body sp,
    )
    analyze_stmt (Stmt.Measure at qubit target sp) c = simple (Stmt.Measure at qubit target sp) sp c (measure_says c qubit target sp)
    analyze_stmt (Stmt.Reset at target sp) c = simple (Stmt.Reset at target sp) sp c (check_operand c.symbols target a_qubit)
    analyze_stmt (Stmt.Barrier at targets sp) c = simple (Stmt.Barrier at targets sp) sp c (use_operands c.symbols c.measured sp targets)
    analyze_stmt (Stmt.Delay at duration targets sp) c =
        simple (Stmt.Delay at duration targets sp) sp c
        (require_numeric c.symbols c.functions duration Messages.delay_numeric ++ use_operands c.symbols c.measured sp targets)
    analyze_stmt (Stmt.If at condition then_body else_body sp) c =
        let a = analyze_stmts then_body (enter empty c) in
        let b = analyze_else else_body c a.0 in
        (b.0, require_type c.symbols c.functions condition ClassicalType.Bool Messages.if_condition ++ (a.1 ++ b.1))
    analyze_stmt (Stmt.For at x ty range body sp) c =
        let w = analyze_stmts body (enter (loop_scope x ty sp) c) in
        (leave c w.0 (after_loop c.measured w.0.measured), range_says c ty range sp ++ w.1)
    analyze_stmt (Stmt.While at condition body sp) c =
        let w = analyze_stmts body (enter empty c) in
        (leave c w.0 (after_loop c.measured w.0.measured), require_type c.symbols c.functions condition ClassicalType.Bool Messages.while_condition ++ w.1)

    pub analyze_stmts : Stmts → SemaContext → Walked
    analyze_stmts no_stmt c = (c, [])
    analyze_stmts (more_stmt s r) c =
        let w = analyze_stmt s c in
        let v = analyze_stmts r w.0 in
        (v.0, w.1 ++ v.1)

    -- after the `then` body, which the context i ended in: "`else` starts from the entry marks, then both exits are united. Without `else`
    -- .. entry and exit united."
    pub analyze_else : Else → SemaContext → SemaContext → Walked
    analyze_else no_else c i = (leave c i (unite c.measured i.measured), [])
    analyze_else (some_else body) c i =
        let w = analyze_stmts body (enter empty (leave c i c.measured)) in
        (leave c w.0 (unite i.measured w.0.measured), w.1)

unfoldable pub analyze : Program → List Diagnostic
analyze p = (analyze_stmts p.texts p.statements new).1
