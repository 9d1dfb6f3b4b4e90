-- What is said of a statement besides the uses of its operands is none of the errors counted. Assumes nothing.
use Prim.Native.Nat.{ℕ, ◌+◌}
use mathlib.Core.Path.{refl}
use mathlib.Core.Bool.{◌&&◌, ◌||◌, not}
use mathlib.Core.Option.{Option, none, some}
use mathlib.Core.List.{List, [], ◌∷◌, map}
use lib.ListN.{length, get_or}
use lib.Dec.{eqb}
use Rattle.std.specs.Prelude.{Some, None}
use Rattle.std.specs.Prelude as rust
use Rattle.span.specs.declared.Span.{Span}
use Rattle.ast.specs.Tree.{Text, TextNumber, Expr, Exprs, no_expr, more_expr, GateOperand, GateModifier, ForRange, expr_count}
use Rattle.ast.specs.declared.ClassicalType.{ClassicalType}
use Rattle.ast.specs.declared.ClassicalQualifier.{ClassicalQualifier}
use Rattle.ast.specs.declared.AssignOp.{AssignOp}
use Rattle.types.specs.Types.{number_of, assignable_to, numeric}
use Rattle.gates.specs.Gates.{lower, signature_of}
use Rattle.gates.specs.declared.StandardGate.{StandardGate}
use Rattle.sema.specs.Messages
use Rattle.sema.specs.Messages.{SymbolKind, Qubit, Bit, Classical, Const, GateParam, GateQubit, a_qubit, a_bit}
use Rattle.sema.specs.Symbols.{Symbols, FunctionSig, Table, get, get_current, declare_says, function_scope}
use Rattle.sema.specs.Marks.{lookup_measured}
use Rattle.sema.specs.Constants.{controls}
use Rattle.sema.specs.Operands.{is_some, operand_width}
use Rattle.sema.specs.Exprs.{check_expr}
use Rattle.sema.specs.Stmts.{SemaContext, is_const, is_input, is_assign, init_says, classical_says, assign_says, target_says, assignment_says, arity_error, arity_says, params_say, all_equal, widths_say, measure_target, measure_says, step_says, range_says, gate_says, define_function, function_says, standard_says, signature_says}
use Rattle.paths.proofs.Silent.{Silent, silent, silent-append, silent-unless, silent-option, silent-operand, quiet-expr, silent-mismatch, silent_require, silent-require_numeric}

-- ── Declarations and assignments ──

pub silent-declare : (ss : Symbols) (x : TextNumber) (sp : Span) → Silent (declare_says ss x sp)
unfolding declare_says
silent-declare ss x sp = silent-option (get_current ss x) (silent refl) (λ prev. silent refl)

silent_init : (ss : Symbols) (fs : Table FunctionSig) (ty : ClassicalType) (x : TextNumber) (init : Option Expr) → Silent (init_says ss fs ty x init)
unfolding init_says
silent_init ss fs ty x none = silent refl
silent_init ss fs ty x (some e) = silent-append (quiet-expr ss fs e).says (silent-mismatch _ (λ a. silent refl) ty (check_expr ss fs e).type)

pub silent_classical : (c : SemaContext) (q : Option ClassicalQualifier) (ty : ClassicalType) (x : TextNumber) (init : Option Expr) (sp : Span) (ss : Symbols)
    → Silent (classical_says c q ty x init sp ss)
unfolding classical_says
silent_classical c q ty x init sp ss =
    silent-append (silent-declare c.symbols x sp)
    (silent-append (silent-unless (not (is_const q && not (is_some init))) (silent refl))
    (silent-append (silent-unless (not (is_input q && is_some init)) (silent refl)) (silent_init ss c.functions ty x init)))

silent_assign : (x : TextNumber) (op : AssignOp) (e : Expr) (sp : Span) (ty : ClassicalType) (t : Option ClassicalType) → Silent (assign_says x op e sp ty t)
unfolding assign_says
silent_assign x op e sp ty none = silent refl
silent_assign x op e sp ty (some t) =
    silent-append (silent-unless (assignable_to ty t) (silent refl)) (silent-unless (is_assign op || (numeric ty && numeric t)) (silent refl))

silent_target : (x : TextNumber) (op : AssignOp) (e : Expr) (sp : Span) (t : Option ClassicalType) (k : SymbolKind) → Silent (target_says x op e sp t k)
unfolding target_says
silent_target x op e sp t Qubit = silent refl
silent_target x op e sp t Bit = silent refl
silent_target x op e sp t (Classical ty) = silent_assign x op e sp ty t
silent_target x op e sp t (Const ty) = silent refl
silent_target x op e sp t GateParam = silent refl
silent_target x op e sp t GateQubit = silent refl

pub silent-assignment : (c : SemaContext) (x : TextNumber) (op : AssignOp) (e : Expr) (sp : Span) → Silent (assignment_says c x op e sp)
unfolding assignment_says
silent-assignment c x op e sp =
    silent-append (quiet-expr c.symbols c.functions e).says
    (silent-option (get c.symbols x) (silent refl) (λ s. silent_target x op e sp (check_expr c.symbols c.functions e).type s.kind))

-- ── Gate calls and definitions ──

silent-arity_error : (m : Messages.Message) → ((sp : Span) → Silent (Messages.error m sp ∷ [])) → (sp : Span) (x : TextNumber) (decl : Option Span)
    → Silent (arity_error m sp x decl ∷ [])
silent-arity_error m q sp x none = q sp
silent-arity_error m q sp x (some at) = silent (q sp).none-counted

silent_arity : (x : TextNumber) (p q : ℕ) (decl : Option Span) (params : Exprs) (ms : List GateModifier) (args : List GateOperand) (sp : Span)
    → Silent (arity_says x p q decl params ms args sp)
unfolding arity_says
silent_arity x p q decl params ms args sp =
    silent-append (silent-unless (eqb (expr_count params) p) (silent-arity_error _ (λ z. silent refl) sp x decl))
    (silent-unless (eqb (length args) (q + controls ms)) (silent-arity_error _ (λ z. silent refl) sp x decl))

pub silent-params : (c : SemaContext) (es : Exprs) → Silent (params_say c es)
unfolding params_say
silent-params c no_expr = silent refl
silent-params c (more_expr e es) =
    silent-append (silent-require_numeric c.symbols c.functions e Messages.params_numeric (λ sp. silent refl)) (silent-params c es)

pub silent_widths : (sp : Span) (ws : List ℕ) → Silent (widths_say sp ws)
unfolding widths_say
silent_widths sp [] = silent refl
silent_widths sp (w ∷ ws) = silent-unless (all_equal w (w ∷ ws)) (silent refl)

module _ (t : List Text) where
  silent_standard : (x : TextNumber) (params : Exprs) (ms : List GateModifier) (args : List GateOperand) (sp : Span) (sig : rust.Option StandardGate)
      → Silent (standard_says t x params ms args sp sig)
  unfolding standard_says
  silent_standard x params ms args sp None = silent refl
  silent_standard x params ms args sp (Some gate) = silent_arity x gate.params gate.qubits none params ms args sp

  pub silent-signature : (c : SemaContext) (x : TextNumber) (params : Exprs) (ms : List GateModifier) (args : List GateOperand) (sp : Span)
      → Silent (signature_says t c x params ms args sp)
  unfolding signature_says
  silent-signature c x params ms args sp =
      silent-option (c.gates x) (silent_standard x params ms args sp (signature_of (map lower (get_or t x []))))
      (λ sig. silent_arity x sig.param-count sig.qubit-count (some sig.decl_span) params ms args sp)

pub silent-gate : (c : SemaContext) (x : TextNumber) (sp : Span) → Silent (gate_says c x sp)
unfolding gate_says
silent-gate c x sp = silent-unless (not (is_some (c.gates x))) (silent refl)

pub silent_function : (c : SemaContext) (x : TextNumber) (params : List (ClassicalType × TextNumber)) (ty : ClassicalType) (body : Expr) (sp : Span)
    → Silent (function_says c x params ty body sp)
unfolding function_says
silent_function c x params ty body sp =
    let ss = function_scope params sp ∷ c.symbols in
    let fs = define_function x params ty sp c.functions in
    silent-append (silent-option (c.functions x) (silent refl) (λ prev. silent refl))
    (silent-append (quiet-expr ss fs body).says (silent-mismatch _ (λ a. silent refl) ty (check_expr ss fs body).type))

-- ── Measures and loops ──

silent-measure_target : (ss : Symbols) (q : GateOperand) (sp : Span) (target : Option GateOperand) → Silent (measure_target ss q sp target)
unfolding measure_target
silent-measure_target ss q sp none = silent refl
silent-measure_target ss q sp (some b) =
    silent-append (silent-operand ss b a_bit)
    (silent-option (operand_width ss q) (silent refl) (λ m. silent-option (operand_width ss b) (silent refl) (λ n. silent-unless (eqb m n) (silent refl))))

pub silent-measure : (c : SemaContext) (q : GateOperand) (target : Option GateOperand) (sp : Span) → Silent (measure_says c q target sp)
unfolding measure_says
silent-measure c q target sp =
    silent-append (silent-operand c.symbols q a_qubit)
    (silent-append (silent-measure_target c.symbols q sp target)
    (silent-unless (not (is_some (lookup_measured c.measured q.name q.index))) (silent refl)))

silent-step : (c : SemaContext) (e : Option Expr) → Silent (step_says c e)
unfolding step_says
silent-step c none = silent refl
silent-step c (some e) = silent_require c.symbols c.functions e ClassicalType.Int Messages.range_step

pub silent_range : (c : SemaContext) (ty : ClassicalType) (r : ForRange) (sp : Span) → Silent (range_says c ty r sp)
unfolding range_says
silent_range c ty r sp =
    silent-append (silent-unless (eqb (number_of ty) (number_of ClassicalType.Int)) (silent refl))
    (silent-append (silent_require c.symbols c.functions r.start ClassicalType.Int Messages.range_bound)
    (silent-append (silent_require c.symbols c.functions r.end ClassicalType.Int Messages.range_bound) (silent-step c r.step)))
