-- Types of expressions, as `check_expr`, `require_type` and `check_modifiers` of src/sema.rs.
use Rattle.std.specs.Prelude.{ℕ, suc, List, [], ◌∷◌, ◌++◌, false, cond, ◌&&◌, ◌||◌, length, eqb, ltb}
use Rattle.std.proofs.Math.Option.{Option, none, some}
use Rattle.span.specs.declared.Span.{Span}
use Rattle.ast.specs.Tree.{TextNumber, Expr, Exprs, no_expr, more_expr, GateModifier, expr_count}
use Rattle.ast.specs.declared.ClassicalType.{ClassicalType}
use Rattle.types.specs.Types.{number_of, assignable_to, numeric, larger}
use Rattle.sema.specs.Messages
use Rattle.sema.specs.Messages.{SymbolKind, Qubit, Bit, Classical, Const, GateParam, GateQubit, Diagnostic, error, error_with_note}
use Rattle.sema.specs.Symbols.{Symbols, Symbol, FunctionSig, Table, get}
use Rattle.int128.specs.Whole.{positive}
use Rattle.sema.specs.Constants.{eval_const_int}
use Rattle.sema.specs.Operands.{unless}

-- what an expression is found to be, and what is said of it
pub record Typing : Type 0 where
  pub type : Option ClassicalType
  pub says : List Diagnostic

abbrev pub typed : ClassicalType → Typing
typed ty = record { type = some ty; says = [] }

abbrev pub untyped : List Diagnostic → Typing
untyped ds = record { type = none; says = ds }

unfoldable pub expr_span : Expr → Span
expr_span (Expr.IntLit n sp) = sp
expr_span (Expr.FloatLit x sp) = sp
expr_span (Expr.BoolLit b sp) = sp
expr_span (Expr.Ident x sp) = sp
expr_span (Expr.Index x i sp) = sp
expr_span (Expr.Call x args sp) = sp
expr_span (Expr.Const c sp) = sp
expr_span (Expr.Neg e sp) = sp
expr_span (Expr.BinOp op l r sp) = sp
expr_span (Expr.Compare op l r sp) = sp

unfoldable pub ident_type : TextNumber → Span → SymbolKind → Typing
ident_type x sp Qubit = untyped (error (Messages.not_classical x) sp ∷ [])
ident_type x sp Bit = typed ClassicalType.Int
ident_type x sp (Classical ty) = typed ty
ident_type x sp (Const ty) = typed ty
ident_type x sp GateParam = typed ClassicalType.Float
ident_type x sp GateQubit = untyped (error (Messages.not_classical x) sp ∷ [])

unfoldable pub bit_index_type : TextNumber → ℕ → Span → Option ℕ → Typing
bit_index_type x i sp none = untyped (error (Messages.cannot_index_bit x) sp ∷ [])
bit_index_type x i sp (some n) =
    cond (ltb i n) (typed ClassicalType.Int) (untyped (error (Messages.index_out_of_bounds i x n) sp ∷ []))

unfoldable pub index_type : TextNumber → ℕ → Span → Symbol → SymbolKind → Typing
index_type x i sp sym Qubit = untyped (error (Messages.not_indexable x) sp ∷ [])
index_type x i sp sym Bit = bit_index_type x i sp sym.size
index_type x i sp sym (Classical ty) = untyped (error (Messages.not_indexable x) sp ∷ [])
index_type x i sp sym (Const ty) = untyped (error (Messages.not_indexable x) sp ∷ [])
index_type x i sp sym GateParam = untyped (error (Messages.not_indexable x) sp ∷ [])
index_type x i sp sym GateQubit = untyped (error (Messages.not_indexable x) sp ∷ [])

unfoldable pub neg_type : Span → Option ClassicalType → Typing
neg_type sp none = untyped []
neg_type sp (some ty) = cond (numeric ty) (typed ty) (untyped (error Messages.negation_numeric sp ∷ []))

unfoldable pub arithmetic_type : Span → Option ClassicalType → Option ClassicalType → Typing
arithmetic_type sp none r = untyped []
arithmetic_type sp (some l) none = untyped []
arithmetic_type sp (some l) (some r) =
    cond (numeric l && numeric r) (typed (larger l r)) (untyped (error Messages.arithmetic_numeric sp ∷ []))

unfoldable pub compare_type : Span → Option ClassicalType → Option ClassicalType → Typing
compare_type sp none r = untyped []
compare_type sp (some l) none = untyped []
compare_type sp (some l) (some r) =
    cond (eqb (number_of l) (number_of r) || (numeric l && numeric r)) (typed ClassicalType.Bool) (untyped (error Messages.comparison_types sp ∷ []))

-- what d says of the actual type, where the expected type does not take it; nothing where there is no type
unfoldable pub mismatch : (ClassicalType → Diagnostic) → ClassicalType → Option ClassicalType → List Diagnostic
mismatch d expected none = []
mismatch d expected (some actual) = unless (assignable_to expected actual) (d actual)

unfoldable pub not_numeric : Diagnostic → Option ClassicalType → List Diagnostic
not_numeric d none = []
not_numeric d (some ty) = unless (numeric ty) d

-- an argument against the parameter of its place, where there is one
unfoldable pub argument_says : TextNumber → ℕ → Expr → List ClassicalType → Option ClassicalType → List Diagnostic
argument_says x i arg [] actual = []
argument_says x i arg (p ∷ ps) actual = mismatch (λ a. error (Messages.argument_type (suc i) x p a) (expr_span arg)) p actual

unfoldable pub rest : List ClassicalType → List ClassicalType
rest [] = []
rest (p ∷ ps) = ps

module _ (ss : Symbols) (fs : Table FunctionSig) where
  unfoldable mutual
    pub check_expr : Expr → Typing
    check_expr (Expr.IntLit n sp) = typed ClassicalType.Int
    check_expr (Expr.FloatLit x sp) = typed ClassicalType.Float
    check_expr (Expr.BoolLit b sp) = typed ClassicalType.Bool
    check_expr (Expr.Ident x sp) =
        elim (get ss x) [ none ↦ untyped (error (Messages.not_declared x) sp ∷ []) | some sym ↦ ident_type x sp sym.kind ]
    check_expr (Expr.Index x i sp) =
        elim (get ss x) [ none ↦ untyped (error (Messages.not_declared x) sp ∷ []) | some sym ↦ index_type x i sp sym sym.kind ]
    check_expr (Expr.Call x args sp) =
        elim (fs x) [
          | none ↦ untyped (error (Messages.function_not_defined x) sp ∷ check_all args)
          | some sig ↦ record {
            type = some sig.return_type;
            says =
                unless (eqb (expr_count args) (length sig.params))
                (error_with_note (Messages.function_arguments x (length sig.params) (expr_count args)) sp Messages.function_defined sig.decl_span)
                ++ check_arguments args x 0 sig.params;
          }
        ]
    check_expr (Expr.Const c sp) = typed ClassicalType.Float
    check_expr (Expr.Neg e sp) =
        let a = check_expr e in
        let n = neg_type sp a.type in
        record { type = n.type; says = a.says ++ n.says }
    check_expr (Expr.BinOp op l r sp) =
        let a = check_expr l in
        let b = check_expr r in
        let n = arithmetic_type sp a.type b.type in
        record { type = n.type; says = a.says ++ (b.says ++ n.says) }
    check_expr (Expr.Compare op l r sp) =
        let a = check_expr l in
        let b = check_expr r in
        let n = compare_type sp a.type b.type in
        record { type = n.type; says = a.says ++ (b.says ++ n.says) }

    -- the arguments of a function that is not defined
    pub check_all : Exprs → List Diagnostic
    check_all no_expr = []
    check_all (more_expr e es) = (check_expr e).says ++ check_all es

    -- the arguments from number i on, against the parameters from there on
    pub check_arguments : Exprs → TextNumber → ℕ → List ClassicalType → List Diagnostic
    check_arguments no_expr x i ps = []
    check_arguments (more_expr e es) x i ps =
        let a = check_expr e in
        (a.says ++ argument_says x i e ps a.type) ++ check_arguments es x (suc i) (rest ps)

  unfoldable pub require_type : Expr → ClassicalType → Messages.Context → List Diagnostic
  require_type e expected context =
      let a = check_expr e in
      a.says ++ mismatch (λ actual. error (Messages.must_have_type context expected actual) (expr_span e)) expected a.type

  -- an expression that must be numeric, at its span
  unfoldable pub require_numeric : Expr → Messages.Message → List Diagnostic
  require_numeric e message =
      let a = check_expr e in
      a.says ++ not_numeric (error message (expr_span e)) a.type

  unfoldable pub control_says : Option Expr → Span → List Diagnostic
  control_says none sp = []
  control_says (some arg) sp =
      require_type arg ClassicalType.Int Messages.control_argument
      ++ unless (elim (eval_const_int arg) [ none ↦ false | some z ↦ positive z ]) (error Messages.control_count sp)

  unfoldable pub check_modifier : GateModifier → List Diagnostic
  check_modifier (GateModifier.Ctrl arg sp) = control_says arg sp
  check_modifier (GateModifier.NegCtrl arg sp) = control_says arg sp
  check_modifier (GateModifier.Inv sp) = []
  check_modifier (GateModifier.Pow e sp) = require_numeric e Messages.power_numeric

  unfoldable pub check_modifiers : List GateModifier → List Diagnostic
  check_modifiers [] = []
  check_modifiers (m ∷ ms) = check_modifier m ++ check_modifiers ms
