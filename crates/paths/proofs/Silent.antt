-- No part of the analysis but the check of uses says `use of qubit` .. `after measurement`: expressions, operands, modifiers.
-- Assumes nothing.
use Prim.Native.Nat.{ℕ, suc}
use mathlib.Core.Path.{◌≡◌, refl, ap, ◌∙◌}
use mathlib.Core.Bool.{Bool, true, false, cond, ◌&&◌, ◌||◌}
use mathlib.Core.Option.{Option, none, some}
use mathlib.Core.List.{List, [], ◌∷◌, ◌++◌}
use lib.ListN.{length}
use lib.Dec.{eqb, ltb, leb}
use Rattle.span.specs.declared.Span.{Span}
use Rattle.ast.specs.Tree.{TextNumber, Expr, Exprs, no_expr, more_expr, GateOperand, GateModifier, expr_count}
use Rattle.ast.specs.declared.ClassicalType.{ClassicalType}
use Rattle.types.specs.Types.{number_of, assignable_to, numeric}
use Rattle.sema.specs.Messages
use Rattle.sema.specs.Messages.{SymbolKind, Qubit, Bit, Classical, Const, GateParam, GateQubit, Expected, Diagnostic, error}
use Rattle.sema.specs.Symbols.{Symbols, Symbol, FunctionSig, Table, get}
use Rattle.int128.specs.Whole.{positive}
use Rattle.sema.specs.Constants.{eval_const_int}
use Rattle.sema.specs.Operands.{unless, is_some, fits, is_gate_qubit, index_says, slice_says, bounds_say, check_operand}
use Rattle.sema.specs.Exprs.{Typing, expr_span, ident_type, bit_index_type, index_type, neg_type, arithmetic_type, compare_type, mismatch, not_numeric, argument_says, rest, check_expr, check_all, check_arguments, require_type, require_numeric, control_says, check_modifier, check_modifiers}
use Rattle.paths.specs.Errors.{Line, line, is_use, use_lines}

pub use_lines-append : (a b : List Diagnostic) → use_lines (a ++ b) ≡ use_lines a ++ use_lines b
use_lines-append [] b = refl
use_lines-append (d ∷ a) b = go (is_use d.severity d.message) (use_lines a) (use_lines b) (use_lines-append a b)
  where
    k : Line
    k = line d.span d.message

    go : (u : Bool) {ls : List Line} (ms ns : List Line) → ls ≡ ms ++ ns → cond u (k ∷ ls) ls ≡ cond u (k ∷ ms) ms ++ ns
    go true ms ns e = ap (λ (l : List Line). k ∷ l) e
    go false ms ns e = e

-- none of the errors counted
pub record Silent (ds : List Diagnostic) : Type 0 where
  pub none-counted : use_lines ds ≡ []

abbrev pub silent : {ds : List Diagnostic} → use_lines ds ≡ [] → Silent ds
silent e = record { none-counted = e }

pub silent-append : {a b : List Diagnostic} → Silent a → Silent b → Silent (a ++ b)
silent-append {a} {b} p q = silent (use_lines-append a b ∙ (ap (λ (l : List Line). l ++ use_lines b) p.none-counted ∙ q.none-counted))

pub silent-unless : (b : Bool) {d : Diagnostic} → Silent (d ∷ []) → Silent (unless b d)
silent-unless true p = silent refl
silent-unless false p = p

pub silent-cond : (b : Bool) {s t : List Diagnostic} → Silent s → Silent t → Silent (cond b s t)
silent-cond true p q = p
silent-cond false p q = q

pub silent-option : {A : Type 0} (o : Option A) {s : List Diagnostic} {t : A → List Diagnostic} → Silent s → ((a : A) → Silent (t a))
    → Silent (elim o [ none ↦ s | some a ↦ t a ])
silent-option none p q = p
silent-option (some a) p q = q a

-- ── Operands ──

silent-index : (op : GateOperand) (sym : Symbol) (i n : Option ℕ) → Silent (index_says op sym i n)
unfolding index_says
silent-index op sym none n = silent refl
silent-index op sym (some i) none = silent refl
silent-index op sym (some i) (some n) = silent-unless (ltb i n) (silent refl)

silent-slice : (op : GateOperand) (sym : Symbol) (r : Option (ℕ × ℕ)) (n : Option ℕ) → Silent (slice_says op sym r n)
unfolding slice_says
silent-slice op sym none n = silent refl
silent-slice op sym (some r) none = silent refl
silent-slice op sym (some r) (some n) = silent-unless (leb r.0 r.1 && ltb r.1 n) (silent refl)

silent_bounds : (op : GateOperand) (sym : Symbol) → Silent (bounds_say op sym)
unfolding bounds_say
silent_bounds op sym =
    silent-cond (is_gate_qubit sym.kind && (is_some op.index || is_some op.slice)) (silent refl)
    (silent-append (silent-index op sym op.index sym.size) (silent-slice op sym op.slice sym.size))

pub silent-operand : (ss : Symbols) (op : GateOperand) (e : Expected) → Silent (check_operand ss op e)
unfolding check_operand
silent-operand ss op e =
    silent-option (get ss op.name) (silent refl) (λ sym. silent-append (silent-unless (fits e sym.kind) (silent refl)) (silent_bounds op sym))

-- ── Expressions ──

-- a typing that says none of them
pub record Quiet (t : Typing) : Type 0 where
  pub says : Silent t.says

abbrev quiet : {t : Typing} → Silent t.says → Quiet t
quiet p = record { says = p }

quiet-cond : (b : Bool) {s t : Typing} → Quiet s → Quiet t → Quiet (cond b s t)
quiet-cond true p q = p
quiet-cond false p q = q

quiet-option : {A : Type 0} (o : Option A) {s : Typing} {t : A → Typing} → Quiet s → ((a : A) → Quiet (t a)) → Quiet (elim o [ none ↦ s | some a ↦ t a ])
quiet-option none p q = p
quiet-option (some a) p q = q a

quiet-ident : (x : TextNumber) (sp : Span) (k : SymbolKind) → Quiet (ident_type x sp k)
unfolding ident_type
quiet-ident x sp Qubit = quiet (silent refl)
quiet-ident x sp Bit = quiet (silent refl)
quiet-ident x sp (Classical ty) = quiet (silent refl)
quiet-ident x sp (Const ty) = quiet (silent refl)
quiet-ident x sp GateParam = quiet (silent refl)
quiet-ident x sp GateQubit = quiet (silent refl)

quiet_bit : (x : TextNumber) (i : ℕ) (sp : Span) (n : Option ℕ) → Quiet (bit_index_type x i sp n)
unfolding bit_index_type
quiet_bit x i sp none = quiet (silent refl)
quiet_bit x i sp (some n) = quiet-cond (ltb i n) (quiet (silent refl)) (quiet (silent refl))

quiet-index : (x : TextNumber) (i : ℕ) (sp : Span) (sym : Symbol) (k : SymbolKind) → Quiet (index_type x i sp sym k)
unfolding index_type
quiet-index x i sp sym Qubit = quiet (silent refl)
quiet-index x i sp sym Bit = quiet_bit x i sp sym.size
quiet-index x i sp sym (Classical ty) = quiet (silent refl)
quiet-index x i sp sym (Const ty) = quiet (silent refl)
quiet-index x i sp sym GateParam = quiet (silent refl)
quiet-index x i sp sym GateQubit = quiet (silent refl)

quiet-neg : (sp : Span) (t : Option ClassicalType) → Quiet (neg_type sp t)
unfolding neg_type
quiet-neg sp none = quiet (silent refl)
quiet-neg sp (some ty) = quiet-cond (numeric ty) (quiet (silent refl)) (quiet (silent refl))

quiet_arithmetic : (sp : Span) (s t : Option ClassicalType) → Quiet (arithmetic_type sp s t)
unfolding arithmetic_type
quiet_arithmetic sp none t = quiet (silent refl)
quiet_arithmetic sp (some s) none = quiet (silent refl)
quiet_arithmetic sp (some s) (some t) = quiet-cond (numeric s && numeric t) (quiet (silent refl)) (quiet (silent refl))

quiet-compare : (sp : Span) (s t : Option ClassicalType) → Quiet (compare_type sp s t)
unfolding compare_type
quiet-compare sp none t = quiet (silent refl)
quiet-compare sp (some s) none = quiet (silent refl)
quiet-compare sp (some s) (some t) = quiet-cond (eqb (number_of s) (number_of t) || (numeric s && numeric t)) (quiet (silent refl)) (quiet (silent refl))

pub silent-mismatch : (d : ClassicalType → Diagnostic) → ((a : ClassicalType) → Silent (d a ∷ []))
    → (ty : ClassicalType) (t : Option ClassicalType) → Silent (mismatch d ty t)
unfolding mismatch
silent-mismatch d q ty none = silent refl
silent-mismatch d q ty (some a) = silent-unless (assignable_to ty a) (q a)

silent-numeric : (d : Diagnostic) → Silent (d ∷ []) → (t : Option ClassicalType) → Silent (not_numeric d t)
unfolding not_numeric
silent-numeric d q none = silent refl
silent-numeric d q (some t) = silent-unless (numeric t) q

silent_argument : (x : TextNumber) (i : ℕ) (e : Expr) (ps : List ClassicalType) (t : Option ClassicalType) → Silent (argument_says x i e ps t)
unfolding argument_says
silent_argument x i e [] t = silent refl
silent_argument x i e (p ∷ ps) t = silent-mismatch _ (λ a. silent refl) p t

module _ (ss : Symbols) (fs : Table FunctionSig) where
  mutual
    unfolding check_expr

    pub quiet-expr : (e : Expr) → Quiet (check_expr ss fs e)
    quiet-expr (Expr.IntLit n sp) = quiet (silent refl)
    quiet-expr (Expr.FloatLit x sp) = quiet (silent refl)
    quiet-expr (Expr.BoolLit b sp) = quiet (silent refl)
    quiet-expr (Expr.Ident x sp) = quiet-option (get ss x) (quiet (silent refl)) (λ sym. quiet-ident x sp sym.kind)
    quiet-expr (Expr.Index x i sp) = quiet-option (get ss x) (quiet (silent refl)) (λ sym. quiet-index x i sp sym sym.kind)
    quiet-expr (Expr.Call x args sp) =
        quiet-option (fs x) (quiet (silent (silent-all args).none-counted))
        (λ sig. quiet (silent-append (silent-unless (eqb (expr_count args) (length sig.params)) (silent refl)) (silent_arguments args x 0 sig.params)))
    quiet-expr (Expr.Const c sp) = quiet (silent refl)
    quiet-expr (Expr.Neg e sp) = quiet (silent-append (quiet-expr e).says (quiet-neg sp (check_expr ss fs e).type).says)
    quiet-expr (Expr.BinOp op l r sp) =
        quiet (silent-append (quiet-expr l).says (silent-append (quiet-expr r).says (quiet_arithmetic sp (check_expr ss fs l).type (check_expr ss fs r).type).says))
    quiet-expr (Expr.Compare op l r sp) =
        quiet (silent-append (quiet-expr l).says (silent-append (quiet-expr r).says (quiet-compare sp (check_expr ss fs l).type (check_expr ss fs r).type).says))

    silent-all : (es : Exprs) → Silent (check_all ss fs es)
    silent-all no_expr = silent refl
    silent-all (more_expr e es) = silent-append (quiet-expr e).says (silent-all es)

    silent_arguments : (es : Exprs) (x : TextNumber) (i : ℕ) (ps : List ClassicalType) → Silent (check_arguments ss fs es x i ps)
    silent_arguments no_expr x i ps = silent refl
    silent_arguments (more_expr e es) x i ps =
        silent-append (silent-append (quiet-expr e).says (silent_argument x i e ps (check_expr ss fs e).type)) (silent_arguments es x (suc i) (rest ps))

  pub silent_require : (e : Expr) (ty : ClassicalType) (c : Messages.Context) → Silent (require_type ss fs e ty c)
  unfolding require_type
  silent_require e ty c = silent-append (quiet-expr e).says (silent-mismatch _ (λ a. silent refl) ty (check_expr ss fs e).type)

  pub silent-require_numeric : (e : Expr) (m : Messages.Message) → ((sp : Span) → Silent (error m sp ∷ [])) → Silent (require_numeric ss fs e m)
  unfolding require_numeric
  silent-require_numeric e m q = silent-append (quiet-expr e).says (silent-numeric _ (q (expr_span e)) (check_expr ss fs e).type)

  silent-control : (arg : Option Expr) (sp : Span) → Silent (control_says ss fs arg sp)
  unfolding control_says
  silent-control none sp = silent refl
  silent-control (some e) sp = silent-append (silent_require e ClassicalType.Int Messages.control_argument)
      (silent-unless (elim (eval_const_int e) [ none ↦ false | some z ↦ positive z ]) (silent refl))

  silent-modifier : (m : GateModifier) → Silent (check_modifier ss fs m)
  unfolding check_modifier
  silent-modifier (GateModifier.Ctrl arg sp) = silent-control arg sp
  silent-modifier (GateModifier.NegCtrl arg sp) = silent-control arg sp
  silent-modifier (GateModifier.Inv sp) = silent refl
  silent-modifier (GateModifier.Pow e sp) = silent-require_numeric e Messages.power_numeric (λ sp. silent refl)

  pub silent-modifiers : (ms : List GateModifier) → Silent (check_modifiers ss fs ms)
  unfolding check_modifiers
  silent-modifiers [] = silent refl
  silent-modifiers (m ∷ ms) = silent-append (silent-modifier m) (silent-modifiers ms)
