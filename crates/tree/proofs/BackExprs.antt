-- Text numbers, the enums whose cases hold nothing, and expressions are read back from their bytes. Assumes nothing.
use Prim.Native.Nat.{ℕ, zero, suc, ◌<◌, ◌≤◌, ◌+◌, ◌-◌, ◌^◌}
use mathlib.Core.List.{List, ◌∷◌, flatten}
use mathlib.Core.Bool.{Bool}
use native.Mathlib.Omega.{arith}
use native.Mathlib.Numerals.{sub-one}
use lib.ListN.{length, get_or}
use lib.Dec.{lit<}
use borrow.Author.Tests.{lt-ltb}
use Rattle.ast.specs.Tree.{Text, TextNumber, Expr, Exprs, no_expr, more_expr, expr_count}
use Rattle.ast.specs.declared.ClassicalType.{ClassicalType}
use Rattle.ast.specs.declared.ClassicalQualifier.{ClassicalQualifier}
use Rattle.ast.specs.declared.AssignOp.{AssignOp}
use Rattle.ast.specs.declared.BinOp.{BinOp}
use Rattle.ast.specs.declared.CompareOp.{CompareOp}
use Rattle.ast.specs.declared.ConstKind.{ConstKind}
use Rattle.tree.specs.Limits.{texts_limit}
use Rattle.tree.specs.Ans.{refuse}
use Rattle.tree.specs.Read.{repeat}
use Rattle.tree.specs.Texts.{is_name, is_float}
use Rattle.tree.specs.Exprs.{const_kind, bin_op, compare_op, text_number, int_lit, float_lit, bool_lit, ident, index, call, const, neg, binary, compare, expr_cases, expr}
use Rattle.tree.specs.Stmts.{classical_type, qualifier, assign_op}
use Rattle.tree.specs.Encode.{put_string, put_type, put_qualifier, put_assign_op, put_bin_op, put_compare_op, put_const_kind, put_expr, put_each}
use Rattle.tree.specs.Fits.{StringFits, ExprFits, EachFits}
use Rattle.tree.proofs.Back.{Reads, seq, seq_end, last, done-reads, seq-here, seq-check, number-reads, span-reads, choice-reads, one-reads, bool-reads, counted-reads}

pub type_reads : {s : List ℕ} {at : ℕ} (ty : ClassicalType) → Reads s at classical_type (put_type ty) ty
unfolding classical_type put_type
type_reads ClassicalType.Int = one-reads _ _ 0 (lit< tt)
type_reads ClassicalType.UInt = one-reads _ _ 1 (lit< tt)
type_reads ClassicalType.Float = one-reads _ _ 2 (lit< tt)
type_reads ClassicalType.Angle = one-reads _ _ 3 (lit< tt)
type_reads ClassicalType.Bool = one-reads _ _ 4 (lit< tt)

pub qualifier-reads : {s : List ℕ} {at : ℕ} (q : ClassicalQualifier) → Reads s at qualifier (put_qualifier q) q
unfolding qualifier put_qualifier
qualifier-reads ClassicalQualifier.Const = one-reads _ _ 0 (lit< tt)
qualifier-reads ClassicalQualifier.Input = one-reads _ _ 1 (lit< tt)
qualifier-reads ClassicalQualifier.Output = one-reads _ _ 2 (lit< tt)

pub assign_reads : {s : List ℕ} {at : ℕ} (op : AssignOp) → Reads s at assign_op (put_assign_op op) op
unfolding assign_op put_assign_op
assign_reads AssignOp.Assign = one-reads _ _ 0 (lit< tt)
assign_reads AssignOp.AddAssign = one-reads _ _ 1 (lit< tt)
assign_reads AssignOp.SubAssign = one-reads _ _ 2 (lit< tt)

bin_reads : {s : List ℕ} {at : ℕ} (op : BinOp) → Reads s at bin_op (put_bin_op op) op
unfolding bin_op put_bin_op
bin_reads BinOp.Add = one-reads _ _ 0 (lit< tt)
bin_reads BinOp.Sub = one-reads _ _ 1 (lit< tt)
bin_reads BinOp.Mul = one-reads _ _ 2 (lit< tt)
bin_reads BinOp.Div = one-reads _ _ 3 (lit< tt)
bin_reads BinOp.Pow = one-reads _ _ 4 (lit< tt)

compare-reads : {s : List ℕ} {at : ℕ} (op : CompareOp) → Reads s at compare_op (put_compare_op op) op
unfolding compare_op put_compare_op
compare-reads CompareOp.Eq = one-reads _ _ 0 (lit< tt)
compare-reads CompareOp.Ne = one-reads _ _ 1 (lit< tt)
compare-reads CompareOp.Lt = one-reads _ _ 2 (lit< tt)
compare-reads CompareOp.Le = one-reads _ _ 3 (lit< tt)
compare-reads CompareOp.Gt = one-reads _ _ 4 (lit< tt)
compare-reads CompareOp.Ge = one-reads _ _ 5 (lit< tt)

const-reads : {s : List ℕ} {at : ℕ} (k : ConstKind) → Reads s at const_kind (put_const_kind k) k
unfolding const_kind put_const_kind
const-reads ConstKind.Pi = one-reads _ _ 0 (lit< tt)
const-reads ConstKind.Tau = one-reads _ _ 1 (lit< tt)
const-reads ConstKind.Euler = one-reads _ _ 2 (lit< tt)

module _ (t : List Text) (few : length t ≤ texts_limit) where
  pub string_reads : {s : List ℕ} {at : ℕ} (spelled : Text → Bool) (n : TextNumber) → StringFits t spelled n → Reads s at (text_number t spelled) (put_string n) n
  unfolding text_number
  string_reads spelled n h =
      let fits : n < 256 ^ 2 = omega (arith, few, h.known) in
      seq-here _ (seq_end _ (number-reads 2 n fits) (seq-check _ _ (lt-ltb n (length t) h.known) (seq-check _ _ h.spelling done-reads)))

  -- below its case byte
  expr-case : {s : List ℕ} {at : ℕ} (left c : ℕ) {bs : List ℕ} {e : Expr} → 0 < left → c < 10 → Reads s (at + 1) (get_or (expr_cases t (expr t (left - 1))) c (refuse 4 at)) bs e → Reads s at (expr t left) (c ∷ bs) e
  unfolding expr
  expr-case zero c l h p = absurd (omega arith)
  expr-case (suc left) c l h p = choice-reads 10 _ c h (rw sub-one at p)

  mutual
    unfolding put_expr ExprFits expr_cases int_lit float_lit bool_lit ident index call const neg binary compare repeat expr_count flatten

    pub expr-reads : {s : List ℕ} {at : ℕ} (left : ℕ) (e : Expr) → ExprFits t left e → Reads s at (expr t left) (put_expr e) e
    expr-reads left (Expr.IntLit n sp) h = expr-case left 0 h.0 (lit< tt) (seq _ (number-reads 8 n h.1) (seq _ (span-reads h.2) done-reads))
    expr-reads left (Expr.FloatLit x sp) h = expr-case left 1 h.0 (lit< tt) (seq _ (string_reads is_float x h.1) (seq _ (span-reads h.2) done-reads))
    expr-reads left (Expr.BoolLit b sp) h = expr-case left 2 h.0 (lit< tt) (seq _ (bool-reads b) (seq _ (span-reads h.1) done-reads))
    expr-reads left (Expr.Ident x sp) h = expr-case left 3 h.0 (lit< tt) (seq _ (string_reads is_name x h.1) (seq _ (span-reads h.2) done-reads))
    expr-reads left (Expr.Index x i sp) h =
        expr-case left 4 h.0 (lit< tt) (seq _ (string_reads is_name x h.1) (seq _ (number-reads 8 i h.2) (seq _ (span-reads h.3) done-reads)))
    expr-reads left (Expr.Call x args sp) h =
        expr-case left 5 h.0 (lit< tt) (seq _ (string_reads is_name x h.1) (seq _ (counted-reads no_expr more_expr _ _ h.2 (each-reads (left - 1) args h.3)) (seq _ (span-reads h.4) done-reads)))
    expr-reads left (Expr.Const k sp) h = expr-case left 6 h.0 (lit< tt) (seq _ (const-reads k) (seq _ (span-reads h.1) done-reads))
    expr-reads left (Expr.Neg e sp) h = expr-case left 7 h.0 (lit< tt) (seq _ (expr-reads (left - 1) e h.1) (seq _ (span-reads h.2) done-reads))
    expr-reads left (Expr.BinOp op lhs rhs sp) h =
        expr-case left 8 h.0 (lit< tt) (seq _ (bin_reads op) (seq _ (expr-reads (left - 1) lhs h.1) (seq _ (expr-reads (left - 1) rhs h.2) (seq _ (span-reads h.3) done-reads))))
    expr-reads left (Expr.Compare op lhs rhs sp) h =
        expr-case left 9 h.0 (lit< tt) (seq _ (compare-reads op) (seq _ (expr-reads (left - 1) lhs h.1) (seq _ (expr-reads (left - 1) rhs h.2) (seq _ (span-reads h.3) done-reads))))

    pub each-reads : {s : List ℕ} {at : ℕ} (left : ℕ) (es : Exprs) → EachFits t left es → Reads s at (repeat no_expr more_expr (expr t left) (expr_count es)) (put_each es) es
    each-reads left no_expr h = done-reads
    each-reads left (more_expr e es) h = seq _ (expr-reads left e h.0) (last _ (each-reads left es h.1))
