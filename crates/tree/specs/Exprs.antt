-- Text numbers and expressions from bytes, over the file's texts `t`. A case's reader starts behind the case byte and takes the fields
-- in the order of src/ast.rs; `inner` reads an expression one level below.
use Rattle.std.specs.Prelude.{ℕ, zero, suc, List, [], ◌∷◌, Bool, length, get_or, ltb}
use Rattle.ast.specs.Tree.{Text, TextNumber, Expr, Exprs, no_expr, more_expr}
use Rattle.ast.specs.declared.ConstKind.{ConstKind}
use Rattle.ast.specs.declared.BinOp.{BinOp}
use Rattle.ast.specs.declared.CompareOp.{CompareOp}
use Rattle.tree.specs.Ans.{Reader, ◌>>=◌, ◌>>◌, done, here, refuse, check}
use Rattle.tree.specs.Read.{u16, u64, span, bool, one_of, case_byte, counted}
use Rattle.tree.specs.Texts.{is_name, is_float}

unfoldable pub const_kind : Reader ConstKind
const_kind = one_of ConstKind.Pi (ConstKind.Tau ∷ ConstKind.Euler ∷ [])

unfoldable pub bin_op : Reader BinOp
bin_op = one_of BinOp.Add (BinOp.Sub ∷ BinOp.Mul ∷ BinOp.Div ∷ BinOp.Pow ∷ [])

unfoldable pub compare_op : Reader CompareOp
compare_op = one_of CompareOp.Eq (CompareOp.Ne ∷ CompareOp.Lt ∷ CompareOp.Le ∷ CompareOp.Gt ∷ CompareOp.Ge ∷ [])

-- a Vec of expressions
abbrev pub exprs : Reader Expr → Reader Exprs
exprs p = counted no_expr more_expr p

module _ (t : List Text) where
  -- "String: two-byte text number": below the number of texts, and its text spelled as asked
  unfoldable pub text_number : (Text → Bool) → Reader TextNumber
  text_number spelled = do
    at ← here
    n ← u16
    check (ltb n (length t)) 4 at
    check (spelled (get_or t n [])) 4 at
    done n

  abbrev pub name : Reader TextNumber
  name = text_number is_name

  unfoldable pub int_lit : Reader Expr
  int_lit = do
    n ← u64
    sp ← span
    done (Expr.IntLit n sp)

  -- "A float literal is a text number in place of the f64"
  unfoldable pub float_lit : Reader Expr
  float_lit = do
    x ← text_number is_float
    sp ← span
    done (Expr.FloatLit x sp)

  unfoldable pub bool_lit : Reader Expr
  bool_lit = do
    b ← bool
    sp ← span
    done (Expr.BoolLit b sp)

  unfoldable pub ident : Reader Expr
  ident = do
    x ← name
    sp ← span
    done (Expr.Ident x sp)

  unfoldable pub index : Reader Expr
  index = do
    x ← name
    i ← u64
    sp ← span
    done (Expr.Index x i sp)

  unfoldable pub call : Reader Expr → Reader Expr
  call inner = do
    x ← name
    args ← exprs inner
    sp ← span
    done (Expr.Call x args sp)

  unfoldable pub const : Reader Expr
  const = do
    k ← const_kind
    sp ← span
    done (Expr.Const k sp)

  unfoldable pub neg : Reader Expr → Reader Expr
  neg inner = do
    e ← inner
    sp ← span
    done (Expr.Neg e sp)

  unfoldable pub binary : Reader Expr → Reader Expr
  binary inner = do
    op ← bin_op
    lhs ← inner
    rhs ← inner
    sp ← span
    done (Expr.BinOp op lhs rhs sp)

  unfoldable pub compare : Reader Expr → Reader Expr
  compare inner = do
    op ← compare_op
    lhs ← inner
    rhs ← inner
    sp ← span
    done (Expr.Compare op lhs rhs sp)

  -- the cases of `Expr`, counted from 0
  unfoldable pub expr_cases : Reader Expr → List (Reader Expr)
  expr_cases inner =
      int_lit ∷ float_lit ∷ bool_lit ∷ ident ∷ index ∷ call inner ∷ const ∷ neg inner ∷ binary inner ∷ compare inner ∷ []

  -- an expression with so many levels left: a byte that is no case is refused before its level is
  unfoldable pub expr : ℕ → Reader Expr
  expr zero = do
    at ← here
    b ← case_byte 10
    refuse 6 at
  expr (suc left) = do
    at ← here
    b ← case_byte 10
    get_or (expr_cases (expr left)) b (refuse 4 at)
