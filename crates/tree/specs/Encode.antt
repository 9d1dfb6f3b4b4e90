-- The encoder: from a program to the bytes of its file. A value is its fields one after the other; an enum's begins with its case.
use Rattle.std.specs.Prelude.{ℕ, zero, suc, ◌/◌, ◌%◌, Bool, true, false, length}
use mathlib.Core.List.{List, [], ◌∷◌, ◌++◌, map, flatten}
use Rattle.std.proofs.Math.Option.{Option, none, some}
use Rattle.span.specs.declared.Span.{Span}
use Rattle.ast.specs.Tree.{Text, TextNumber, Expr, Exprs, no_expr, more_expr, GateOperand, GateModifier, ForRange, Stmt, Stmts, no_stmt, more_stmt, Else, no_else, some_else, Program, expr_count}
use Rattle.ast.specs.declared.ClassicalType.{ClassicalType}
use Rattle.ast.specs.declared.ClassicalQualifier.{ClassicalQualifier}
use Rattle.ast.specs.declared.AssignOp.{AssignOp}
use Rattle.ast.specs.declared.BinOp.{BinOp}
use Rattle.ast.specs.declared.CompareOp.{CompareOp}
use Rattle.ast.specs.declared.ConstKind.{ConstKind}

-- a number in so many bytes, the last byte counting least
unfoldable pub big : ℕ → ℕ → List ℕ
big zero n = []
big (suc width) n = big width (n / 256) ++ (n % 256 ∷ [])

unfoldable pub put_span : Span → List ℕ
put_span sp = flatten (big 4 sp.start ∷ big 4 sp.end ∷ [])

unfoldable pub put_option : {A : Type 0} → (A → List ℕ) → Option A → List ℕ
put_option put none = 0 ∷ []
put_option put (some a) = 1 ∷ put a

unfoldable pub put_vec : {A : Type 0} → (A → List ℕ) → List A → List ℕ
put_vec put xs = length xs ∷ flatten (map put xs)

unfoldable pub put_bool : Bool → List ℕ
put_bool false = 0 ∷ []
put_bool true = 1 ∷ []

unfoldable pub put_type : ClassicalType → List ℕ
put_type ClassicalType.Int = 0 ∷ []
put_type ClassicalType.UInt = 1 ∷ []
put_type ClassicalType.Float = 2 ∷ []
put_type ClassicalType.Angle = 3 ∷ []
put_type ClassicalType.Bool = 4 ∷ []

unfoldable pub put_qualifier : ClassicalQualifier → List ℕ
put_qualifier ClassicalQualifier.Const = 0 ∷ []
put_qualifier ClassicalQualifier.Input = 1 ∷ []
put_qualifier ClassicalQualifier.Output = 2 ∷ []

unfoldable pub put_assign_op : AssignOp → List ℕ
put_assign_op AssignOp.Assign = 0 ∷ []
put_assign_op AssignOp.AddAssign = 1 ∷ []
put_assign_op AssignOp.SubAssign = 2 ∷ []

unfoldable pub put_bin_op : BinOp → List ℕ
put_bin_op BinOp.Add = 0 ∷ []
put_bin_op BinOp.Sub = 1 ∷ []
put_bin_op BinOp.Mul = 2 ∷ []
put_bin_op BinOp.Div = 3 ∷ []
put_bin_op BinOp.Pow = 4 ∷ []

unfoldable pub put_compare_op : CompareOp → List ℕ
put_compare_op CompareOp.Eq = 0 ∷ []
put_compare_op CompareOp.Ne = 1 ∷ []
put_compare_op CompareOp.Lt = 2 ∷ []
put_compare_op CompareOp.Le = 3 ∷ []
put_compare_op CompareOp.Gt = 4 ∷ []
put_compare_op CompareOp.Ge = 5 ∷ []

unfoldable pub put_const_kind : ConstKind → List ℕ
put_const_kind ConstKind.Pi = 0 ∷ []
put_const_kind ConstKind.Tau = 1 ∷ []
put_const_kind ConstKind.Euler = 2 ∷ []

-- "String: two-byte text number"
abbrev pub put_string : TextNumber → List ℕ
put_string n = big 2 n

unfoldable mutual
  pub put_expr : Expr → List ℕ
  put_expr (Expr.IntLit n sp) = 0 ∷ flatten (big 8 n ∷ put_span sp ∷ [])
  put_expr (Expr.FloatLit x sp) = 1 ∷ flatten (put_string x ∷ put_span sp ∷ [])
  put_expr (Expr.BoolLit b sp) = 2 ∷ flatten (put_bool b ∷ put_span sp ∷ [])
  put_expr (Expr.Ident x sp) = 3 ∷ flatten (put_string x ∷ put_span sp ∷ [])
  put_expr (Expr.Index x i sp) = 4 ∷ flatten (put_string x ∷ big 8 i ∷ put_span sp ∷ [])
  put_expr (Expr.Call x args sp) = 5 ∷ flatten (put_string x ∷ (expr_count args ∷ put_each args) ∷ put_span sp ∷ [])
  put_expr (Expr.Const k sp) = 6 ∷ flatten (put_const_kind k ∷ put_span sp ∷ [])
  put_expr (Expr.Neg e sp) = 7 ∷ flatten (put_expr e ∷ put_span sp ∷ [])
  put_expr (Expr.BinOp op lhs rhs sp) = 8 ∷ flatten (put_bin_op op ∷ put_expr lhs ∷ put_expr rhs ∷ put_span sp ∷ [])
  put_expr (Expr.Compare op lhs rhs sp) = 9 ∷ flatten (put_compare_op op ∷ put_expr lhs ∷ put_expr rhs ∷ put_span sp ∷ [])

  pub put_each : Exprs → List ℕ
  put_each no_expr = []
  put_each (more_expr e es) = put_expr e ++ put_each es

unfoldable pub put_exprs : Exprs → List ℕ
put_exprs es = expr_count es ∷ put_each es

unfoldable pub put_slice : ℕ × ℕ → List ℕ
put_slice ab = flatten (big 8 ab.0 ∷ big 8 ab.1 ∷ [])

unfoldable pub put_operand : GateOperand → List ℕ
put_operand q = flatten (put_string q.name ∷ put_option (big 8) q.index ∷ put_option put_slice q.slice ∷ put_span q.span ∷ [])

unfoldable pub put_modifier : GateModifier → List ℕ
put_modifier (GateModifier.Ctrl e sp) = 0 ∷ flatten (put_option put_expr e ∷ put_span sp ∷ [])
put_modifier (GateModifier.NegCtrl e sp) = 1 ∷ flatten (put_option put_expr e ∷ put_span sp ∷ [])
put_modifier (GateModifier.Inv sp) = 2 ∷ flatten (put_span sp ∷ [])
put_modifier (GateModifier.Pow e sp) = 3 ∷ flatten (put_expr e ∷ put_span sp ∷ [])

unfoldable pub put_range : ForRange → List ℕ
put_range r = flatten (put_expr r.start ∷ put_expr r.end ∷ put_option put_expr r.step ∷ [])

unfoldable pub put_param : ClassicalType × TextNumber → List ℕ
put_param p = flatten (put_type p.0 ∷ put_string p.1 ∷ [])

unfoldable pub stmt_count : Stmts → ℕ
stmt_count no_stmt = 0
stmt_count (more_stmt c cs) = suc (stmt_count cs)

-- statements behind their two-byte count
unfoldable pub put_counted : ℕ → List ℕ → List ℕ
put_counted n all = big 2 n ++ all

unfoldable mutual
  pub put_stmt : Stmt → List ℕ
  put_stmt (Stmt.Include at x sp) = 0 ∷ flatten (put_string x ∷ put_span sp ∷ [])
  put_stmt (Stmt.QubitDecl at x size sp) = 1 ∷ flatten (put_string x ∷ put_option (big 8) size ∷ put_span sp ∷ [])
  put_stmt (Stmt.BitDecl at x size sp) = 2 ∷ flatten (put_string x ∷ put_option (big 8) size ∷ put_span sp ∷ [])
  put_stmt (Stmt.ClassicalDecl at q ty x init sp) = 3 ∷ flatten (put_option put_qualifier q ∷ put_type ty ∷ put_string x ∷ put_option put_expr init ∷ put_span sp ∷ [])
  put_stmt (Stmt.Assignment at x op e sp) = 4 ∷ flatten (put_string x ∷ put_assign_op op ∷ put_expr e ∷ put_span sp ∷ [])
  put_stmt (Stmt.GateCall at x ms es qs sp) = 5 ∷ flatten (put_string x ∷ put_vec put_modifier ms ∷ put_exprs es ∷ put_vec put_operand qs ∷ put_span sp ∷ [])
  put_stmt (Stmt.GateDef at x ps qs b sp) = 6 ∷ flatten (put_string x ∷ put_vec put_string ps ∷ put_vec put_string qs ∷ put_counted (stmt_count b) (put_all b) ∷ put_span sp ∷ [])
  put_stmt (Stmt.FunctionDef at x ps ty e sp) = 7 ∷ flatten (put_string x ∷ put_vec put_param ps ∷ put_type ty ∷ put_expr e ∷ put_span sp ∷ [])
  put_stmt (Stmt.Measure at q target sp) = 8 ∷ flatten (put_operand q ∷ put_option put_operand target ∷ put_span sp ∷ [])
  put_stmt (Stmt.Reset at q sp) = 9 ∷ flatten (put_operand q ∷ put_span sp ∷ [])
  put_stmt (Stmt.Barrier at qs sp) = 10 ∷ flatten (put_vec put_operand qs ∷ put_span sp ∷ [])
  put_stmt (Stmt.Delay at e qs sp) = 11 ∷ flatten (put_expr e ∷ put_vec put_operand qs ∷ put_span sp ∷ [])
  put_stmt (Stmt.If at e b c sp) = 12 ∷ flatten (put_expr e ∷ put_counted (stmt_count b) (put_all b) ∷ put_else c ∷ put_span sp ∷ [])
  put_stmt (Stmt.For at x ty r b sp) = 13 ∷ flatten (put_string x ∷ put_type ty ∷ put_range r ∷ put_counted (stmt_count b) (put_all b) ∷ put_span sp ∷ [])
  put_stmt (Stmt.While at e b sp) = 14 ∷ flatten (put_expr e ∷ put_counted (stmt_count b) (put_all b) ∷ put_span sp ∷ [])

  pub put_all : Stmts → List ℕ
  put_all no_stmt = []
  put_all (more_stmt c cs) = put_stmt c ++ put_all cs

  pub put_else : Else → List ℕ
  put_else no_else = 0 ∷ []
  put_else (some_else b) = 1 ∷ put_counted (stmt_count b) (put_all b)

abbrev pub put_body : Stmts → List ℕ
put_body b = put_counted (stmt_count b) (put_all b)

-- a text behind its length
unfoldable pub put_text : Text → List ℕ
put_text x = length x ∷ x

unfoldable pub put_texts : List Text → List ℕ
put_texts ts = big 2 (length ts) ++ flatten (map put_text ts)

unfoldable pub encode : Program → List ℕ
encode p = put_texts p.texts ++ put_body p.statements
