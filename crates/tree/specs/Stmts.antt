-- Operands, modifiers and statements from bytes, over the file's texts `t`. A case's reader starts behind the case byte, whose place is
-- `at`, and takes the fields in the order of src/ast.rs; `inner` reads a statement one level below.
use Rattle.std.specs.Prelude.{ℕ, zero, suc, List, [], ◌∷◌, get_or}
use Rattle.std.proofs.Math.Option.{Option, none, some}
use Rattle.ast.specs.Tree.{Text, TextNumber, Expr, GateOperand, GateModifier, ForRange, Stmt, Stmts, no_stmt, more_stmt, Else, no_else, some_else}
use Rattle.ast.specs.declared.ClassicalType.{ClassicalType}
use Rattle.ast.specs.declared.ClassicalQualifier.{ClassicalQualifier}
use Rattle.ast.specs.declared.AssignOp.{AssignOp}
use Rattle.tree.specs.Limits.{expr_levels}
use Rattle.tree.specs.Ans.{Reader, ◌>>=◌, done, here, refuse}
use Rattle.tree.specs.Read.{u16, u64, span, one_of, case_byte, option, vec, repeat}
use Rattle.tree.specs.Texts.{is_path}
use Rattle.tree.specs.Exprs.{text_number, name, expr, exprs}

unfoldable pub classical_type : Reader ClassicalType
classical_type = one_of ClassicalType.Int (ClassicalType.UInt ∷ ClassicalType.Float ∷ ClassicalType.Angle ∷ ClassicalType.Bool ∷ [])

unfoldable pub qualifier : Reader ClassicalQualifier
qualifier = one_of ClassicalQualifier.Const (ClassicalQualifier.Input ∷ ClassicalQualifier.Output ∷ [])

unfoldable pub assign_op : Reader AssignOp
assign_op = one_of AssignOp.Assign (AssignOp.AddAssign ∷ AssignOp.SubAssign ∷ [])

-- the two numbers of a slice
unfoldable pub slice : Reader (ℕ × ℕ)
slice = do
  a ← u64
  b ← u64
  done (a, b)

-- "a Vec of statements a two-byte count"
unfoldable pub body : Reader Stmt → Reader Stmts
body inner = do
  n ← u16
  repeat no_stmt more_stmt inner n

unfoldable pub to_else : Option Stmts → Else
to_else none = no_else
to_else (some b) = some_else b

unfoldable pub else_body : Reader Stmt → Reader Else
else_body inner = do
  b ← option (body inner)
  done (to_else b)

module _ (t : List Text) where
  unfoldable pub operand : Reader GateOperand
  operand = do
    x ← name t
    i ← option u64
    sl ← option slice
    sp ← span
    done (record { name = x; index = i; slice = sl; span = sp })

  -- "An expression held by a statement or modifier is level 1"
  abbrev pub held : Reader Expr
  held = expr t expr_levels

  unfoldable pub ctrl : Reader GateModifier
  ctrl = do
    e ← option held
    sp ← span
    done (GateModifier.Ctrl e sp)

  unfoldable pub neg_ctrl : Reader GateModifier
  neg_ctrl = do
    e ← option held
    sp ← span
    done (GateModifier.NegCtrl e sp)

  unfoldable pub inv : Reader GateModifier
  inv = do
    sp ← span
    done (GateModifier.Inv sp)

  unfoldable pub pow : Reader GateModifier
  pow = do
    e ← held
    sp ← span
    done (GateModifier.Pow e sp)

  unfoldable pub modifier : Reader GateModifier
  modifier = do
    at ← here
    b ← case_byte 4
    get_or (ctrl ∷ neg_ctrl ∷ inv ∷ pow ∷ []) b (refuse 4 at)

  unfoldable pub for_range : Reader ForRange
  for_range = do
    a ← held
    b ← held
    c ← option held
    done (record { start = a; end = b; step = c })

  -- a parameter of a function: its type and its name
  unfoldable pub param : Reader (ClassicalType × TextNumber)
  param = do
    ty ← classical_type
    x ← name t
    done (ty, x)

  unfoldable pub include : ℕ → Reader Stmt
  include at = do
    x ← text_number t is_path
    sp ← span
    done (Stmt.Include at x sp)

  unfoldable pub qubit_decl : ℕ → Reader Stmt
  qubit_decl at = do
    x ← name t
    size ← option u64
    sp ← span
    done (Stmt.QubitDecl at x size sp)

  unfoldable pub bit_decl : ℕ → Reader Stmt
  bit_decl at = do
    x ← name t
    size ← option u64
    sp ← span
    done (Stmt.BitDecl at x size sp)

  unfoldable pub classical_decl : ℕ → Reader Stmt
  classical_decl at = do
    q ← option qualifier
    ty ← classical_type
    x ← name t
    init ← option held
    sp ← span
    done (Stmt.ClassicalDecl at q ty x init sp)

  unfoldable pub assignment : ℕ → Reader Stmt
  assignment at = do
    x ← name t
    op ← assign_op
    e ← held
    sp ← span
    done (Stmt.Assignment at x op e sp)

  unfoldable pub gate_call : ℕ → Reader Stmt
  gate_call at = do
    x ← name t
    modifiers ← vec modifier
    params ← exprs held
    args ← vec operand
    sp ← span
    done (Stmt.GateCall at x modifiers params args sp)

  unfoldable pub gate_def : Reader Stmt → ℕ → Reader Stmt
  gate_def inner at = do
    x ← name t
    params ← vec (name t)
    qparams ← vec (name t)
    b ← body inner
    sp ← span
    done (Stmt.GateDef at x params qparams b sp)

  unfoldable pub function_def : ℕ → Reader Stmt
  function_def at = do
    x ← name t
    params ← vec param
    ty ← classical_type
    e ← held
    sp ← span
    done (Stmt.FunctionDef at x params ty e sp)

  unfoldable pub measure : ℕ → Reader Stmt
  measure at = do
    q ← operand
    target ← option operand
    sp ← span
    done (Stmt.Measure at q target sp)

  unfoldable pub reset : ℕ → Reader Stmt
  reset at = do
    q ← operand
    sp ← span
    done (Stmt.Reset at q sp)

  unfoldable pub barrier : ℕ → Reader Stmt
  barrier at = do
    qs ← vec operand
    sp ← span
    done (Stmt.Barrier at qs sp)

  unfoldable pub delay : ℕ → Reader Stmt
  delay at = do
    e ← held
    qs ← vec operand
    sp ← span
    done (Stmt.Delay at e qs sp)

  unfoldable pub branch : Reader Stmt → ℕ → Reader Stmt
  branch inner at = do
    e ← held
    b ← body inner
    c ← else_body inner
    sp ← span
    done (Stmt.If at e b c sp)

  unfoldable pub for_loop : Reader Stmt → ℕ → Reader Stmt
  for_loop inner at = do
    x ← name t
    ty ← classical_type
    r ← for_range
    b ← body inner
    sp ← span
    done (Stmt.For at x ty r b sp)

  unfoldable pub while_loop : Reader Stmt → ℕ → Reader Stmt
  while_loop inner at = do
    e ← held
    b ← body inner
    sp ← span
    done (Stmt.While at e b sp)

  -- the cases of `Stmt`, counted from 0
  unfoldable pub stmt_cases : Reader Stmt → ℕ → List (Reader Stmt)
  stmt_cases inner at =
      include at
      ∷ qubit_decl at
      ∷ bit_decl at
      ∷ classical_decl at
      ∷ assignment at
      ∷ gate_call at
      ∷ gate_def inner at
      ∷ function_def at
      ∷ measure at
      ∷ reset at
      ∷ barrier at
      ∷ delay at
      ∷ branch inner at
      ∷ for_loop inner at
      ∷ while_loop inner at
      ∷ []

  -- a statement with so many levels left: a byte that is no case is refused before its level is
  unfoldable pub stmt : ℕ → Reader Stmt
  stmt zero = do
    at ← here
    b ← case_byte 15
    refuse 6 at
  stmt (suc left) = do
    at ← here
    b ← case_byte 15
    get_or (stmt_cases (stmt left) at) b (refuse 4 at)
