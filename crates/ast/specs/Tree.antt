-- The syntax tree of src/ast.rs: its cases, fields and names in its order, without `Spanned` and `version`.
-- A name, a path or a float's spelling is the number of a text in the program's list of texts. A statement has its place first: where
-- its case byte stands in the file.
use Rattle.std.specs.Prelude.{ℕ, suc, List, Bool}
use Rattle.std.proofs.Math.Option.{Option}
use Rattle.span.specs.declared.Span.{Span}
use Rattle.ast.specs.declared.ClassicalType.{ClassicalType}
use Rattle.ast.specs.declared.ClassicalQualifier.{ClassicalQualifier}
use Rattle.ast.specs.declared.AssignOp.{AssignOp}
use Rattle.ast.specs.declared.BinOp.{BinOp as BinOperator}
use Rattle.ast.specs.declared.CompareOp.{CompareOp}
use Rattle.ast.specs.declared.ConstKind.{ConstKind}

-- A text is its bytes; a tree names it by its number.
abbrev pub Text : Type 0
Text = List ℕ

abbrev pub TextNumber : Type 0
TextNumber = ℕ

mutual
  pub data Expr : Type 0 where
    IntLit : ℕ → Span → Expr
    FloatLit : TextNumber → Span → Expr
    BoolLit : Bool → Span → Expr
    Ident : TextNumber → Span → Expr
    Index : (name : TextNumber) (index : ℕ) (span : Span) → Expr
    Call : (name : TextNumber) (args : Exprs) (span : Span) → Expr
    Const : ConstKind → Span → Expr
    Neg : Expr → Span → Expr
    BinOp : (op : BinOperator) (lhs rhs : Expr) (span : Span) → Expr
    Compare : (op : CompareOp) (lhs rhs : Expr) (span : Span) → Expr

  pub data Exprs : Type 0 where
    no_expr : Exprs
    more_expr : Expr → Exprs → Exprs

-- how many there are
unfoldable pub expr_count : Exprs → ℕ
expr_count no_expr = 0
expr_count (more_expr e es) = suc (expr_count es)

pub record GateOperand : Type 0 where
  pub name : TextNumber
  pub index : Option ℕ
  pub slice : Option (ℕ × ℕ)
  pub span : Span

pub data GateModifier : Type 0 where
  Ctrl : Option Expr → Span → GateModifier
  NegCtrl : Option Expr → Span → GateModifier
  Inv : Span → GateModifier
  Pow : Expr → Span → GateModifier

pub record ForRange : Type 0 where
  pub start : Expr
  pub end : Expr
  pub step : Option Expr

mutual
  pub data Stmt : Type 0 where
    Include : (place : ℕ) (path : TextNumber) (span : Span) → Stmt
    QubitDecl : (place : ℕ) (name : TextNumber) (size : Option ℕ) (span : Span) → Stmt
    BitDecl : (place : ℕ) (name : TextNumber) (size : Option ℕ) (span : Span) → Stmt
    ClassicalDecl : (place : ℕ) (qualifier : Option ClassicalQualifier) (ty : ClassicalType) (name : TextNumber) (init : Option Expr) (span : Span) → Stmt
    Assignment : (place : ℕ) (name : TextNumber) (op : AssignOp) (value : Expr) (span : Span) → Stmt
    GateCall : (place : ℕ) (name : TextNumber) (modifiers : List GateModifier) (params : Exprs) (args : List GateOperand) (span : Span) → Stmt
    GateDef : (place : ℕ) (name : TextNumber) (params qparams : List TextNumber) (body : Stmts) (span : Span) → Stmt
    FunctionDef : (place : ℕ) (name : TextNumber) (params : List (ClassicalType × TextNumber)) (return_type : ClassicalType) (body : Expr) (span : Span) → Stmt
    Measure : (place : ℕ) (qubit : GateOperand) (target : Option GateOperand) (span : Span) → Stmt
    Reset : (place : ℕ) (target : GateOperand) (span : Span) → Stmt
    Barrier : (place : ℕ) (targets : List GateOperand) (span : Span) → Stmt
    Delay : (place : ℕ) (duration : Expr) (targets : List GateOperand) (span : Span) → Stmt
    If : (place : ℕ) (condition : Expr) (then_body : Stmts) (else_body : Else) (span : Span) → Stmt
    For : (place : ℕ) (var-name : TextNumber) (var-ty : ClassicalType) (range : ForRange) (body : Stmts) (span : Span) → Stmt
    While : (place : ℕ) (condition : Expr) (body : Stmts) (span : Span) → Stmt

  pub data Stmts : Type 0 where
    no_stmt : Stmts
    more_stmt : Stmt → Stmts → Stmts

  -- the body of an `else`, where there is one
  pub data Else : Type 0 where
    no_else : Else
    some_else : Stmts → Else

pub record Program : Type 0 where
  pub texts : List Text
  pub statements : Stmts
