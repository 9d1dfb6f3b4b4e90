-- Which programs have a file: the limits of the tree file, over the tree `encode` is given.
use Rattle.std.specs.Prelude.{ℕ, ◌<◌, ◌≤◌, ◌+◌, ◌-◌, ◌^◌, ◌≡◌, List, [], ◌∷◌, Bool, true, length, get_or}
use Rattle.std.proofs.Math.Option.{Option, none, some}
use Rattle.span.specs.declared.Span.{Span}
use Rattle.ast.specs.Tree.{Text, TextNumber, Expr, Exprs, no_expr, more_expr, GateOperand, GateModifier, ForRange, Stmt, Stmts, no_stmt, more_stmt, Else, no_else, some_else, Program, expr_count}
use Rattle.ast.specs.declared.ClassicalType.{ClassicalType}
use Rattle.tree.specs.Limits.{file_limit, texts_limit, text_limit, vec_limit, stmt_levels, expr_levels}
use Rattle.tree.specs.Texts.{between, every, is_name, is_float, is_path}
use Rattle.tree.specs.Encode.{put_string, put_type, put_vec, put_expr, put_range, put_stmt, stmt_count, put_body, put_texts, encode}

-- a number has so many bytes
abbrev pub NumberFits : ℕ → ℕ → Type 0
NumberFits width n = n < 256 ^ width

pub record SpanFits (sp : Span) : Type 0 where
  pub start_fits : NumberFits 4 sp.start
  pub end_fits : NumberFits 4 sp.end

unfoldable pub OptionFits : {A : Type 0} → (A → Type 0) → Option A → Type 0
OptionFits Fits none = Unit {0}
OptionFits Fits (some a) = Fits a

unfoldable pub Each : {A : Type 0} → (A → Type 0) → List A → Type 0
Each Fits [] = Unit {0}
Each Fits (x ∷ xs) = Fits x × Each Fits xs

pub record VecFits {A : Type 0} (Fits : A → Type 0) (xs : List A) : Type 0 where
  pub few : length xs ≤ vec_limit
  pub each : Each Fits xs

-- a slice's two numbers
pub record SliceFits (ab : ℕ × ℕ) : Type 0 where
  pub start_fits : NumberFits 8 ab.0
  pub end_fits : NumberFits 8 ab.1

-- the place behind these fields
abbrev pub behind : ℕ → List (List ℕ) → ℕ
behind at [] = at
behind at (bs ∷ fields) = behind (at + length bs) fields

module _ (t : List Text) where
  -- a text number below the number of texts, and its text spelled as asked
  pub record StringFits (spelled : Text → Bool) (n : TextNumber) : Type 0 where
    pub known : n < length t
    pub spelling : spelled (get_or t n []) ≡ true

  abbrev pub NameFits : TextNumber → Type 0
  NameFits n = StringFits is_name n

  -- an expression with so many levels left
  unfoldable mutual
    pub ExprFits : ℕ → Expr → Type 0
    ExprFits left (Expr.IntLit n sp) = (0 < left) × NumberFits 8 n × SpanFits sp
    ExprFits left (Expr.FloatLit x sp) = (0 < left) × StringFits is_float x × SpanFits sp
    ExprFits left (Expr.BoolLit b sp) = (0 < left) × SpanFits sp
    ExprFits left (Expr.Ident x sp) = (0 < left) × NameFits x × SpanFits sp
    ExprFits left (Expr.Index x i sp) = (0 < left) × NameFits x × NumberFits 8 i × SpanFits sp
    ExprFits left (Expr.Call x args sp) = (0 < left) × NameFits x × (expr_count args ≤ vec_limit) × EachFits (left - 1) args × SpanFits sp
    ExprFits left (Expr.Const k sp) = (0 < left) × SpanFits sp
    ExprFits left (Expr.Neg e sp) = (0 < left) × ExprFits (left - 1) e × SpanFits sp
    ExprFits left (Expr.BinOp op lhs rhs sp) = (0 < left) × ExprFits (left - 1) lhs × ExprFits (left - 1) rhs × SpanFits sp
    ExprFits left (Expr.Compare op lhs rhs sp) = (0 < left) × ExprFits (left - 1) lhs × ExprFits (left - 1) rhs × SpanFits sp

    pub EachFits : ℕ → Exprs → Type 0
    EachFits left no_expr = Unit {0}
    EachFits left (more_expr e es) = ExprFits left e × EachFits left es

  -- an expression held by a statement or modifier
  abbrev pub HeldFits : Expr → Type 0
  HeldFits e = ExprFits expr_levels e

  pub record OperandFits (q : GateOperand) : Type 0 where
    pub name-fits : NameFits q.name
    pub index-fits : OptionFits (NumberFits 8) q.index
    pub slice_fits : OptionFits SliceFits q.slice
    pub span_fits : SpanFits q.span

  unfoldable pub ModifierFits : GateModifier → Type 0
  ModifierFits (GateModifier.Ctrl e sp) = OptionFits HeldFits e × SpanFits sp
  ModifierFits (GateModifier.NegCtrl e sp) = OptionFits HeldFits e × SpanFits sp
  ModifierFits (GateModifier.Inv sp) = SpanFits sp
  ModifierFits (GateModifier.Pow e sp) = HeldFits e × SpanFits sp

  pub record RangeFits (r : ForRange) : Type 0 where
    pub start_fits : HeldFits r.start
    pub end_fits : HeldFits r.end
    pub step_fits : OptionFits HeldFits r.step

  abbrev pub ParamFits : ClassicalType × TextNumber → Type 0
  ParamFits p = NameFits p.1

  -- a statement has a level left, and says where it stands
  pub record Placed (left at place : ℕ) : Type 0 where
    pub level : 0 < left
    pub stands : place ≡ at

  -- a statement at a place, with so many levels left
  unfoldable mutual
    pub StmtFits : ℕ → ℕ → Stmt → Type 0
    StmtFits left at (Stmt.Include p x sp) = Placed left at p × StringFits is_path x × SpanFits sp
    StmtFits left at (Stmt.QubitDecl p x size sp) = Placed left at p × NameFits x × OptionFits (NumberFits 8) size × SpanFits sp
    StmtFits left at (Stmt.BitDecl p x size sp) = Placed left at p × NameFits x × OptionFits (NumberFits 8) size × SpanFits sp
    StmtFits left at (Stmt.ClassicalDecl p q ty x init sp) = Placed left at p × NameFits x × OptionFits HeldFits init × SpanFits sp
    StmtFits left at (Stmt.Assignment p x op e sp) = Placed left at p × NameFits x × HeldFits e × SpanFits sp
    StmtFits left at (Stmt.GateCall p x ms es qs sp) =
        Placed left at p × NameFits x × VecFits ModifierFits ms × (expr_count es ≤ vec_limit) × EachFits expr_levels es × VecFits OperandFits qs × SpanFits sp
    StmtFits left at (Stmt.GateDef p x ps qs b sp) =
        Placed left at p × NameFits x × VecFits NameFits ps × VecFits NameFits qs × NumberFits 2 (stmt_count b)
        × AllFit (left - 1) (behind (at + 1) (put_string x ∷ put_vec put_string ps ∷ put_vec put_string qs ∷ []) + 2) b × SpanFits sp
    StmtFits left at (Stmt.FunctionDef p x ps ty e sp) = Placed left at p × NameFits x × VecFits ParamFits ps × HeldFits e × SpanFits sp
    StmtFits left at (Stmt.Measure p q target sp) = Placed left at p × OperandFits q × OptionFits OperandFits target × SpanFits sp
    StmtFits left at (Stmt.Reset p q sp) = Placed left at p × OperandFits q × SpanFits sp
    StmtFits left at (Stmt.Barrier p qs sp) = Placed left at p × VecFits OperandFits qs × SpanFits sp
    StmtFits left at (Stmt.Delay p e qs sp) = Placed left at p × HeldFits e × VecFits OperandFits qs × SpanFits sp
    StmtFits left at (Stmt.If p e b c sp) =
        Placed left at p × HeldFits e × NumberFits 2 (stmt_count b) × AllFit (left - 1) (behind (at + 1) (put_expr e ∷ []) + 2) b
        × ElseFits (left - 1) (behind (at + 1) (put_expr e ∷ put_body b ∷ [])) c × SpanFits sp
    StmtFits left at (Stmt.For p x ty r b sp) =
        Placed left at p × NameFits x × RangeFits r × NumberFits 2 (stmt_count b)
        × AllFit (left - 1) (behind (at + 1) (put_string x ∷ put_type ty ∷ put_range r ∷ []) + 2) b × SpanFits sp
    StmtFits left at (Stmt.While p e b sp) =
        Placed left at p × HeldFits e × NumberFits 2 (stmt_count b) × AllFit (left - 1) (behind (at + 1) (put_expr e ∷ []) + 2) b × SpanFits sp

    -- statements one after the other, the first at the place
    pub AllFit : ℕ → ℕ → Stmts → Type 0
    AllFit left at no_stmt = Unit {0}
    AllFit left at (more_stmt c cs) = StmtFits left at c × AllFit left (at + length (put_stmt c)) cs

    -- an `else` whose Option byte is at the place
    pub ElseFits : ℕ → ℕ → Else → Type 0
    ElseFits left at no_else = Unit {0}
    ElseFits left at (some_else b) = NumberFits 2 (stmt_count b) × AllFit left (at + 1 + 2) b

-- a text: 1 to 64 bytes of 33 to 126
pub record TextFits (x : Text) : Type 0 where
  pub some_bytes : 1 ≤ length x
  pub few_bytes : length x ≤ text_limit
  pub plain : every (between 33 126) x ≡ true

pub record TextsFit (ts : List Text) : Type 0 where
  pub few : length ts ≤ texts_limit
  pub each : Each TextFits ts
  pub unequal : (i j : ℕ) → i < j → j < length ts → get_or ts i [] ≡ get_or ts j [] → ⊥

pub record Fits (p : Program) : Type 0 where
  pub texts_fit : TextsFit p.texts
  pub count_fits : NumberFits 2 (stmt_count p.statements)
  pub statements_fit : AllFit p.texts stmt_levels (length (put_texts p.texts) + 2) p.statements
  pub small : length (encode p) ≤ file_limit
