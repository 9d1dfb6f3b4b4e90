-- Short names to write trees with, for examples: text 0 is q, text 1 is h, text 2 is x. Statements have the place 0.
use Rattle.std.specs.Prelude.{ℕ, zero, suc, ◌+◌, ◌*◌, List, [], ◌∷◌, true}
use Rattle.std.proofs.Math.Option.{Option, none, some}
use Rattle.span.specs.declared.Span.{Span}
use Rattle.ast.specs.declared.BinOp.{BinOp}
use Rattle.ast.specs.Tree.{Expr, no_expr, GateOperand, GateModifier, Stmt, Stmts, no_stmt, more_stmt, no_else, some_else}

abbrev pub span : ℕ → ℕ → Span
span a b = record { start = a; end = b }

-- the span of statement k
abbrev pub nth : ℕ → Span
nth k = span (10 * k) (10 * k + 9)

abbrev pub block : List Stmt → Stmts
block [] = no_stmt
block (s ∷ ss) = more_stmt s (block ss)

abbrev pub whole : GateOperand
whole = record { name = 0; index = none; slice = none; span = span 0 0 }

abbrev pub index : ℕ → GateOperand
index i = record { name = 0; index = some i; slice = none; span = span 0 0 }

abbrev pub slice : ℕ → ℕ → GateOperand
slice a b = record { name = 0; index = none; slice = some (a, b); span = span 0 0 }

abbrev pub qubit : Option ℕ → ℕ → Stmt
qubit size k = Stmt.QubitDecl 0 0 size (nth k)

abbrev pub measure : GateOperand → ℕ → Stmt
measure op k = Stmt.Measure 0 op none (nth k)

abbrev pub reset : GateOperand → ℕ → Stmt
reset op k = Stmt.Reset 0 op (nth k)

abbrev pub h : GateOperand → ℕ → Stmt
h op k = Stmt.GateCall 0 1 [] no_expr (op ∷ []) (nth k)

abbrev pub yes : Expr
yes = Expr.BoolLit true (span 0 0)

abbrev pub if : List Stmt → ℕ → Stmt
if body k = Stmt.If 0 yes (block body) no_else (nth k)

abbrev pub if_else : List Stmt → List Stmt → ℕ → Stmt
if_else body other k = Stmt.If 0 yes (block body) (some_else (block other)) (nth k)

abbrev pub while : List Stmt → ℕ → Stmt
while body k = Stmt.While 0 yes (block body) (nth k)

-- so many `while`, each in the body of the one before
abbrev pub nested : ℕ → List Stmt
nested zero = []
nested (suc n) = while (nested n) 0 ∷ []

abbrev pub int : ℕ → Expr
int n = Expr.IntLit n (span 0 0)

abbrev pub minus : Expr → Expr
minus e = Expr.Neg e (span 0 0)

abbrev pub op : BinOp → Expr → Expr → Expr
op o l r = Expr.BinOp o l r (span 0 0)

-- `ctrl(count) @ x` on some operands; the modifier has a span of its own
abbrev pub controlled : Expr → List GateOperand → ℕ → Stmt
controlled count args k = Stmt.GateCall 0 2 (GateModifier.Ctrl (some count) (span 1 2) ∷ []) no_expr args (nth k)
