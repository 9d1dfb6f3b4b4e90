-- The cases that hold nothing by their bytes, which of several cases a byte is, and the values that stand in where an answer has none.
-- Assumes nothing.
use Rattle.std.specs.Prelude.{ℕ, ◌+◌, ◌≤◌, ◌<◌, ◌≡◌, refl, [], ◌∷◌, ◌⊎◌, Bool, true, false, get_or, eqb}
use Rattle.std.proofs.Common.{inl, inr, ⊎_elim, arith, eqb-true}
use Rattle.std.proofs.Math.Option.{none}
use Rattle.std.proofs.lemmas.Bool.{eqb-false}
use Rattle.span.specs.declared.Span.{Span}
use Rattle.ast.specs.Tree.{Expr, GateOperand, GateModifier, ForRange, Stmt}
use Rattle.ast.specs.declared.ConstKind.{ConstKind}
use Rattle.ast.specs.declared.BinOp.{BinOp}
use Rattle.ast.specs.declared.CompareOp.{CompareOp}
use Rattle.ast.specs.declared.ClassicalQualifier.{ClassicalQualifier}
use Rattle.ast.specs.declared.AssignOp.{AssignOp}

abbrev pub bool_of : ℕ → Bool
bool_of n = get_or (false ∷ true ∷ []) n false

abbrev pub const_kind_of : ℕ → ConstKind
const_kind_of n = get_or (ConstKind.Pi ∷ ConstKind.Tau ∷ ConstKind.Euler ∷ []) n ConstKind.Pi

abbrev pub bin_op_of : ℕ → BinOp
bin_op_of n = get_or (BinOp.Add ∷ BinOp.Sub ∷ BinOp.Mul ∷ BinOp.Div ∷ BinOp.Pow ∷ []) n BinOp.Add

abbrev pub compare_op_of : ℕ → CompareOp
compare_op_of n = get_or (CompareOp.Eq ∷ CompareOp.Ne ∷ CompareOp.Lt ∷ CompareOp.Le ∷ CompareOp.Gt ∷ CompareOp.Ge ∷ []) n CompareOp.Eq

abbrev pub qualifier_of : ℕ → ClassicalQualifier
qualifier_of n = get_or (ClassicalQualifier.Const ∷ ClassicalQualifier.Input ∷ ClassicalQualifier.Output ∷ []) n ClassicalQualifier.Const

abbrev pub assign_op_of : ℕ → AssignOp
assign_op_of n = get_or (AssignOp.Assign ∷ AssignOp.AddAssign ∷ AssignOp.SubAssign ∷ []) n AssignOp.Assign

pub is_or_not : (b c : ℕ) → (b ≡ c) ⊎ (b ≡ c → ⊥)
is_or_not b c = go (eqb b c) refl
  where
    go : (v : Bool) → eqb b c ≡ v → (b ≡ c) ⊎ (b ≡ c → ⊥)
    go true e = inl (eqb-true b c e)
    go false e = inr (eqb-false b c e)

pub one_of_two : (b c : ℕ) → c ≤ b → b < c + 2 → (b ≡ c) ⊎ (b ≡ c + 1)
one_of_two b c l u = ⊎_elim inl (λ n. inr (omega arith)) (is_or_not b c)

-- No law asks what these are.
pub blank_span : Span
blank_span = record { start = 0; end = 0 }

pub blank : Expr
blank = Expr.BoolLit false blank_span

pub blank_operand : GateOperand
blank_operand = record { name = 0; index = none; slice = none; span = blank_span }

pub blank_modifier : GateModifier
blank_modifier = GateModifier.Inv blank_span

pub blank_range : ForRange
blank_range = record { start = blank; end = blank; step = none }

pub blank_stmt : Stmt
blank_stmt = Stmt.Include 0 0 blank_span
