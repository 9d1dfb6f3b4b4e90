-- What the answers of constant evaluation stand for, and what the functions promise of them.
use Rattle.std.specs.Prelude.{ℕ, ◌≡◌, List, [], ◌∷◌, Bool, false, ℤ}
use Rattle.std.specs.Prelude.{Some, None}
use Rattle.std.specs.Prelude as rust
use Rattle.std.proofs.Math.Option.{Option, none, some}
use Rattle.int128.specs.declared.Int128.{Int128}
use Rattle.int128.specs.Whole.{value_of, positive}
use Rattle.ast.specs.Tree.{Expr, GateModifier}
use Rattle.ast.specs.declared.BinOp.{BinOp}
use Rattle.tree.specs.Ans.{Ans, next_of, given}
use Rattle.sema.specs.Constants.{and_then, operate, eval_const_int, count_of, add_count, add_controls, modifier_control_count}
use Rattle.context.specs.declared.Past.{Past}

-- the integer that is there, or none
unfoldable pub whole_of : rust.Option Int128 → Option ℤ
whole_of (Some i) = some (value_of i)
whole_of None = none

unfoldable pub total_of : rust.Option ℕ → Option ℕ
total_of (Some n) = some n
total_of None = none

-- an operation, where both operands have values
unfoldable pub combined : BinOp → Option ℤ → Option ℤ → Option ℤ
combined op l r = and_then l (λ a. and_then r (λ b. operate op a b))

-- a count added to a total
unfoldable pub added : Option ℕ → Option ℕ → Option ℕ
added total count = and_then total (λ n. add_count n count)

-- a value that is there and above 0, as a control count has to be
unfoldable pub is_count : Option ℤ → Bool
is_count o = elim o [ none ↦ false | some z ↦ positive z ]

-- the constant value of an expression that was read, and the place past it
pub record ValueOf (x : Ans Expr) (r : Past (rust.Option Int128)) : Type 0 where
  pub next : r.next ≡ next_of x
  pub value : whole_of r.value ≡ given none eval_const_int x

-- the count of a control that was read, added to a total, and the place past it
pub record Counted (before : rust.Option ℕ) (x : Ans (Option Expr)) (r : Past (rust.Option ℕ)) : Type 0 where
  pub next : r.next ≡ next_of x
  pub total : total_of r.value ≡ given none (λ arg. added (total_of before) (count_of arg)) x

-- one modifier that was read, added to a total
pub record Added (before : rust.Option ℕ) (x : Ans GateModifier) (r : Past (rust.Option ℕ)) : Type 0 where
  pub next : r.next ≡ next_of x
  pub total : total_of r.value ≡ given none (λ m. add_controls (total_of before) (m ∷ [])) x

-- the control total of modifiers that were read
pub record TotalOf (x : Ans (List GateModifier)) (r : Past (rust.Option ℕ)) : Type 0 where
  pub next : r.next ≡ next_of x
  pub total : total_of r.value ≡ given none modifier_control_count x
