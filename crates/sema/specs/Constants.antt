-- Constant values and control counts, as `eval_const_int` and `modifier_control_count` of src/sema.rs.
use Rattle.std.specs.Prelude.{ℕ, zero, suc, ◌+◌, List, [], ◌∷◌, true, false, cond, ℤ, pos, negsuc, neg_ℤ, ◌+ℤ◌, ◌-ℤ◌, ◌*ℤ◌, ltb}
use Rattle.std.proofs.Math.Option.{Option, none, some}
use Rattle.std.proofs.Math.IntN.{pow}
use Rattle.int128.specs.Whole.{limit, quotient}
use Rattle.ast.specs.Tree.{Expr, GateModifier}
use Rattle.ast.specs.declared.BinOp.{BinOp}

-- the number, or 0
abbrev pub or0 : Option ℕ → ℕ
or0 none = 0
or0 (some n) = n

abbrev pub and_then : {A B : Type 0} → Option A → (A → Option B) → Option B
and_then none f = none
and_then (some a) f = f a

-- "every part within -2^127 to 2^127 - 1" (negsuc n is -(n + 1))
unfoldable pub within : ℤ → Option ℤ
within (pos n) = cond (ltb n limit) (some (pos n)) none
within (negsuc n) = cond (ltb n limit) (some (negsuc n)) none

-- "division towards zero"; zero divisors have none
unfoldable pub divide : ℤ → ℤ → Option ℤ
divide a (pos zero) = none
divide a (pos (suc n)) = within (quotient a (pos (suc n)))
divide a (negsuc n) = within (quotient a (negsuc n))

-- "power with exponent 0 to 2^32 - 1 (0**0 is 1)"
unfoldable pub power : ℤ → ℤ → Option ℤ
power a (pos n) = elim (ltb n 4294967296) [ true ↦ within (pow a n) | false ↦ none ]
power a (negsuc n) = none

unfoldable pub operate : BinOp → ℤ → ℤ → Option ℤ
operate BinOp.Add a b = within (a +ℤ b)
operate BinOp.Sub a b = within (a -ℤ b)
operate BinOp.Mul a b = within (a *ℤ b)
operate BinOp.Div a b = divide a b
operate BinOp.Pow a b = power a b

-- "Names, floats, bools, comparisons .. have none."
unfoldable pub eval_const_int : Expr → Option ℤ
eval_const_int (Expr.IntLit n sp) = some (pos n)
eval_const_int (Expr.FloatLit x sp) = none
eval_const_int (Expr.BoolLit b sp) = none
eval_const_int (Expr.Ident x sp) = none
eval_const_int (Expr.Index x i sp) = none
eval_const_int (Expr.Call x args sp) = none
eval_const_int (Expr.Const c sp) = none
eval_const_int (Expr.Neg e sp) = and_then (eval_const_int e) (λ z. within (neg_ℤ z))
eval_const_int (Expr.BinOp op l r sp) = and_then (eval_const_int l) (λ a. and_then (eval_const_int r) (λ b. operate op a b))
eval_const_int (Expr.Compare op l r sp) = none

-- a count: above 0, and at most 2^64 - 1
unfoldable pub as_count : ℤ → Option ℕ
as_count (pos zero) = none
as_count (pos (suc n)) = cond (ltb (suc n) 18446744073709551616) (some (suc n)) none
as_count (negsuc n) = none

-- "A control count is 1 when absent."
unfoldable pub count_of : Option Expr → Option ℕ
count_of none = some 1
count_of (some e) = and_then (eval_const_int e) as_count

unfoldable pub add_count : ℕ → Option ℕ → Option ℕ
add_count total none = none
add_count total (some n) = cond (ltb (total + n) 18446744073709551616) (some (total + n)) none

unfoldable pub add_controls : Option ℕ → List GateModifier → Option ℕ
add_controls total [] = total
add_controls total (GateModifier.Ctrl arg sp ∷ ms) = add_controls (and_then total (λ n. add_count n (count_of arg))) ms
add_controls total (GateModifier.NegCtrl arg sp ∷ ms) = add_controls (and_then total (λ n. add_count n (count_of arg))) ms
add_controls total (GateModifier.Inv sp ∷ ms) = add_controls total ms
add_controls total (GateModifier.Pow e sp ∷ ms) = add_controls total ms

unfoldable pub modifier_control_count : List GateModifier → Option ℕ
modifier_control_count ms = add_controls (some 0) ms

-- "If any count in the chain is below 1 or has no value, or the total exceeds 2^64 - 1, the total is 0 for arity."
unfoldable pub controls : List GateModifier → ℕ
controls ms = or0 (modifier_control_count ms)
