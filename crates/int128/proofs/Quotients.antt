-- Laws of division: by a divisor from that by its double, and by the signs. Assumes nothing.
use Prim.Native.Nat.{ℕ, zero, suc, ◌<◌, ◌≤◌, ◌+◌, ◌-◌, ◌*◌, ◌/◌, ◌%◌}
use mathlib.Core.Path.{◌≡◌, refl, sym, ap, ◌∙◌}
use mathlib.Core.Bool.{Bool, true, false, not, beq}
use native.Mathlib.Omega.{arith}
use native.Mathlib.Nat.{mul_assoc, mul_comm, div-eq_of_lt, mod-eq_of_lt, div-eq_of_lt-le, mod-eq-sub-mod, mul-add-div_right, mul-add-mod_self_right, div-add-mod'}
use lib.IntN.{ℤ}
use Rattle.std.specs.Prelude.{None}
use Rattle.int128.specs.Whole.{signed, checked, quotient, divided}
use Rattle.int128.proofs.Signs.{neg-zero}

-- a number from once to twice the divisor
pub once-div : (m n : ℕ) → n ≤ m → m < 2 * n → m / n ≡ 1
once-div m n h g = div-eq_of_lt-le n (omega arith) (omega arith)

pub once-mod : (m n : ℕ) → n ≤ m → m < 2 * n → m % n ≡ m - n
once-mod m n h g = mod-eq-sub-mod h ∙ mod-eq_of_lt (omega arith)

-- the step from twice b to b
module _ (a b : ℕ) where
  split : a ≡ a / (2 * b) * 2 * b + a % (2 * b)
  split = sym (rw (mul_assoc (a / (2 * b)) 2 b) (div-add-mod' a (2 * b)))

  pub div-twice : 0 < b → a / b ≡ 2 * (a / (2 * b)) + a % (2 * b) / b
  div-twice h =
      ap (λ (x : ℕ). x / b) split
      ∙ (mul-add-div_right h (a / (2 * b) * 2) (a % (2 * b))
      ∙ ap (λ (x : ℕ). x + a % (2 * b) / b) (mul_comm (a / (2 * b)) 2))

  pub mod-twice : a % b ≡ a % (2 * b) % b
  mod-twice = ap (λ (x : ℕ). x % b) split ∙ mul-add-mod_self_right (a / (2 * b) * 2) b (a % (2 * b))

-- division by the signs
pub signed_quotient : (s t : Bool) (m n : ℕ) → 0 < n → divided (signed s m) (signed t n) ≡ checked (signed (not (beq s t)) (m / n))
unfolding divided quotient
signed_quotient s t m zero h = absurd (omega arith)
signed_quotient false false m (suc n) h = refl
signed_quotient false true m (suc n) h = refl
signed_quotient true false zero (suc n) h = ap checked (neg-zero (0 / suc n) (div-eq_of_lt h))
signed_quotient true false (suc m) (suc n) h = refl
signed_quotient true true zero (suc n) h = ap checked (sym (neg-zero (0 / suc n) (div-eq_of_lt h)))
signed_quotient true true (suc m) (suc n) h = refl

pub by_zero : (a : ℤ) (t : Bool) (n : ℕ) → n ≡ 0 → None ≡ divided a (signed t n)
unfolding divided
by_zero a false n e = rw e
by_zero a true n e = rw e

pub ruleset quotients = (by_zero, signed_quotient)

pub ruleset twice = (div-twice, mod-twice)
