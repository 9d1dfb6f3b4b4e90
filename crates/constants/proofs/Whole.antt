-- The checked methods of whole numbers against the operations of constant values. Assumes nothing.
use Prim.Native.Nat.{ℕ, zero, suc, ◌/◌, ◌%◌}
use mathlib.Core.Path.{◌≡◌, refl, ap}
use mathlib.Core.Option.{none, some}
use mathlib.Core.Bool.{Bool, true, false, cond}
use native.Mathlib.Omega.{arith}
use lib.IntN.{ℤ, pos, negsuc, neg_ℤ, pow}
use lib.Dec.{ltb}
use Rattle.std.specs.Prelude.{Some, None}
use Rattle.int128.specs.Whole.{both, int128, limit, checked, quotient, divided, powered}
use Rattle.sema.specs.Constants.{within, divide, power}
use Rattle.constants.specs.Views.{whole_of}

-- a number is that of its two words
split : (n : ℕ) → both (n / 18446744073709551616) (n % 18446744073709551616) ≡ n
split n = omega arith

pub whole_word : (n : ℕ) → whole_of (Some (int128 false n)) ≡ some (pos n)
unfolding whole_of
whole_word n = ap (λ m. some (pos m)) (split n)

pub whole_checked : (z : ℤ) → whole_of (checked z) ≡ within z
unfolding whole_of checked within
whole_checked (pos n) = go (ltb n limit)
  where
    go : (b : Bool) → whole_of (cond b (Some (int128 false n)) None) ≡ cond b (some (pos n)) none
    go true = ap (λ m. some (pos m)) (split n)
    go false = refl
whole_checked (negsuc n) = go (ltb n limit)
  where
    go : (b : Bool) → whole_of (cond b (Some (int128 true (suc n))) None) ≡ cond b (some (negsuc n)) none
    go true = ap (λ m. some (neg_ℤ (pos m))) (split (suc n))
    go false = refl

pub whole_divided : (a b : ℤ) → whole_of (divided a b) ≡ divide a b
unfolding whole_of divided divide
whole_divided a (pos zero) = refl
whole_divided a (pos (suc n)) = whole_checked (quotient a (pos (suc n)))
whole_divided a (negsuc n) = whole_checked (quotient a (negsuc n))

pub whole_powered : (a b : ℤ) → whole_of (powered a b) ≡ power a b
unfolding whole_of powered power
whole_powered a (pos n) = go (ltb n 4294967296)
  where
    go : (b : Bool) → whole_of (cond b (checked (pow a n)) None) ≡ elim b [ true ↦ within (pow a n) | false ↦ none ]
    go true = whole_checked (pow a n)
    go false = refl
whole_powered a (negsuc n) = refl
