-- The length of the first line. Assumes nothing.
use Prim.Native.Nat.{ℕ, zero, suc, ◌+◌, ◌≤◌, ◌/◌, ◌%◌}
use mathlib.Core.Path.{◌≡◌}
use mathlib.Core.List.{[], ◌∷◌, ◌++◌}
use native.Mathlib.Omega.{arith}
use lib.ListN.{length, length-append}
use Rattle.text.specs.Decimal.{front, decimal}
use Rattle.listing.specs.Listing.{ended, spaced}
use Rattle.verdict.specs.Verdict.{head_of}

-- a count below 257 has few digits
front-short : (bound n : ℕ) → length (front bound n) ≤ n
unfolding front
front-short zero n = omega arith
front-short (suc bound) zero = omega arith
front-short (suc bound) (suc n) = omega (arith, front-short bound (suc n / 10), length-append (front bound (suc n / 10)) ((48 + suc n % 10) ∷ []))

decimal-short : (n : ℕ) → length (decimal n) ≤ suc n
unfolding decimal
decimal-short n = omega (arith, front-short (n / 10) (n / 10), length-append (front (n / 10) (n / 10)) ((48 + n % 10) ∷ []))

pub head-short : (e w : ℕ) → e ≤ 256 → w ≤ 256 → length (head_of e w) ≤ 1024
unfolding ended spaced
head-short e w a b =
    omega (arith, length-append (decimal e ++ (32 ∷ decimal w)) (10 ∷ []), length-append (decimal e) (32 ∷ decimal w), decimal-short e, decimal-short w)

pub head-within : (e w n : ℕ) → n ≡ 0 + length (head_of e w) → e + w ≤ 256 → n ≤ 1024
head-within e w n h b = omega (arith, h, head-short e w (omega arith) (omega arith))
