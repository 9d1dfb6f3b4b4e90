-- The last arm of a match: what is left where the byte is none of the cases before. Assumes nothing.
use Prim.Native.Nat.{ℕ, zero, suc, ◌+◌, ◌≤◌, ◌<◌}
use mathlib.Core.Path.{◌≡◌}
use native.Mathlib.Omega.{arith}

-- b is none of the n numbers from m on, as a match over them says it
abbrev pub UnlikeFrom : ℕ → ℕ → ℕ → Type 0
UnlikeFrom m zero b = Unit {0}
UnlikeFrom m (suc n) b = UnlikeFrom m n b × (b ≡ m + n → ⊥)

pub unlike-from : (m n b : ℕ) → UnlikeFrom m n b → m ≤ b → m + n ≤ b
unlike-from m zero b u h = omega arith
unlike-from m (suc n) b u h = let l = unlike-from m n b u.0 h in let d = u.1 in omega arith

pub last-from : (m n b : ℕ) → UnlikeFrom m n b → m ≤ b → b < suc (m + n) → b ≡ m + n
last-from m n b u h l = let k = unlike-from m n b u h in omega arith

-- .. of the numbers below n
abbrev pub Unlike : ℕ → ℕ → Type 0
Unlike n b = UnlikeFrom 0 n b

pub unlike : (n b : ℕ) → Unlike n b → n ≤ b
unlike n b u = let l = unlike-from 0 n b u (omega arith) in omega arith

pub last-case : (n b : ℕ) → Unlike n b → b < suc n → b ≡ n
last-case n b u l = let k = unlike n b u in omega arith
