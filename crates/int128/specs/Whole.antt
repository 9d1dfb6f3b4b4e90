-- Whole numbers of 128 bits, from -2^127 to 2^127 - 1, against exact integers.
use Rattle.std.specs.Prelude.{ℕ, zero, suc, ◌+◌, ◌*◌, ◌/◌, ◌%◌, ◌^◌, Bool, true, false, cond, Option, Some, None, ℤ, pos, negsuc, neg_ℤ, ltb}
use Rattle.std.proofs.Math.IntN.{pow}
use Rattle.int128.specs.declared.Int128.{Int128}
use Rattle.int128.specs.declared.Words.{Words}

-- two words of 64 bits as one number
abbrev pub both : ℕ → ℕ → ℕ
both hi lo = hi * 18446744073709551616 + lo

abbrev pub magnitude : Words → ℕ
magnitude w = both w.hi w.lo

abbrev pub words_of : ℕ → Words
words_of n = record { hi = n / 18446744073709551616; lo = n % 18446744073709551616 }

-- n where it has two words (n is below 2^128), else none
unfoldable pub magnitude_of : ℕ → Option Words
magnitude_of n = cond (ltb (n / 18446744073709551616) 18446744073709551616) (Some (words_of n)) None

-- a magnitude with a sign, and the integer that a struct stands for
abbrev pub signed : Bool → ℕ → ℤ
signed false n = pos n
signed true n = neg_ℤ (pos n)

abbrev pub value_of : Int128 → ℤ
value_of i = signed i.neg (magnitude i.words)

-- the struct that a method gives for a sign and a magnitude
abbrev pub int128 : Bool → ℕ → Int128
int128 s n = record { neg = s; words = words_of n }

-- one more than the largest
unfoldable pub limit : ℕ
limit = 2 ^ 127

-- the integer z where it lies within -2^127 to 2^127 - 1, else none (negsuc n is -(n + 1))
unfoldable pub checked : ℤ → Option Int128
checked (pos n) = cond (ltb n limit) (Some (int128 false n)) None
checked (negsuc n) = cond (ltb n limit) (Some (int128 true (suc n))) None

-- the quotient towards zero: that of the magnitudes, below zero where the signs differ
unfoldable pub quotient : ℤ → ℤ → ℤ
quotient (pos m) (pos n) = pos (m / n)
quotient (pos m) (negsuc n) = neg_ℤ (pos (m / suc n))
quotient (negsuc m) (pos n) = neg_ℤ (pos (suc m / n))
quotient (negsuc m) (negsuc n) = pos (suc m / suc n)

-- division; by zero none
unfoldable pub divided : ℤ → ℤ → Option Int128
divided a (pos zero) = None
divided a (pos (suc n)) = checked (quotient a (pos (suc n)))
divided a (negsuc n) = checked (quotient a (negsuc n))

-- a power with exponent 0 to 2^32 - 1, where 0**0 is 1; any other exponent has none
unfoldable pub powered : ℤ → ℤ → Option Int128
powered a (pos n) = cond (ltb n 4294967296) (checked (pow a n)) None
powered a (negsuc n) = None

unfoldable pub positive : ℤ → Bool
positive (pos n) = ltb 0 n
positive (negsuc n) = false

-- an integer from 0 to 2^64 - 1 as a word
unfoldable pub word_of : ℤ → Option ℕ
word_of (pos n) = cond (ltb n 18446744073709551616) (Some n) None
word_of (negsuc n) = None
