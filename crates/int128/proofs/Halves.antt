-- Laws of magnitudes by their two words. Assumes nothing.
use Prim.Native.Nat.{ℕ, zero, suc, ◌<◌, ◌≤◌, ◌+◌, ◌*◌, ◌/◌, ◌%◌}
use mathlib.Core.Path.{◌≡◌, refl}
use mathlib.Core.Bool.{Bool, true, false, cond}
use native.Mathlib.Omega.{arith}
use native.Mathlib.Nat.{le_trans, le-div_iff_mul-le, add-mul, mul-le-mul, mul_right_comm}
use lib.Dec.{ltb, eqb}
use borrow.Author.Tests.{lt-ltb, le-ltb, ltb-false, ne_eqb}
use Rattle.std.specs.Prelude.{Some, None}
use Rattle.std.specs.Bool.{then_some}
use Rattle.int128.specs.declared.Words.{Words}
use Rattle.int128.specs.Whole.{both, magnitude, words_of, magnitude_of}

-- a number of two words, and one of more
pub fits : (n hi lo : ℕ) → hi < 18446744073709551616 → lo < 18446744073709551616 → both hi lo ≡ n → Some (record { hi = hi; lo = lo }) ≡ magnitude_of n
unfolding magnitude_of
fits n hi lo h l e =
    let d : n / 18446744073709551616 ≡ hi = omega arith in
    let m : n % 18446744073709551616 ≡ lo = omega arith in
    rw (d, m, lt-ltb hi 18446744073709551616 h)

pub over : (n hi lo : ℕ) → 18446744073709551616 ≤ hi → both hi lo ≤ n → None ≡ magnitude_of n
unfolding magnitude_of
over n hi lo h e = rw (le-ltb (n / 18446744073709551616) 18446744073709551616 (le_trans h ((le-div_iff_mul-le (omega arith)).1 (quot n hi lo e))))
  where
    quot : (n hi lo : ℕ) → both hi lo ≤ n → hi * 18446744073709551616 ≤ n
    quot n hi lo e = omega arith

pub some_is : (w : Words) (n : ℕ) → Some w ≡ magnitude_of n → magnitude w ≡ n
unfolding magnitude_of
some_is w n e = go (ltb (n / 18446744073709551616) 18446744073709551616) e
  where
    go : (b : Bool) → Some w ≡ cond b (Some (words_of n)) None → magnitude w ≡ n
    go true g = let h : words_of n ≡ w = cc in rw (← h) (omega arith)
    go false g = cc

pub none_is : (n : ℕ) → None ≡ magnitude_of n → 18446744073709551616 * 18446744073709551616 ≤ n
unfolding magnitude_of
none_is n e = (le-div_iff_mul-le {k = 18446744073709551616} {x = 18446744073709551616} {y = n} (omega arith)).0 (go (ltb (n / 18446744073709551616) 18446744073709551616) refl e)
  where
    go : (b : Bool) → ltb (n / 18446744073709551616) 18446744073709551616 ≡ b → None ≡ cond b (Some (words_of n)) None → 18446744073709551616 ≤ n / 18446744073709551616
    go true t f = cc
    go false t f = ltb-false _ _ t

-- a number with a third word
pub trimmed : (n third hi lo : ℕ) → hi < 18446744073709551616 → lo < 18446744073709551616 → both (third * 18446744073709551616 + hi) lo ≡ n → then_some (eqb third 0) (record { hi = hi; lo = lo }) ≡ magnitude_of n
trimmed n zero hi lo h l e = fits n hi lo h l (omega arith)
trimmed n (suc third) hi lo h l e = rw (ne_eqb (suc third) 0 (λ z. omega arith)) (over n (suc third * 18446744073709551616 + hi) lo (omega arith) (omega arith))

-- a magnitude times a word, by the products of its two words
pub words_times : (ah al b hi third lo carry : ℕ) → lo + carry * 18446744073709551616 ≡ al * b + 0 → hi + third * 18446744073709551616 ≡ ah * b + carry → both (third * 18446744073709551616 + hi) lo ≡ both ah al * b
words_times ah al b hi third lo carry e f =
    let g : ah * 18446744073709551616 * b ≡ ah * b * 18446744073709551616 = mul_right_comm ah 18446744073709551616 b in
    rw (add-mul (ah * 18446744073709551616) al b, g) (omega (arith, e, f))

-- a product of magnitudes that both have a high word
pub high_times : (ah al bh bl : ℕ) → (ah ≡ 0 → ⊥) → (bh ≡ 0 → ⊥) → None ≡ magnitude_of (both ah al * both bh bl)
high_times ah al bh bl h g =
    over _ 18446744073709551616 0 (omega arith)
    (mul-le-mul {n₁ = 18446744073709551616} {m₁ = 18446744073709551616} {n₂ = both ah al} {m₂ = both bh bl} (omega arith) (omega arith))

pub ruleset timing = (trimmed, words_times)
