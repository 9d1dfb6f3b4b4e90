-- Laws of powers by squaring, and by the sign. Assumes nothing.
use Prim.Native.Nat.{ℕ, zero, suc, ◌<◌, ◌≤◌, ◌+◌, ◌*◌, ◌/◌, ◌%◌, ◌^◌}
use mathlib.Core.Path.{◌≡◌, refl, sym, ap, ◌∙◌}
use mathlib.Core.Bool.{Bool, true, false, cond, not, ◌&&◌, beq}
use native.Mathlib.Omega.{arith}
use native.Mathlib.Nat.{pow-zero, pow-suc, pow-le-pow_right, mul_assoc, mul-zero, one-mul, le_trans, lt_of_lt_of_le, lt_irrefl}
use lib.IntN.{ℤ, pos, negsuc, pow, one}
use lib.Dec.{ltb, eqb, lit<}
use borrow.Author.Tests.{lt-ltb, le-ltb, ltb-false}
use Rattle.std.specs.Prelude.{Some, None}
use Rattle.std.proofs.lemmas.Bool.Decides.{nat_tests}
use Rattle.int128.specs.declared.Words.{Words}
use Rattle.int128.specs.Whole.{magnitude, magnitude_of, signed, checked, powered, word_of}
use Rattle.int128.proofs.Halves.{fits, over, some_is, none_is}
use Rattle.int128.proofs.Signs.{signed_times}

-- squares
square : (b h : ℕ) → (b * b) ^ h ≡ b ^ (h + h)
square b zero = pow-zero (b * b) ∙ sym (pow-zero b)
square b (suc h) =
    let e : suc h + suc h ≡ suc (suc (h + h)) = omega arith in
    pow-suc (b * b) h
    ∙ (ap (λ (x : ℕ). x * (b * b)) (square b h)
    ∙ (sym (mul_assoc (b ^ (h + h)) b b)
    ∙ (ap (λ (x : ℕ). x * b) (sym (pow-suc b (h + h)))
    ∙ (sym (pow-suc b (suc (h + h))) ∙ ap (λ (x : ℕ). b ^ x) (sym e)))))

pub even : (b e : ℕ) → e % 2 ≡ 0 → b ^ e ≡ (b * b) ^ (e / 2)
even b e z = let f : e ≡ e / 2 + e / 2 = omega arith in ap (λ (x : ℕ). b ^ x) f ∙ sym (square b (e / 2))

pub odd : (b e : ℕ) → (e % 2 ≡ 0 → ⊥) → b ^ e ≡ (b * b) ^ (e / 2) * b
odd b e z =
    let f : e ≡ suc (e / 2 + e / 2) = omega arith in
    ap (λ (x : ℕ). b ^ x) f ∙ (pow-suc b (e / 2 + e / 2) ∙ ap (λ (x : ℕ). x * b) (sym (square b (e / 2))))

-- `pow_words`
pub pow-none : (b e : ℕ) → e ≡ 0 → Some (record { hi = 0; lo = 1 }) ≡ magnitude_of (b ^ e)
pow-none b e z = rw (z, pow-zero b) (fits 1 0 1 (omega arith) (omega arith) refl)

pub pow-once : (w : Words) (e : ℕ) → e ≡ 1 → w.hi < 18446744073709551616 → w.lo < 18446744073709551616 → Some w ≡ magnitude_of (magnitude w ^ e)
pow-once w e z h l = rw (z, pow-suc (magnitude w) 0, pow-zero (magnitude w), one-mul (magnitude w)) (fits (magnitude w) w.hi w.lo h l refl)

some_base : (b k : ℕ) → 0 < k → 18446744073709551616 * 18446744073709551616 ≤ b ^ k → 0 < b
some_base zero k h g = absurd (go k h g)
  where
    go : (k : ℕ) → 0 < k → 18446744073709551616 * 18446744073709551616 ≤ 0 ^ k → ⊥
    go zero h g = omega arith
    go (suc k) h g = lt_irrefl 0 (lt_of_lt_of_le (lit< {m = 0} tt) (rw (pow-suc 0 k, mul-zero (0 ^ k)) at g))
some_base (suc b) k h g = omega arith

-- a power is over with a smaller one
grows : (b d e : ℕ) → 0 < d → d ≤ e → None ≡ magnitude_of (b ^ d) → None ≡ magnitude_of (b ^ e)
grows b d e p h n =
    let g : 18446744073709551616 * 18446744073709551616 ≤ b ^ d = none_is (b ^ d) n in
    over (b ^ e) 18446744073709551616 0 (omega arith) (le_trans g (pow-le-pow_right (some_base b d p g) h))

module _ (b e : ℕ) (n0 : e ≡ 0 → ⊥) (n1 : e ≡ 1 → ⊥) where
  pub half_over : None ≡ magnitude_of ((b * b) ^ (e / 2)) → None ≡ magnitude_of (b ^ e)
  half_over n = grows b (e / 2 + e / 2) e (omega arith) (omega arith) (rw square at n)

  pub square_over : None ≡ magnitude_of (b * b) → None ≡ magnitude_of (b ^ e)
  square_over n = grows b 2 e (omega arith) (omega arith) (rw (pow-suc b 1, pow-suc b 0, pow-zero b, one-mul b) n)

-- powers by the sign
flips : (n : ℕ) → eqb (suc n % 2) 1 ≡ not (eqb (n % 2) 1)
flips n = grind (arith, nat_tests)

pub signed_power : (s : Bool) (m n : ℕ) → pow (signed s m) n ≡ signed (s && eqb (n % 2) 1) (m ^ n)
unfolding pow one
signed_power false m zero = ap pos (sym (pow-zero m))
signed_power true m zero = ap pos (sym (pow-zero m))
signed_power s m (suc n) = rw (signed_power s m n, signed_times, pow-suc m n, flips n) (ap (λ (t : Bool). signed t (m ^ n * m)) (sign s (eqb (n % 2) 1)))
  where
    sign : (s o : Bool) → not (beq (s && o) s) ≡ (s && not o)
    sign false o = refl
    sign true false = refl
    sign true true = refl

-- `checked_pow`
pub power_none : (a z : ℤ) → None ≡ word_of z → None ≡ powered a z
unfolding word_of powered
power_none a (pos m) e = go (ltb m 18446744073709551616) refl e
  where
    go : (b : Bool) → ltb m 18446744073709551616 ≡ b → None ≡ cond b (Some m) None → None ≡ cond (ltb m 4294967296) (checked (pow a m)) None
    go true t g = cc
    go false t g = let l = ltb-false m 18446744073709551616 t in rw (le-ltb m 4294967296 (omega arith))
power_none a (negsuc m) e = refl

word_is : (z : ℤ) (n : ℕ) → Some n ≡ word_of z → z ≡ pos n
unfolding word_of
word_is (pos m) n e = go (ltb m 18446744073709551616) e
  where
    go : (b : Bool) → Some n ≡ cond b (Some m) None → pos m ≡ pos n
    go true g = cc
    go false g = cc
word_is (negsuc m) n e = cc

module _ (a z : ℤ) (n : ℕ) (e : Some n ≡ word_of z) where
  pub power_over : 4294967296 ≤ n → None ≡ powered a z
  unfolding powered
  power_over h = rw (word_is z n e, le-ltb n 4294967296 h)

  pub power_is : n < 4294967296 → powered a z ≡ checked (pow a n)
  unfolding powered
  power_is h = rw (word_is z n e, lt-ltb n 4294967296 h)

pub ruleset powering = (pow-none, pow-once, square_over, half_over, even, odd, some_is)
