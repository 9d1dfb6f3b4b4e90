-- Laws of signed magnitudes and of the range. Assumes nothing.
use Prim.Native.Nat.{ℕ, zero, suc, ◌<◌, ◌≤◌, ◌+◌, ◌-◌, ◌*◌, ◌/◌, ◌%◌}
use mathlib.Core.Path.{◌≡◌, refl, sym, ap, ◌∙◌}
use mathlib.Core.Bool.{Bool, true, false, not, ◌&&◌, beq}
use native.Mathlib.Omega.{arith}
use native.Mathlib.Nat.{suc-mul, mul-le-mul_right, lt_of_lt_of_le, mul-zero, zero-mul}
use lib.IntN.{pos, negsuc, neg_ℤ, sub_ℕ, ◌+ℤ◌, ◌*ℤ◌, +ℤ_comm, neg_ℤ-neg_ℤ}
use lib.Dec.{ltb, eqb, lit<}
use borrow.Author.Tests.{lt-ltb, le-ltb, ltb-true, ltb-false, eqb-true, eqb-false}
use Rattle.std.specs.Prelude.{Some, None}
use Rattle.std.specs.Bool.{then_some}
use Rattle.std.proofs.lemmas.Bool.Decides.{nat_tests}
use Rattle.int128.specs.declared.Words.{Words}
use Rattle.int128.specs.Whole.{both, magnitude, magnitude_of, signed, int128, limit, checked}
use Rattle.int128.proofs.Halves.{none_is, some_is}

-- the limit by words: these go by the laws of the product, as 2^127 is too long a number for omega
words-low : (h w hi lo : ℕ) → hi < h → lo < w → hi * w + lo < h * w
words-low h w hi lo p q =
    let e : suc hi * w ≡ hi * w + w = suc-mul hi w in
    let l : suc hi * w ≤ h * w = mul-le-mul_right w p in
    omega arith

words-high : (h w hi lo : ℕ) → h ≤ hi → h * w ≤ hi * w + lo
words-high h w hi lo p =
    let l : h * w ≤ hi * w = mul-le-mul_right w p in
    omega arith

words_more : (h w hi lo : ℕ) → h < hi → 0 < w → h * w < hi * w + lo
words_more h w hi lo p q =
    let e : suc h * w ≡ h * w + w = suc-mul h w in
    let l : suc h * w ≤ hi * w = mul-le-mul_right w p in
    omega arith

low : (hi lo : ℕ) → hi < 9223372036854775808 → lo < 18446744073709551616 → both hi lo < limit
unfolding limit
low hi lo p q = words-low 9223372036854775808 18446744073709551616 hi lo p q

high : (hi lo : ℕ) → 9223372036854775808 ≤ hi → limit ≤ both hi lo
unfolding limit
high hi lo p = words-high 9223372036854775808 18446744073709551616 hi lo p

more : (hi lo : ℕ) → 9223372036854775808 < hi → limit < both hi lo
unfolding limit
more hi lo p = words_more 9223372036854775808 18446744073709551616 hi lo p (omega arith)

least : (hi lo : ℕ) → hi ≡ 9223372036854775808 → both hi lo ≡ limit + lo
unfolding limit
least hi lo e = rw e

-- what is in the range and what is not
val_pos : (n : ℕ) → n < limit → checked (signed false n) ≡ Some (int128 false n)
unfolding checked
val_pos n h = rw (lt-ltb n limit h)

val_neg : (n : ℕ) → 0 < n → n ≤ limit → checked (signed true n) ≡ Some (int128 true n)
unfolding checked
val_neg zero p h = absurd (omega arith)
val_neg (suc n) p h = rw (lt-ltb n limit (omega arith))

none_pos : (n : ℕ) → limit ≤ n → checked (signed false n) ≡ None
unfolding checked
none_pos n h = rw (le-ltb n limit h)

none_any : (s : Bool) (n : ℕ) → limit < n → checked (signed s n) ≡ None
unfolding checked
none_any false n h = none_pos n (omega arith)
none_any true zero h = absurd (omega arith)
none_any true (suc n) h = rw (le-ltb n limit (omega arith))

-- a magnitude that has no two words is out of the range
limit-below : limit < 18446744073709551616 * 18446744073709551616
unfolding limit
limit-below = lit< tt

pub none_checked : (s : Bool) (n : ℕ) → None ≡ magnitude_of n → None ≡ checked (signed s n)
none_checked s n e = sym (none_any s n (lt_of_lt_of_le limit-below (none_is n e)))

-- `fit`
wide_is : (s : Bool) (hi lo : ℕ) → lo < 18446744073709551616 → int128 s (both hi lo) ≡ record { neg = s; words = record { hi = hi; lo = lo } }
wide_is s hi lo h =
    let d : both hi lo / 18446744073709551616 ≡ hi = omega arith in
    let m : both hi lo % 18446744073709551616 ≡ lo = omega arith in
    rw (d, m)

zero-fits : (hi lo : ℕ) → hi ≡ 0 → lo ≡ 0 → Some (record { neg = false; words = record { hi = hi; lo = lo } }) ≡ checked (signed true (both hi lo))
unfolding checked limit
zero-fits hi lo e f = rw (e, f)

past : (hi lo : ℕ) → 9223372036854775808 ≤ hi → (eqb hi 9223372036854775808 && eqb lo 0) ≡ false → limit < both hi lo
past hi lo h = go (eqb hi 9223372036854775808) refl
  where
    go : (b : Bool) → eqb hi 9223372036854775808 ≡ b → (b && eqb lo 0) ≡ false → limit < both hi lo
    go true e f = let p = least hi lo (eqb-true _ _ e) in omega (arith, eqb-false lo 0 f)
    go false e f = more hi lo (omega (arith, eqb-false _ _ e))

module _ (hi lo : ℕ) (l : lo < 18446744073709551616) where
  pub fit_low : (s : Bool) → hi < 9223372036854775808 → Some (record { neg = s && not (eqb hi 0 && eqb lo 0); words = record { hi = hi; lo = lo } }) ≡ checked (signed s (both hi lo))
  fit_low s h = go s (eqb hi 0 && eqb lo 0) refl
    where
      go : (s z : Bool) → (eqb hi 0 && eqb lo 0) ≡ z → Some (record { neg = s && not z; words = record { hi = hi; lo = lo } }) ≡ checked (signed s (both hi lo))
      go false z e = sym (val_pos (both hi lo) (low hi lo h l) ∙ ap Some (wide_is false hi lo l))
      go true true e = zero-fits hi lo (grind (arith, nat_tests)) (grind (arith, nat_tests))
      go true false e =
          let p : 0 < both hi lo = grind (arith, nat_tests) in
          sym (val_neg (both hi lo) p (omega (arith, low hi lo h l)) ∙ ap Some (wide_is true hi lo l))

  pub fit_high : (s : Bool) → 9223372036854775808 ≤ hi → then_some (s && (eqb hi 9223372036854775808 && eqb lo 0)) (record { neg = s; words = record { hi = hi; lo = lo } }) ≡ checked (signed s (both hi lo))
  fit_high s h = go s (eqb hi 9223372036854775808 && eqb lo 0) refl
    where
      go : (s z : Bool) → (eqb hi 9223372036854775808 && eqb lo 0) ≡ z → then_some (s && z) (record { neg = s; words = record { hi = hi; lo = lo } }) ≡ checked (signed s (both hi lo))
      go false z e = sym (none_pos (both hi lo) (high hi lo h))
      go true true e =
          let a : hi ≡ 9223372036854775808 = grind (arith, nat_tests) in
          let b : lo ≡ 0 = grind (arith, nat_tests) in
          let p = least hi lo a in
          sym (val_neg (both hi lo) (omega arith) (omega arith) ∙ ap Some (wide_is true hi lo l))
      go true false e = sym (none_any true (both hi lo) (past hi lo h e))

-- the signs
pub unlike : (s t : Bool) → not (beq s t) ≡ true → t ≡ not s
unlike false false e = e
unlike false true e = refl
unlike true false e = refl
unlike true true e = sym e

pub alike : (s t : Bool) → not (beq s t) ≡ false → t ≡ s
alike false false e = refl
alike false true e = e
alike true false e = sym e
alike true true e = refl

pub negated : (s : Bool) (n : ℕ) → signed (not s) n ≡ neg_ℤ (signed s n)
negated false n = refl
negated true n = sym (neg_ℤ-neg_ℤ (pos n))

-- sums by the signs
neg-suc : (m n : ℕ) → m ≡ suc n → neg_ℤ (pos m) ≡ negsuc n
neg-suc m n e = rw e

sub_down : (m n : ℕ) → n ≤ m → sub_ℕ m n ≡ pos (m - n)
sub_down m n h = rw (le-ltb m n h)

sub_up : (m n : ℕ) → m < n → sub_ℕ m n ≡ negsuc (n - suc m)
sub_up m n h = rw (lt-ltb m n h)

pub same_sign : (s : Bool) (m n : ℕ) → signed s m +ℤ signed s n ≡ signed s (m + n)
same_sign false m n = refl
same_sign true zero zero = refl
same_sign true zero (suc n) = sub_up 0 (suc n) (omega arith) ∙ sym (neg-suc (0 + suc n) (suc n - suc 0) (omega arith))
same_sign true (suc m) zero = sub_up 0 (suc m) (omega arith) ∙ sym (neg-suc (suc m + 0) (suc m - suc 0) (omega arith))
same_sign true (suc m) (suc n) = sym (neg-suc (suc m + suc n) (suc (m + n)) (omega arith))

apart : (m n : ℕ) → n ≤ m → pos m +ℤ neg_ℤ (pos n) ≡ pos (m - n)
apart m zero h = ap pos (omega arith)
apart m (suc n) h = sub_down m (suc n) h

apart_less : (m n : ℕ) → m < n → pos m +ℤ neg_ℤ (pos n) ≡ neg_ℤ (pos (n - m))
apart_less m zero h = absurd (omega arith)
apart_less m (suc n) h = sub_up m (suc n) h ∙ sym (neg-suc (suc n - m) (suc n - suc m) (omega arith))

apart-same : (m n : ℕ) → m ≡ n → pos m +ℤ neg_ℤ (pos n) ≡ pos 0
apart-same m n e = apart m n (omega arith) ∙ ap pos (omega arith)

pub larger : (s : Bool) (m n : ℕ) → n ≤ m → signed s m +ℤ signed (not s) n ≡ signed s (m - n)
larger false m n h = apart m n h
larger true m n h = +ℤ_comm (neg_ℤ (pos m)) (pos n) ∙ by_test (ltb n m) refl
  where
    by_test : (b : Bool) → ltb n m ≡ b → pos n +ℤ neg_ℤ (pos m) ≡ neg_ℤ (pos (m - n))
    by_test true e = apart_less n m (ltb-true n m e)
    by_test false e =
        let f : n ≡ m = omega (arith, ltb-false n m e) in
        let z : m - n ≡ 0 = omega arith in
        rw z (apart-same n m f)

pub smaller : (s : Bool) (m n : ℕ) → m < n → signed s m +ℤ signed (not s) n ≡ signed (not s) (n - m)
smaller false m n h = apart_less m n h
smaller true m n h = +ℤ_comm (neg_ℤ (pos m)) (pos n) ∙ apart n m (omega arith)

-- products by the signs
pub neg-zero : (m : ℕ) → m ≡ 0 → pos m ≡ neg_ℤ (pos m)
neg-zero m e = rw e

pub signed_times : (s t : Bool) (m n : ℕ) → signed s m *ℤ signed t n ≡ signed (not (beq s t)) (m * n)
signed_times false false m n = refl
signed_times false true m zero = neg-zero (m * 0) (mul-zero m)
signed_times false true m (suc n) = refl
signed_times true false zero n = neg-zero (0 * n) (zero-mul n)
signed_times true false (suc m) n = refl
signed_times true true zero zero = refl
signed_times true true zero (suc n) = ap (λ (x : ℕ). neg_ℤ (pos x)) (zero-mul (suc n)) ∙ ap pos (sym (zero-mul (suc n)))
signed_times true true (suc m) zero = ap (λ (x : ℕ). neg_ℤ (pos x)) (mul-zero (suc m)) ∙ ap pos (sym (mul-zero (suc m)))
signed_times true true (suc m) (suc n) = refl

pub some_checked : (s : Bool) (n : ℕ) (w : Words) → Some w ≡ magnitude_of n → checked (signed s n) ≡ checked (signed s (magnitude w))
some_checked s n w e = rw (some_is w n e)

pub ruleset ranging = (none_checked, some_checked)

pub ruleset multiplying = (signed_times, ranging)

pub ruleset adding = (alike, same_sign, ranging)
