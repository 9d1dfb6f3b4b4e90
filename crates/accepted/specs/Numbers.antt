-- Numbers at a place, by their bytes: laws over the width. Assumes nothing.
use Rattle.std.specs.Prelude.{ℕ, ◌+◌, ◌*◌, ◌^◌, ◌≤◌, ◌<◌, ◌≡◌, refl, List, [], ◌∷◌, ◌++◌, length, get_or, take, drop}
use Rattle.std.proofs.Common.{ap, ◌∙◌, arith, pow-suc, add-mul, mul_assoc, mul_comm, length-take, length-drop, take-add, drop-drop, drop-cons}
use Rattle.std.proofs.Math.Nat.{pow-zero}
use Rattle.text.specs.Big.{value}
use Rattle.context.specs.View.{number_at}

value-join : (high : ℕ) (xs ys : List ℕ) → value high (xs ++ ys) ≡ value (value high xs) ys
unfolding value
value-join high [] ys = refl
value-join high (x ∷ xs) ys = value-join (high * 256 + x) xs ys

pub raise : (high y p : ℕ) → (high * 256 + y) * p ≡ high * (p * 256) + y * p
raise high y p = add-mul (high * 256) y p ∙ ap (λ n. n + y * p) (mul_assoc high 256 p ∙ ap (λ n. high * n) (mul_comm 256 p))

-- what stands before counts 256 for each byte behind it
value-high : (high : ℕ) (ys : List ℕ) → value high ys ≡ high * 256 ^ length ys + value 0 ys
unfolding value
value-high high [] = rw (pow-zero 256) (omega arith)
value-high high (y ∷ ys) =
    let p : ℕ = 256 ^ length ys in
    let a : value (high * 256 + y) ys ≡ high * (p * 256) + y * p + value 0 ys = value-high (high * 256 + y) ys ∙ ap (λ n. n + value 0 ys) (raise high y p) in
    let b : value (0 * 256 + y) ys ≡ 0 * (p * 256) + y * p + value 0 ys = value-high (0 * 256 + y) ys ∙ ap (λ n. n + value 0 ys) (raise 0 y p) in
    rw (pow-suc 256 (length ys)) (omega arith)

pub taken : (s : List ℕ) (at width : ℕ) → at + width ≤ length s → length (take width (drop at s)) ≡ width
taken s at width h = simp (length-take, length-drop) (omega arith)

module _ (s : List ℕ) (at : ℕ) where
  pub one_byte : at < length s → number_at 1 s at ≡ get_or s at 0
  unfolding value
  one_byte h = rw (drop-cons s at 0 h) (omega arith)

  -- a number is its first bytes and the others
  pub number-join : (a b : ℕ) → at + a + b ≤ length s → number_at (a + b) s at ≡ number_at a s at * 256 ^ b + number_at b s (at + a)
  number-join a b h = rw (take-add a b (drop at s), drop-drop a at s, value-join 0 (take a (drop at s)) (take b (drop (at + a) s)), value-high (number_at a s at) (take b (drop (at + a) s)), taken s (at + a) b h)
