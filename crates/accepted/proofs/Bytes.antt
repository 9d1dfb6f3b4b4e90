-- A number from its bytes. Assumes nothing.
use Prim.Native.Nat.{ℕ, zero, suc, ◌+◌, ◌-◌, ◌*◌, ◌^◌, ◌≤◌, ◌<◌}
use Rattle.std.proofs.Common.{◌≡◌, refl, sym, ◌∙◌}
use mathlib.Core.List.{List}
use native.Mathlib.Omega.{arith}
use lib.ListN.{length, get_or, take, drop}
use Rattle.std.proofs.Common.{pow-suc, take_all}
use Rattle.std.proofs.Math.Nat.{pow-zero}
use Rattle.std.specs.Int.{Width, byte_len, byte_worth, sum_through, from_be_bytes}
use Rattle.context.specs.View.{number_at}
use Rattle.accepted.specs.Numbers.{one_byte, number-join, raise, taken}

worth : (i b : ℕ) → byte_worth i b ≡ b * 256 ^ i
worth zero b = rw (pow-zero 256) (omega arith)
worth (suc i) b = refl

-- the first bytes of a number of `m + 1`: each counts 256 for each byte behind it
first : (bs : List ℕ) (m n : ℕ) → n < length bs → n ≤ m → sum_through (λ i. byte_worth (m - i) (get_or bs i 0)) n ≡ number_at (suc n) bs 0 * 256 ^ (m - n)
first bs m zero h l = rw (one_byte bs 0 h) (worth (m - 0) (get_or bs 0 0))
first bs m (suc n) h l =
    let v : ℕ = number_at (suc n) bs 0 in
    let b : ℕ = get_or bs (suc n) 0 in
    let e : m - n ≡ suc (m - suc n) = omega arith in
    let f : sum_through (λ i. byte_worth (m - i) (get_or bs i 0)) n ≡ v * (256 ^ (m - suc n) * 256) = first bs m n (omega arith) (omega arith) ∙ rw (e, pow-suc 256 (m - suc n)) refl in
    let k : suc n + 1 ≡ suc (suc n) = omega arith in
    let o : 0 + suc n ≡ suc n = omega arith in
    let j : number_at (suc (suc n)) bs 0 ≡ v * 256 + b = rw (k, o, one_byte bs (suc n) h) at (number-join bs 0 (suc n) 1 (omega arith)) in
    rw (f, worth (m - suc n) b, j) (sym (raise v b (256 ^ (m - suc n))))

whole : (s : List ℕ) (at n : ℕ) → at + suc n ≤ length s → sum_through (λ i. byte_worth (n - i) (get_or (take (suc n) (drop at s)) i 0)) n ≡ number_at (suc n) s at
whole s at n h =
    let bs : List ℕ = take (suc n) (drop at s) in
    let l : length bs ≡ suc n = taken s at (suc n) h in
    let z : n - n ≡ 0 = omega arith in
    let e : take (suc n) bs ≡ bs = take_all (suc n) bs (omega arith) in
    first bs n n (omega arith) (omega arith) ∙ rw (z, pow-zero 256, e) (omega arith)

pub be_bytes : (w : Width) (n : ℕ) → byte_len w ≡ suc n → (s : List ℕ) (at : ℕ) → at + suc n ≤ length s → (bs : List ℕ) → bs ≡ take (suc n) (drop at s) → from_be_bytes w bs ≡ number_at (suc n) s at
be_bytes w n e s at h bs f = let z : suc n - 1 ≡ n = omega arith in rw (f, e, z) (whole s at n h)
