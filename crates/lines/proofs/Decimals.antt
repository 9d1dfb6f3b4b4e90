-- The digits of a number are those that std writes. Assumes nothing.
use Rattle.std.proofs.Common.{◌≡◌, ℕ, ◌+◌, ◌/◌, ◌%◌, ◌^◌, ◌<◌, ◌≤◌, zero, suc, length, List, [], ◌∷◌, ◌++◌, refl, ap, ◌∙◌, arith}
use Rattle.std.specs.Fmt.{decimal as written}
use Rattle.std.proofs.lemmas.Fmt.{decimal_by_steps_wide}
use Rattle.text.specs.Decimal.{front, decimal}
use Rattle.lines.specs.Stored.{Shown}

-- more bound changes nothing
front_same : (f g m : ℕ) → m ≤ f → m ≤ g → front f m ≡ front g m
unfolding front
front_same zero zero m a b = refl
front_same zero (suc g) zero a b = refl
front_same zero (suc g) (suc m) a b = absurd (omega arith)
front_same (suc f) zero zero a b = refl
front_same (suc f) zero (suc m) a b = absurd (omega arith)
front_same (suc f) (suc g) zero a b = refl
front_same (suc f) (suc g) (suc m) a b = rw (front_same f g (suc m / 10) (omega arith) (omega arith))

front-step : (m : ℕ) → 0 < m → front m m ≡ decimal m
unfolding front decimal
front-step zero h = absurd (omega arith)
front-step (suc m) h = rw (front_same m (suc m / 10) (suc m / 10) (omega arith) (omega arith))

one : (n : ℕ) → n < 10 → (48 + n) ∷ [] ≡ decimal n
unfolding decimal front
one n h =
    let z : n / 10 ≡ 0 = omega arith in
    let y : n % 10 ≡ n = omega arith in
    rw (z, y)

more : (n : ℕ) (ds : List ℕ) → 10 ≤ n → ds ≡ decimal (n / 10) → ds ++ ((48 + n % 10) ∷ []) ≡ decimal n
unfolding decimal
more n ds h e = rw (e, ← front-step (n / 10) (omega arith))

pub decimal-written : (n : ℕ) → n < 10 ^ 64 → written n ≡ decimal n
decimal-written n h = decimal_by_steps_wide (λ n ds. ds ≡ decimal n) one more n h

-- a number as std writes it
pub number-shown : {v w k : ℕ} {xs : List ℕ} → w < 2 ^ 129 → w ≡ v → xs ≡ written w → length xs ≤ k → Shown xs (decimal v) k
number-shown {v} {w} h f e s = record { shows = e ∙ decimal-written w (omega arith) ∙ ap decimal f; short = s }
