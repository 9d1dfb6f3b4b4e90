-- Numbers in decimal.
-- Assumes nothing.
use Rattle.std.specs.Prelude.{ℕ, zero, suc, ◌+◌, ◌/◌, ◌%◌, List, [], ◌∷◌, ◌++◌, ◌≡◌, refl}
use Rattle.text.specs.Text.{text}

-- the digits of n, and none where n is 0; the first number is a bound on how many
unfoldable pub front : ℕ → ℕ → List ℕ
front zero n = []
front (suc bound) zero = []
front (suc bound) (suc n) = front bound (suc n / 10) ++ ((48 + suc n % 10) ∷ [])

-- the digits of n as bytes, the most significant first: the last one after those of n / 10
unfoldable pub decimal : ℕ → List ℕ
decimal n = front (n / 10) (n / 10) ++ ((48 + n % 10) ∷ [])

least-number : decimal 0 ≡ text "0"
unfolding front decimal
least-number = refl

greatest_u64 : decimal 18446744073709551615 ≡ text "18446744073709551615"
unfolding front decimal
greatest_u64 = refl
