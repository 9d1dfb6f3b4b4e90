-- Steps from place to place. Assumes nothing.
use Rattle.std.specs.Prelude.{ℕ, zero, suc, ◌≡◌}

-- so many steps from a place on lead to another
abbrev pub Reached : (ℕ → ℕ → Type 0) → ℕ → ℕ → ℕ → Type 0
Reached step zero start k = k ≡ start
Reached step (suc n) start k = (m : ℕ) × Reached step n start m × step m k

-- a step past the value of an Option, where its byte says that there is one
pub record Skipped (step : ℕ → ℕ → Type 0) (flag from k : ℕ) : Type 0 where
  pub none : flag ≡ 0 → k ≡ from
  pub some : (flag ≡ 0 → ⊥) → step from k
