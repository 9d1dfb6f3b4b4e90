-- A Vec checked value by value by the calls of a check.
use Rattle.std.specs.Prelude.{ℕ, zero, suc, ◌≡◌, List}
use Rattle.std.specs.Borrow.{MutBor}
use Rattle.context.specs.declared.Sink.{Sink}
use Rattle.context.specs.declared.After.{After}

-- so many calls lead from a place, a sink and a buffer to others
abbrev pub CheckedTo : (MutBor (List ℕ) → ℕ → Sink → After → MutBor (List ℕ) → Type 0) → ℕ → ℕ → Sink → List ℕ → ℕ → Sink → List ℕ → Type 0
CheckedTo call zero at s o at' s' o' = (at' ≡ at) × (s' ≡ s) × (o' ≡ o)
CheckedTo call (suc n) at s o at' s' o' =
    (k : ℕ) × (r : Sink) × (b : MutBor (List ℕ)) × (a : After) × (b' : MutBor (List ℕ)) × CheckedTo call n at s o k r b.now × call b k r a b' × (at' ≡ a.next) × (s' ≡ a.sink) × (o' ≡ b'.now)
