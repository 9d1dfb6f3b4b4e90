-- The least index of a range at which there is a mark. Assumes nothing.
use Prim.Native.Nat.{ℕ, ◌≤◌, ◌<◌}
use Rattle.std.specs.Prelude.{◌≡◌}
use Rattle.std.proofs.Math.Option.{Option, none, some}
use Rattle.span.specs.declared.Span.{Span}

-- The least index of D at which f has a mark, and that mark; or f has no mark at the indices of D.
abbrev pub Least : (ℕ → Type 0) → (ℕ → Option Span) → Option (ℕ × Span) → Type 0
Least D f none = (i : ℕ) → D i → f i ≡ none
Least D f (some r) = D r.0 × (f r.0 ≡ some r.1) × ((i : ℕ) → D i → i < r.0 → f i ≡ none)

-- an index of the range, both ends included
abbrev pub Within : ℕ × ℕ → ℕ → Type 0
Within r i = (r.0 ≤ i) × (i ≤ r.1)
