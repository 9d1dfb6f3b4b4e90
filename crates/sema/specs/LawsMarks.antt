-- Keys at facts: which keys a measure sets and a reset clears. Assumes nothing.
use Rattle.std.specs.Prelude.{ℕ, ◌≤◌, ◌<◌, ◌≡◌}
use Rattle.std.proofs.Math.Option.{Option, none, some}
use Rattle.ast.specs.Tree.{TextNumber}
use Rattle.sema.specs.Marks.{Key}

-- a key of the name whose index is in P
abbrev pub Named : TextNumber → (Option ℕ → Type 0) → Key → Type 0
Named x P k = (k.name ≡ x) × P k.index

-- What an operand names, by facts. The index of a key is in a slice, start and end included.
abbrev pub InSlice : ℕ × ℕ → Option ℕ → Type 0
InSlice r none = ⊥
InSlice r (some i) = (r.0 ≤ i) × (i ≤ r.1)

-- the whole key, or an index below the size
abbrev pub Below : Option ℕ → Option ℕ → Type 0
Below size none = Unit {0}
Below none (some i) = ⊥
Below (some n) (some i) = i < n

abbrev pub Measures : Option ℕ → Option (ℕ × ℕ) → Option ℕ → Option ℕ → Type 0
Measures size (some r) index i = InSlice r i
Measures size none (some j) i = i ≡ some j
Measures size none none i = Below size i

abbrev pub Resets : Option (ℕ × ℕ) → Option ℕ → Option ℕ → Type 0
Resets (some r) index i = InSlice r i
Resets none (some j) i = i ≡ some j
Resets none none i = Unit {0}
