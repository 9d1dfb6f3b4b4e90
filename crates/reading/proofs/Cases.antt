-- What a case byte that was read tells. Assumes nothing.
use Rattle.std.proofs.Common.{◌≡◌, ℕ, ◌+◌, ◌<◌, ◌≤◌, ◌⊎◌, inl, inr, List, length, get_or}
use Rattle.text.proofs.Order.{le-or-lt}
use Rattle.tree.specs.Ans.{ok, refused}
use Rattle.tree.specs.Read.{case_byte}
use Rattle.tree.proofs.Steps.{case_in, case-end, case-none}

module _ (cases : ℕ) (s : List ℕ) (at b k : ℕ) (e : case_byte cases s at ≡ ok b k) where
  told : (length s ≤ at) ⊎ (at < length s) → (cases ≤ get_or s at 0) ⊎ (get_or s at 0 < cases) → (at < length s) × (b < cases) × (k ≡ at + 1)
  told (inl h) c = let z : refused 3 (length s) ≡ ok b k = rw (case-end s at cases h) at e in absurd cc
  told (inr h) (inl c) = let z : refused 4 at ≡ ok b k = rw (case-none s at cases h c) at e in absurd cc
  told (inr h) (inr c) = let z : ok (get_or s at 0) (at + 1) ≡ ok b k = rw (case_in s at cases h c) at e in let v : get_or s at 0 ≡ b = cc in (h, rw v at c, cc)

  pub case-there : at < length s
  case-there = (told (le-or-lt _ _) (le-or-lt _ _)).0

  pub case-below : b < cases
  case-below = (told (le-or-lt _ _) (le-or-lt _ _)).1

  pub case-next : k ≡ at + 1
  case-next = (told (le-or-lt _ _) (le-or-lt _ _)).2

pub ruleset case_bytes = (case-there, case-below, case-next)
