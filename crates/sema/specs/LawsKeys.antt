-- The list of keys as it grows: what a step adds. Assumes nothing.
use Rattle.std.specs.Prelude.{ℕ, ◌<◌, ◌≡◌, ◌⊎◌, List, ◌++◌, length}
use Rattle.sema.specs.Marks.{Key}
use Rattle.sema.specs.LawsLists.{Has, Distinct}

-- From ks to ls the keys of P were added, behind the others: none twice, no other, and all of them unless the list is longer than c.
pub record Grown (c : ℕ) (P : Key → Type 0) (ks ls : List Key) : Type 0 where
  pub distinct : Distinct ks → Distinct ls
  pub behind : (more : List Key) × (ls ≡ ks ++ more)
  pub only : (k : Key) → Has ls k → Has ks k ⊎ P k
  pub all : (k : Key) → P k → Has ls k ⊎ (c < length ls)
