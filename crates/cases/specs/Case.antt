-- A case: how many bytes of the space it takes, and what it took from the input.
use Rattle.std.specs.Prelude.{ℕ, ◌/◌, ◌%◌, List, [], ◌∷◌, ◌++◌, Option, Some, None, length, take}
use Rattle.std.specs.List.{FoldsTo}
use Rattle.std.specs.Io.KnownBytes.{Consumes}

abbrev pub size_of : Option ℕ → ℕ
size_of (Some n) = n
size_of None = 0

-- a length in four bytes, the high one first
abbrev pub length_bytes : ℕ → List ℕ
length_bytes n = n / 16777216 ∷ n / 65536 % 256 ∷ n / 256 % 256 ∷ n % 256 ∷ []

-- a tree, which the space holds, was taken from the input behind its length; `old` and `new` are what the input has left
abbrev pub Taken : Option (List ℕ) → Option (List ℕ) → List ℕ → Option ℕ → Type 0
Taken old new space (Some n) = Consumes old new (length_bytes n ++ take n space)
Taken old new space None = Unit {0}

-- trees, each behind its length
unfoldable pub framed : List (List ℕ) → List ℕ
framed [] = []
framed (t ∷ ts) = length_bytes (length t) ++ (t ++ framed ts)

-- trees that the input began with, and that were given to calls, one after the other
pub record Given {F : Type 0} (call : F → List ℕ → F → Type 0) (first : F) (old new : Option (List ℕ)) (last : F) : Type 0 where
  pub trees : List (List ℕ)
  pub taken : Consumes old new (framed trees)
  pub called : FoldsTo call first trees last
