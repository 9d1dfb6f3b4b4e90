-- Bytes stored one after the other, each where there is room.
use Rattle.std.specs.Prelude.{ℕ, ◌+◌, ◌≤◌, ◌≡◌, List, ◌++◌, length, drop}
use Rattle.std.proofs.lemmas.List.Edits.{sets}

-- the list xs was stored in o from n on: o' is what is there now, and r the place after
pub record Wrote (o : List ℕ) (n : ℕ) (o' : List ℕ) (r : ℕ) (xs : List ℕ) : Type 0 where
  pub holds : o' ≡ sets o n xs
  pub after : r ≡ n + length xs

-- the same, and in so many bytes
pub record Said (o : List ℕ) (n : ℕ) (o' : List ℕ) (r : ℕ) (xs : List ℕ) (room : ℕ) : Type 0 where
  pub wrote : Wrote o n o' r xs
  pub within : r ≤ n + room

-- the list xs was stored in b up to the place end: b' is what is there now, and r where xs starts
pub record Before (b : List ℕ) (end : ℕ) (b' : List ℕ) (r : ℕ) (xs : List ℕ) : Type 0 where
  pub shows : drop r b' ≡ xs ++ drop end b
  pub start : r + length xs ≡ end
  pub size : length b' ≡ length b

-- a piece of a message is a text of so many bytes at most
pub record Shown (r xs : List ℕ) (room : ℕ) : Type 0 where
  pub shows : r ≡ xs
  pub short : length r ≤ room
