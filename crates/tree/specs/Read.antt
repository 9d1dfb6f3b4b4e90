-- The values that every part of the tree file is made of: bytes, numbers, spans, cases, Option and Vec.
use Rattle.std.specs.Prelude.{ℕ, zero, suc, ◌+◌, List, [], ◌∷◌, Bool, true, false, length, get_or, take, drop, ltb, leb}
use Rattle.std.proofs.Math.Option.{Option, none, some}
use Rattle.text.specs.Big.{value}
use Rattle.span.specs.declared.Span.{Span}
use Rattle.tree.specs.Limits.{vec_limit}
use Rattle.tree.specs.Ans.{Ans, ok, refused, Reader, ◌>>=◌, ◌>>◌, done, here, check}

-- "bytes end inside a value (place: the length)"
unfoldable pub within : {A : Type 0} → Bool → ℕ → Ans A → Ans A
within true size a = a
within false size a = refused 3 size

unfoldable pub byte : Reader ℕ
byte s at = within (ltb at (length s)) (length s) (ok (get_or s at 0) (at + 1))

unfoldable pub bytes : ℕ → Reader (List ℕ)
bytes n s at = within (leb (at + n) (length s)) (length s) (ok (take n (drop at s)) (at + n))

-- "numbers big-endian"
unfoldable pub number : ℕ → Reader ℕ
number width = do
  bs ← bytes width
  done (value 0 bs)

-- "u64: 8 bytes"
abbrev pub u64 : Reader ℕ
u64 = number 8

-- a text number, and a count of texts or statements
abbrev pub u16 : Reader ℕ
u16 = number 2

-- "Span: start, end, 4 bytes each"
unfoldable pub span : Reader Span
span = do
  a ← number 4
  b ← number 4
  done (record { start = a; end = b })

-- a byte below the number of cases
unfoldable pub case_byte : ℕ → Reader ℕ
case_byte cases = do
  at ← here
  b ← byte
  check (ltb b cases) 4 at
  done b

-- an enum whose cases hold nothing: its first case, and the others
unfoldable pub one_of : {A : Type 0} → A → List A → Reader A
one_of c cs = do
  b ← case_byte (suc (length cs))
  done (get_or (c ∷ cs) b c)

unfoldable pub bool : Reader Bool
bool = one_of false (true ∷ [])

-- "Bool and Option: byte 0 or 1, an Option's value after 1"
unfoldable pub option_case : {A : Type 0} → Reader A → ℕ → Reader (Option A)
option_case p zero = done none
option_case p (suc b) = do
  a ← p
  done (some a)

unfoldable pub option : {A : Type 0} → Reader A → Reader (Option A)
option p = do
  b ← case_byte 2
  option_case p b

-- so many values, one after the other
unfoldable pub repeat : {A B : Type 0} → B → (A → B → B) → Reader A → ℕ → Reader B
repeat nil cons p zero = done nil
repeat nil cons p (suc n) = do
  a ← p
  rest ← repeat nil cons p n
  done (cons a rest)

-- "Vec: one-byte count, at most 16"
unfoldable pub count : Reader ℕ
count = do
  at ← here
  n ← byte
  check (leb n vec_limit) 5 at
  done n

unfoldable pub counted : {A B : Type 0} → B → (A → B → B) → Reader A → Reader B
counted nil cons p = do
  n ← count
  repeat nil cons p n

abbrev pub vec : {A : Type 0} → Reader A → Reader (List A)
vec p = counted [] ◌∷◌ p
