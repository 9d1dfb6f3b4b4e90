-- The texts of a file, and how names and float literals are spelled.
use Rattle.std.specs.Prelude.{ℕ, zero, suc, ◌+◌, List, [], ◌∷◌, ◌++◌, Bool, true, false, not, ◌&&◌, ◌||◌, leb, eqb, get_or, take, drop}
use Rattle.text.specs.Text.{same}
use Rattle.ast.specs.Tree.{Text}
use Rattle.tree.specs.Limits.{texts_limit, text_limit}
use Rattle.tree.specs.Ans.{Reader, ◌>>=◌, ◌>>◌, done, here, check}
use Rattle.tree.specs.Read.{byte, bytes, u16}

abbrev pub between : ℕ → ℕ → ℕ → Bool
between low high c = leb low c && leb c high

-- "then bytes 33 to 126": the first that is none is refused at its place
unfoldable pub allowed : List ℕ → ℕ → Reader (Unit {0})
allowed [] place = done tt
allowed (c ∷ cs) place = do
  check (between 33 126 c) 4 place
  allowed cs (place + 1)

-- the bytes of the text whose length byte is at a place, and the place past them
abbrev pub text_at : List ℕ → ℕ → Text
text_at s at = take (get_or s at 0) (drop (at + 1) s)

abbrev pub past : List ℕ → ℕ → ℕ
past s at = at + 1 + get_or s at 0

unfoldable pub among : Text → List Text → Bool
among x [] = false
among x (y ∷ ys) = same x y || among x ys

-- "A text is a length byte 1 to 64, then bytes 33 to 126. No two are equal."
unfoldable pub text : List Text → Reader Text
text earlier = do
  at ← here
  n ← byte
  check (between 1 text_limit n) 4 at
  start ← here
  cs ← bytes n
  allowed cs start
  check (not (among cs earlier)) 4 at
  done cs

-- so many texts more, each put behind those before it
unfoldable pub more_texts : ℕ → List Text → Reader (List Text)
more_texts zero earlier = done earlier
more_texts (suc n) earlier = do
  x ← text earlier
  more_texts n (earlier ++ (x ∷ []))

-- "each after a two-byte count: texts (at most 256)"
unfoldable pub texts : Reader (List Text)
texts = do
  at ← here
  n ← u16
  check (leb n texts_limit) 5 at
  more_texts n []

-- letter or underscore
unfoldable pub letter : ℕ → Bool
letter c = between 65 90 c || between 97 122 c || eqb c 95

unfoldable pub digit : ℕ → Bool
digit c = between 48 57 c

unfoldable pub every : (ℕ → Bool) → List ℕ → Bool
every p [] = true
every p (c ∷ cs) = p c && every p cs

-- one or more digits
unfoldable pub digits : Text → Bool
digits [] = false
digits (c ∷ cs) = digit c && every digit cs

-- "A name is letter or underscore, then letters, digits, underscores."
unfoldable pub is_name : Text → Bool
is_name [] = false
is_name (c ∷ cs) = letter c && every (λ d. letter d || digit d) cs

-- after a digit: more digits or none, then the point, then one or more digits
unfoldable pub fraction : Text → Bool
fraction [] = false
fraction (c ∷ cs) = (digit c && fraction cs) || (eqb c 46 && digits cs)

-- "one or more digits, a point, one or more digits"
unfoldable pub is_float : Text → Bool
is_float [] = false
is_float (c ∷ cs) = digit c && fraction cs

-- "A path may be any text."
unfoldable pub is_path : Text → Bool
is_path cs = true
