-- The text section as the code goes through it, by its length bytes, and the kind and checksum of each text.
use Rattle.std.specs.Prelude.{◌≡◌, ℕ, zero, suc, ◌+◌, ◌*◌, ◌/◌, ◌%◌, ◌^◌, List, [], ◌∷◌, map, Bool, true, false, not, ◌&&◌, ◌||◌, leb, ltb, length, get_or, take}
use Rattle.ast.specs.Tree.{Text}
use Rattle.tree.specs.Limits.{texts_limit}
use Rattle.tree.specs.Ans.{Reader, ◌>>=◌, ◌>>◌, done, here, check}
use Rattle.tree.specs.Read.{u16}
use Rattle.tree.specs.Texts.{is_name, is_float, text, texts, text_at, past}
use Rattle.tree.specs.Decode.{texts_of}
use Rattle.reading.specs.declared.answers.Read.{Read}
use Rattle.reading.specs.declared.answers.Read.TheVariants.{At}
use Rattle.reading.specs.declared.spelling.Spelling.{Spelling}
use Rattle.reading.specs.declared.spelling.Spelling.TheVariants.{Neither, Name, Float}
use Rattle.reading.specs.Answers.{answer, forget}

-- so many texts from a place on, and the place past them
unfoldable pub texts_from : List ℕ → ℕ → ℕ → List Text
texts_from s zero at = []
texts_from s (suc n) at = text_at s at ∷ texts_from s n (past s at)

unfoldable pub past_texts : List ℕ → ℕ → ℕ → ℕ
past_texts s zero at = at
past_texts s (suc n) at = past_texts s n (past s at)

unfoldable pub kind_by : Bool → Bool → Spelling
kind_by true float = Name
kind_by false true = Float
kind_by false false = Neither

unfoldable pub kind_of : Text → Spelling
kind_of x = kind_by (is_name x) (is_float x)

unfoldable pub of_kind : Spelling → Text → Bool
of_kind Name x = is_name x
of_kind Float x = is_float x
of_kind Neither x = not (is_name x || is_float x)

-- there is a text with the number, and it is spelled so
unfoldable pub has_text : List Text → (Text → Bool) → ℕ → Bool
has_text t spelled n = ltb n (length t) && spelled (get_or t n [])

-- a text, of which the kind is told
unfoldable pub kind_read : Reader Spelling
kind_read = do
  x ← text []
  done (kind_of x)

unfoldable pub kinds_of : List ℕ → List Spelling
kinds_of s = map kind_of (texts_of s)

-- a checksum with a number put in
abbrev pub mix : ℕ → ℕ → ℕ
mix h w = (h * 157 + w) % 2 ^ 48

-- four bytes as one number
abbrev pub four : ℕ → ℕ → ℕ → ℕ → ℕ
four a b c d = a + b * 256 + c * 65536 + d * 16777216

-- a checksum: texts whose checksums differ are different. Four bytes go in at a time, the last ones one by one
unfoldable pub sum_from : ℕ → Text → ℕ
sum_from h [] = h
sum_from h (a ∷ []) = mix h a
sum_from h (a ∷ b ∷ []) = mix (mix h a) b
sum_from h (a ∷ b ∷ c ∷ []) = mix (mix (mix h a) b) c
sum_from h (a ∷ b ∷ c ∷ d ∷ cs) = sum_from (mix h (four a b c d)) cs

unfoldable pub checksum : Text → ℕ
checksum x = sum_from 0 x

-- the slot of a checksum, one of 1,024: of a product's last 32 bits the first ten
abbrev pub slot_of : ℕ → ℕ
slot_of x = (x % 2 ^ 32 + x / 2 ^ 32) % 2 ^ 32 * 2654435769 / 2 ^ 22 % 1024

-- the count of the texts, as `texts` begins
unfoldable pub text_count : Reader ℕ
text_count = do
  at ← here
  n ← u16
  check (leb n texts_limit) 5 at
  done n

-- what reading `n` texts answers, and the kinds that it leaves in the first places
pub record Gathered (s : List ℕ) (kinds : List Spelling) (n : ℕ) (r : Read (Unit {0})) : Type 0 where
  pub told : answer r ≡ forget (texts s 0)
  pub stored : (k : ℕ) → r ≡ At tt k → take n kinds ≡ kinds_of s
  pub long : length kinds ≡ 256
