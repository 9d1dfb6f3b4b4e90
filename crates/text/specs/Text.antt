-- Texts as lists of bytes.
-- Assumes nothing.
use Rattle.std.specs.Prelude.{ℕ, ◌+◌, ◌-◌, ◌/◌, ◌%◌, List, [], ◌∷◌, ◌++◌, Bool, true, false, cond, ◌&&◌, ◌≡◌, refl, take, drop, ltb, eqb}
use Prim.Native.Char.{code}
use Prim.Native.String.{String}
use Prim.Native.String as string

-- a byte that continues a character, with the six bits of n that stand above d
abbrev pub next : ℕ → ℕ → ℕ
next n d = 128 + n / d % 64

-- the character with the number n in UTF-8: one byte, two, three or four
abbrev pub utf8 : ℕ → List ℕ
utf8 n =
    cond (ltb n 128) (n ∷ [])
    (cond (ltb n 2048) ((192 + n / 64) ∷ next n 1 ∷ [])
    (cond (ltb n 65536) ((224 + n / 4096) ∷ next n 64 ∷ next n 1 ∷ [])
    ((240 + n / 262144) ∷ next n 4096 ∷ next n 64 ∷ next n 1 ∷ [])))

-- a quoted text, its characters in UTF-8
abbrev pub text : String → List ℕ
text string.[] = []
text (string.◌∷◌ c s) = utf8 (code c) ++ text s

-- texts, one after the other
abbrev pub concat : List (List ℕ) → List ℕ
concat [] = []
concat (t ∷ ts) = t ++ concat ts

-- what stands from a up to e
abbrev pub part : ℕ → ℕ → List ℕ → List ℕ
part a e l = take (e - a) (drop a l)

-- two texts have the same bytes
abbrev pub same : List ℕ → List ℕ → Bool
same [] [] = true
same [] (y ∷ ys) = false
same (x ∷ xs) [] = false
same (x ∷ xs) (y ∷ ys) = eqb x y && same xs ys

plain : text "h q;\n" ≡ 104 ∷ 32 ∷ 113 ∷ 59 ∷ 10 ∷ []
plain = refl

long_dash : text "—" ≡ 226 ∷ 128 ∷ 148 ∷ []
long_dash = refl

joined : concat (text "q" ∷ text "[0]" ∷ []) ≡ text "q[0]"
joined = refl

within : part 1 3 (text "q[0]") ≡ text "[0"
within = refl

past : part 2 9 (text "q[0]") ≡ text "0]"
past = refl

backward : part 3 1 (text "q[0]") ≡ []
backward = refl
