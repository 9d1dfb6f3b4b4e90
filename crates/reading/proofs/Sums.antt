-- The checksum of a text: what remains decides. Assumes nothing.
use Rattle.std.proofs.Common.{◌≡◌, refl, sym, ◌∙◌, ℕ, suc, ◌+◌, ◌*◌, ◌^◌, ◌<◌, ◌≤◌, [], ◌∷◌, length, get_or, take, drop, arith, w32, add-one}
use Rattle.std.specs.Int.{from_le_bytes}
use native.Mathlib.Nat.{mod-lt}
use lib.Seq.{drop-cons}
use lib.ListN.{length-drop, drop_of_length-le}
use Rattle.ast.specs.Tree.{Text}
use Rattle.reading.specs.Section.{mix, four, sum_from, checksum}

-- `rest` remains, and `h` is the checksum of what stands before it
pub record Summing (x : Text) (h : ℕ) (rest : Text) : Type 0 where
  pub low : h < 2 ^ 48
  pub left : checksum x ≡ sum_from h rest

pub summing_start : (x : Text) → Summing x 0 x
unfolding checksum
summing_start x = record { low = omega arith; left = refl }

mix-low : (h w r : ℕ) → r ≡ mix h w → r < 2 ^ 48
mix-low h w r e = rw e (mod-lt (h * 157 + w) (omega arith))

-- the number of four of the bytes
abbrev word : Text → ℕ → ℕ
word x i = from_le_bytes w32 (get_or x i 0 ∷ get_or x (i + 1) 0 ∷ get_or x (i + 2) 0 ∷ get_or x (i + 3) 0 ∷ [])

sum_eight : (h : ℕ) (x : Text) → 8 ≤ length x → sum_from h x ≡ sum_from (mix (mix h (word (take 8 x) 0)) (word (take 8 x) 4)) (drop 8 x)
unfolding sum_from
sum_eight h (a ∷ b ∷ c ∷ d ∷ e ∷ f ∷ g ∷ i ∷ x) l = refl
sum_eight h (a ∷ b ∷ c ∷ d ∷ e ∷ f ∷ g ∷ []) l = absurd (omega arith)
sum_eight h (a ∷ b ∷ c ∷ d ∷ e ∷ f ∷ []) l = absurd (omega arith)
sum_eight h (a ∷ b ∷ c ∷ d ∷ e ∷ []) l = absurd (omega arith)
sum_eight h (a ∷ b ∷ c ∷ d ∷ []) l = absurd (omega arith)
sum_eight h (a ∷ b ∷ c ∷ []) l = absurd (omega arith)
sum_eight h (a ∷ b ∷ []) l = absurd (omega arith)
sum_eight h (a ∷ []) l = absurd (omega arith)
sum_eight h [] l = absurd (omega arith)

sum_four : (h : ℕ) (x : Text) → 4 ≤ length x → sum_from h x ≡ sum_from (mix h (from_le_bytes w32 (take 4 x))) (drop 4 x)
unfolding sum_from
sum_four h (a ∷ b ∷ c ∷ d ∷ x) l = refl
sum_four h (a ∷ b ∷ c ∷ []) l = absurd (omega arith)
sum_four h (a ∷ b ∷ []) l = absurd (omega arith)
sum_four h (a ∷ []) l = absurd (omega arith)
sum_four h [] l = absurd (omega arith)

sum_one : (h a : ℕ) (cs : Text) → length cs < 3 → sum_from h (a ∷ cs) ≡ sum_from (mix h a) cs
unfolding sum_from
sum_one h a [] l = refl
sum_one h a (b ∷ []) l = refl
sum_one h a (b ∷ c ∷ []) l = refl
sum_one h a (b ∷ c ∷ d ∷ cs) l = absurd (omega arith)

module _ (x : Text) (h : ℕ) (rest : Text) (summing : Summing x h rest) where
  pub summing_eight : (eight tail : Text) → eight ≡ take 8 rest → tail ≡ drop 8 rest → 8 ≤ length rest → (v w r : ℕ) → v ≡ word eight 0 → w ≡ word eight 4 → r ≡ mix (mix h v) w → Summing x r tail
  summing_eight eight tail e f l v w r i j g = record {
    low = mix-low (mix h v) w r g;
    left = summing.left ∙ sum_eight h rest l ∙ rw (g, i, j, e, f) refl;
  }

  pub summing-four : (four tail : Text) → four ≡ take 4 rest → tail ≡ drop 4 rest → 4 ≤ length rest → (v r : ℕ) → v ≡ from_le_bytes w32 four → r ≡ mix h v → Summing x r tail
  summing-four four tail e f l v r i g = record { low = mix-low h v r g; left = summing.left ∙ sum_four h rest l ∙ rw (g, i, e, f) refl }

pub summing-one : (x : Text) (h : ℕ) (rest : Text) (i : ℕ) → Summing x h (drop i rest) → length rest < 4 → i < length rest → (b r : ℕ) → b ≡ get_or rest i 0 → r ≡ mix h b → Summing x r (drop (i + 1) rest)
summing-one x h rest i summing s l b r e f = record {
  low = mix-low h b r f;
  left = summing.left ∙ rw (drop-cons rest i 0 l, f, e, add-one) (sum_one h (get_or rest i 0) (drop (suc i) rest) (omega (arith, length-drop (suc i) rest)));
}

pub summing-end : (x : Text) (h : ℕ) (rest : Text) (i : ℕ) → Summing x h (drop i rest) → length rest ≤ i → h ≡ checksum x
unfolding sum_from
summing-end x h rest i summing l = sym (summing.left ∙ rw (drop_of_length-le rest l) refl)

pub ruleset sums = (summing_start, summing_eight, summing-four, summing-one, summing-end)
