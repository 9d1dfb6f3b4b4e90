-- Whether a text is among the earlier ones: a law for each way out of the code. Assumes nothing.
use Rattle.std.proofs.Common.{◌≡◌, refl, sym, ◌∙◌, ℕ, zero, suc, ◌+◌, ◌<◌, ◌≤◌, List, [], ◌∷◌, ◌++◌, map, length, get_or, drop, Bool, true, false, ◌&&◌, ◌||◌, eqb, arith, add-one}
use Rattle.std.specs.List.{list_any, fold, zip}
use mathlib.Core.Bool.{and-true, and_assoc, or-false, or_assoc}
use borrow.Author.Tests.{ne_eqb, eqb-true, eqb-false}
use lib.Seq.{drop-cons}
use Rattle.text.specs.Text.{same}
use Rattle.ast.specs.Tree.{Text}
use Rattle.tree.specs.Texts.{among, text_at, past}
use Rattle.reading.specs.Section.{texts_from, past_texts, checksum}

-- texts of which something differs are different
texts-differ : (f : Text → ℕ) (x y : Text) → (f x ≡ f y → ⊥) → false ≡ same x y
texts-differ f [] [] d = absurd (d refl)
texts-differ f [] (b ∷ y) d = refl
texts-differ f (a ∷ x) [] d = refl
texts-differ f (a ∷ x) (b ∷ y) d = go (eqb a b) refl (texts-differ (λ z. f (a ∷ z)) x y)
  where
    go : (e : Bool) → eqb a b ≡ e → ((f (a ∷ x) ≡ f (a ∷ y) → ⊥) → false ≡ same x y) → false ≡ (e && same x y)
    go false e g = refl
    go true e g = g (λ h. d (h ∙ rw (eqb-true a b e) refl))

pub length_differs : (x y : Text) → (length x ≡ length y → ⊥) → eqb (length x) (length y) ≡ same x y
length_differs x y d = ne_eqb (length x) (length y) d ∙ texts-differ length x y d

-- a test of every byte beside its fellow, one after the other
abbrev pub alike : Bool → ℕ × ℕ → Bool
alike good p = good && eqb p.0 p.1

pub fold_same : (good : Bool) (x y : Text) → length x ≡ length y → fold alike good (zip x y) ≡ (good && same x y)
fold_same good [] [] e = sym (and-true good)
fold_same good [] (b ∷ y) e = absurd (omega arith)
fold_same good (a ∷ x) [] e = absurd (omega arith)
fold_same good (a ∷ x) (b ∷ y) e = fold_same (good && eqb a b) x y (omega arith) ∙ and_assoc good (eqb a b) (same x y)

pub text-other : (x y : Text) (sum other : ℕ) → sum ≡ checksum x → other ≡ checksum y → (sum ≡ other → ⊥) → eqb sum other ≡ same x y
text-other x y sum other e f d = ne_eqb sum other d ∙ texts-differ checksum x y (λ g. d (e ∙ g ∙ sym f))

-- a checksum among others
abbrev pub has_sum : ℕ → List ℕ → Bool
has_sum sum sums = list_any (λ other. eqb other sum) sums

-- a test of every checksum, one after the other
pub fold_any : (sum : ℕ) (found : Bool) (sums : List ℕ) → fold (λ g other. g || eqb other sum) found sums ≡ (found || has_sum sum sums)
fold_any sum found [] = sym (or-false found)
fold_any sum found (y ∷ ys) = fold_any sum (found || eqb y sum) ys ∙ or_assoc found (eqb y sum) (has_sum sum ys)

-- a text whose checksum is among no others is not among their texts
pub no_sum : (x : Text) (ts : List Text) → has_sum (checksum x) (map checksum ts) ≡ false → false ≡ among x ts
unfolding among
no_sum x [] e = refl
no_sum x (t ∷ ts) e = go (eqb (checksum t) (checksum x)) refl (no_sum x ts) e
  where
    go : (b : Bool) → eqb (checksum t) (checksum x) ≡ b → (has_sum (checksum x) (map checksum ts) ≡ false → false ≡ among x ts) → (b || has_sum (checksum x) (map checksum ts)) ≡ false → false ≡ (same x t || among x ts)
    go true f rest h = absurd cc
    go false f rest h = rw (← texts-differ checksum x t (λ g. eqb-false (checksum t) (checksum x) f (sym g))) (rest h)

pub not_repeated : (s : List ℕ) (x : Text) (n : ℕ) (sums : List ℕ) (sum : ℕ) → sums ≡ map checksum (texts_from s n 2) → sum ≡ checksum x → has_sum sum sums ≡ false → false ≡ among x (texts_from s n 2)
not_repeated s x n sums sum e f g = no_sum x (texts_from s n 2) (rw (← e, ← f) g)

-- one checksum more
pub sum-last : (x y : ℕ) (sums : List ℕ) → (y ≡ x → ⊥) → has_sum x sums ≡ false → has_sum x (sums ++ (y ∷ [])) ≡ false
sum-last x y [] d h = rw (ne_eqb y x d)
sum-last x y (z ∷ sums) d h = go (eqb z x) (sum-last x y sums d) h
  where
    go : (b : Bool) → (has_sum x sums ≡ false → has_sum x (sums ++ (y ∷ [])) ≡ false) → (b || has_sum x sums) ≡ false → (b || has_sum x (sums ++ (y ∷ []))) ≡ false
    go true rest h = absurd cc
    go false rest h = rest h

past-grows : (s : List ℕ) (n k : ℕ) → k ≤ past_texts s n k
unfolding past_texts
past-grows s zero k = omega arith
past-grows s (suc n) k = omega (arith, past-grows s n (past s k))

-- while texts are compared: those from `k` on remain, whose checksums are `rest`
pub record Looking (s : List ℕ) (x : Text) (sums : List ℕ) (k : ℕ) (rest : List ℕ) : Type 0 where
  pub within : past_texts s (length rest) k ≤ length s
  pub summed : rest ≡ map checksum (texts_from s (length rest) k)
  pub remain : among x (texts_from s (length sums) 2) ≡ among x (texts_from s (length rest) k)

module _ (s : List ℕ) (x : Text) (sums : List ℕ) (k i : ℕ) (looking : Looking s x sums k (drop i sums)) where
  module _ (h : i < length sums) where
    next : Looking s x sums k (get_or sums i 0 ∷ drop (i + 1) sums)
    next = let e : drop i sums ≡ get_or sums i 0 ∷ drop (i + 1) sums = rw add-one (drop-cons sums i 0 h) in rw e at looking

    pub looking-within : past s k ≤ length s
    unfolding past_texts
    looking-within = omega (arith, next.within, past-grows s (length (drop (i + 1) sums)) (past s k))

    pub looking-sum : get_or sums i 0 ≡ checksum (text_at s k)
    unfolding texts_from
    looking-sum = let e = next.summed in cc

    module _ (r : Bool) (g : r ≡ same x (text_at s k)) where
      pub looking-here : r ≡ true → true ≡ among x (texts_from s (length sums) 2)
      unfolding texts_from among
      looking-here t = sym (next.remain ∙ rw (← g, t) refl)

      pub looking-more : r ≡ false → (m : ℕ) → m ≡ past s k → Looking s x sums m (drop (i + 1) sums)
      unfolding texts_from past_texts among
      looking-more t m f = rw f (record { within = next.within; summed = (let e = next.summed in cc); remain = next.remain ∙ rw (← g, t) refl })

pub ruleset same_texts = (length_differs, text-other)

pub ruleset repeated = (not_repeated, looking-within, looking-sum, looking-here)
