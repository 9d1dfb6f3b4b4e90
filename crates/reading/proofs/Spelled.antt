-- How texts are spelled. Assumes nothing.
use Rattle.std.proofs.Common.{◌≡◌, refl, sym, ap, ◌∙◌, ℕ, suc, ◌+◌, ◌-◌, [], ◌∷◌, length, get_or, take, drop, Bool, true, false, not, ◌&&◌, ◌||◌, cond, eqb, ltb, arith, Some, None}
use Rattle.std.proofs.lemmas.Bool.Decides.{nat_tests}
use Rattle.std.specs.List.{fold, position, prefix_len}
use mathlib.Core.Bool.{and-true, and_assoc, or-false}
use borrow.Author.Tests.{ne_eqb, eq-eqb, lt-ltb}
use Rattle.text.proofs.Clamp.{rest_of}
use Rattle.ast.specs.Tree.{Text}
use Rattle.tree.specs.Texts.{letter, digit, every, digits, fraction, is_name}

-- a test of every byte, one after the other
pub fold_every : (p : ℕ → Bool) (good : Bool) (x : Text) → fold (λ g c. g && p c) good x ≡ (good && every p x)
unfolding every
fold_every p good [] = sym (and-true good)
fold_every p good (c ∷ cs) = fold_every p (good && p c) cs ∙ and_assoc good (p c) (every p cs)

pub digits_some : (x : Text) → (length x ≡ 0 → ⊥) → digits x ≡ every (λ c. digit c) x
unfolding digits every
digits_some [] h = absurd (h refl)
digits_some (c ∷ cs) h = refl

pub name_some : (x : Text) → (length x ≡ 0 → ⊥) → is_name x ≡ (letter (get_or x 0 0) && every (λ c. letter c || digit c) x)
unfolding is_name every
name_some [] h = absurd (h refl)
name_some (c ∷ cs) h = go (letter c)
  where
    go : (b : Bool) → (b && every (λ d. letter d || digit d) cs) ≡ (b && ((b || digit c) && every (λ d. letter d || digit d) cs))
    go true = refl
    go false = refl

-- the first byte that is no digit decides
abbrev end : Text → ℕ
end x = prefix_len (λ c. not (not (digit c))) x

pub ltb_suc : (m n : ℕ) → ltb (suc m) (suc n) ≡ ltb m n
ltb_suc m n = grind (arith, nat_tests)

no_point : (c : ℕ) → digit c ≡ true → eqb c 46 ≡ false
unfolding digit
no_point c h = ne_eqb c 46 (λ e. let z : digit 46 ≡ true = rw e at h in absurd cc)

fraction_by : (x : Text) → fraction x ≡ cond (ltb (end x) (length x)) (eqb (get_or x (end x) 0) 46 && digits (drop (end x + 1) x)) false
unfolding fraction
fraction_by [] = refl
fraction_by (c ∷ cs) = go (digit c) refl (fraction_by cs)
  where
    here : ℕ → Bool
    here n = cond (ltb n (length (c ∷ cs))) (eqb (get_or (c ∷ cs) n 0) 46 && digits (drop (n + 1) (c ∷ cs))) false

    there : (n m : ℕ) → n ≡ suc m → here n ≡ cond (ltb m (length cs)) (eqb (get_or cs m 0) 46 && digits (drop (m + 1) cs)) false
    there n m e = let y : suc m + 1 ≡ suc (suc m) = omega arith in let z : m + 1 ≡ suc m = omega arith in rw (e, y, z, ltb_suc m (length cs))

    go : (b : Bool) → digit c ≡ b → fraction cs ≡ cond (ltb (end cs) (length cs)) (eqb (get_or cs (end cs) 0) 46 && digits (drop (end cs + 1) cs)) false
        → ((b && fraction cs) || (eqb c 46 && digits cs)) ≡ here (cond (not (not b)) (1 + end cs) 0)
    go false e h = let z : ltb 0 (suc (length cs)) ≡ true = lt-ltb 0 _ (omega arith) in rw z
    go true e h = rw (no_point c e, or-false) (h ∙ sym (there (1 + end cs) (end cs) (omega arith)))

-- what the code found, and a test of what stands behind it
module _ (x : Text) (i : ℕ) (e : Some i ≡ position (λ c. not (digit c)) x) where
  fraction_at : fraction x ≡ (eqb (get_or x i 0) 46 && digits (drop (i + 1) x))
  fraction_at = fraction_by x ∙ go (ltb (end x) (length x)) e
    where
      go : (b : Bool) → Some i ≡ cond b (Some (end x)) None → cond b (eqb (get_or x (end x) 0) 46 && digits (drop (end x + 1) x)) false ≡ (eqb (get_or x i 0) 46 && digits (drop (i + 1) x))
      go true e = let z : i ≡ end x = cc in rw z
      go false e = absurd cc

  pub fraction_point : get_or x i 0 ≡ 46 → (r : Bool) → r ≡ digits (take (length x - (i + 1)) (drop (i + 1) x)) → r ≡ fraction x
  fraction_point h r f = f ∙ ap digits (rest_of x (i + 1) (length x) (omega arith)) ∙ sym (fraction_at ∙ rw (eq-eqb (get_or x i 0) 46 h) refl)

  pub fraction_stop : (get_or x i 0 ≡ 46 → ⊥) → eqb (get_or x i 0) 46 ≡ fraction x
  fraction_stop h = sym (fraction_at ∙ rw (ne_eqb (get_or x i 0) 46 h) refl)

pub fraction_none : (x : Text) → None ≡ position (λ c. not (digit c)) x → fraction x ≡ false
fraction_none x e = fraction_by x ∙ go (ltb (end x) (length x)) e
  where
    go : (b : Bool) → None ≡ cond b (Some (end x)) None → cond b (eqb (get_or x (end x) 0) 46 && digits (drop (end x + 1) x)) false ≡ false
    go true e = absurd cc
    go false e = refl

pub ruleset spelled = (digits_some, name_some, fraction_none, fraction_stop)
