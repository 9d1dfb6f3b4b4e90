-- A name of a known length, letter by letter, beside the gates of that length. Assumes nothing.
use Rattle.std.proofs.Common.{◌≡◌, ℕ, zero, suc, ◌+◌, ◌<◌, List, [], ◌∷◌, ◌++◌, ◌≤◌, take, set, Bool, true, false, cond, ◌&&◌, map, length, get_or, drop, eqb, None, refl, ap, sym, ◌∙◌, arith}
use borrow.Author.Tests.{eq-eqb, ne_eqb, eqb-false}
use Rattle.std.proofs.Math.ListN.{length-map, length-set}
use Rattle.std.specs.Char.{to_ascii_lowercase}
use Rattle.std.proofs.lemmas.Bool.Decides.{nat_tests}
use Rattle.std.proofs.Math.Seq.{drop-cons, drop-length, take-suc, take-length}
use Rattle.std.proofs.lemmas.List.{take_more_set, map-append}
use Rattle.text.specs.Text.{same}
use Rattle.text.proofs.Same.{same-eq}
use Rattle.gates.specs.Gates.{Gate, lower, gates, lookup, signature_of}

-- k letters from i on
abbrev pub letters : ℕ → ℕ → List ℕ → List ℕ
letters i zero n = []
letters i (suc k) n = get_or n i 0 ∷ letters (suc i) k n

spelled : (i k : ℕ) (n : List ℕ) → length n ≡ i + k → drop i n ≡ letters i k n
spelled i zero n h = let e : i ≡ length n = omega arith in rw e (drop-length n)
spelled i (suc k) n h =
    let l : i < length n = omega arith in
    rw (drop-cons n i 0) (ap (λ (x : List ℕ). get_or n i 0 ∷ x) (spelled (suc i) k n (omega arith)))

-- the gates whose names have k letters
abbrev pub sized : ℕ → List Gate → List Gate
sized k [] = []
sized k (g ∷ gs) = cond (eqb (length g.name) k) (g ∷ sized k gs) (sized k gs)

unlike : (x y : List ℕ) → (length y ≡ length x → ⊥) → same x y ≡ false
unlike x y h = go (same x y) refl
  where
    go : (b : Bool) → same x y ≡ b → b ≡ false
    go true e = absurd (h (ap length (rw (same-eq x y e))))
    go false e = refl

lookup_sized : (n : List ℕ) (gs : List Gate) → lookup n gs ≡ lookup n (sized (length n) gs)
unfolding lookup
lookup_sized n [] = refl
lookup_sized n (g ∷ gs) = go (eqb (length g.name) (length n)) refl (lookup_sized n gs)
  where
    go : (b : Bool) → eqb (length g.name) (length n) ≡ b → lookup n gs ≡ lookup n (sized (length n) gs) → lookup n (g ∷ gs) ≡ lookup n (cond b (g ∷ sized (length n) gs) (sized (length n) gs))
    go true e r = rw r
    go false e r = rw (unlike n g.name (eqb-false (length g.name) (length n) e)) r

by_letters : (k : ℕ) (n : List ℕ) → length n ≡ k → signature_of n ≡ lookup (letters 0 k n) (sized k gates)
unfolding signature_of
by_letters k n h = lookup_sized n gates ∙ rw (h, ← spelled 0 k n (omega arith))

pub one_letter : (n : List ℕ) → length n ≡ 1 → signature_of n ≡ lookup (letters 0 1 n) (sized 1 gates)
one_letter = by_letters 1

pub two_letters : (n : List ℕ) → length n ≡ 2 → signature_of n ≡ lookup (letters 0 2 n) (sized 2 gates)
two_letters = by_letters 2

pub three_letters : (n : List ℕ) → length n ≡ 3 → signature_of n ≡ lookup (letters 0 3 n) (sized 3 gates)
three_letters = by_letters 3

pub four_letters : (n : List ℕ) → length n ≡ 4 → signature_of n ≡ lookup (letters 0 4 n) (sized 4 gates)
four_letters = by_letters 4

pub five_letters : (n : List ℕ) → length n ≡ 5 → signature_of n ≡ lookup (letters 0 5 n) (sized 5 gates)
five_letters = by_letters 5

pub six_letters : (n : List ℕ) → length n ≡ 6 → signature_of n ≡ lookup (letters 0 6 n) (sized 6 gates)
six_letters = by_letters 6

pub no_letter : (n : List ℕ) → length n ≡ 0 → signature_of n ≡ None
unfolding gates lookup
no_letter n h = by_letters 0 n h

-- no gate has more letters
and_false : (b : Bool) → (b && false) ≡ false
and_false true = refl
and_false false = refl

pub long : (n : List ℕ) → 6 < length n → signature_of n ≡ None
unfolding signature_of lookup gates
long [] h = absurd (omega arith)
long (a ∷ []) h = absurd (omega arith)
long (a ∷ b ∷ []) h = absurd (omega arith)
long (a ∷ b ∷ c ∷ []) h = absurd (omega arith)
long (a ∷ b ∷ c ∷ d ∷ []) h = absurd (omega arith)
long (a ∷ b ∷ c ∷ d ∷ e ∷ []) h = absurd (omega arith)
long (a ∷ b ∷ c ∷ d ∷ e ∷ f ∷ []) h = absurd (omega arith)
long (a ∷ b ∷ c ∷ d ∷ e ∷ f ∷ g ∷ n) h = simp and_false

pub ruleset names = (no_letter, one_letter, two_letters, three_letters, four_letters, five_letters, six_letters, long, eq-eqb, ne_eqb)

-- std's lower case of ASCII
lower_is : (b : ℕ) → to_ascii_lowercase b ≡ lower b
unfolding lower
lower_is b = grind (arith, nat_tests)

pub lowered_is : (b r : ℕ) → r ≡ to_ascii_lowercase b → r ≡ lower b
lowered_is b r e = e ∙ lower_is b

pub long_lowered : (n : List ℕ) → 6 < length n → signature_of (map lower n) ≡ None
long_lowered n h = long (map lower n) (simp length-map h)

-- the first i letters of a name lowered into l
pub record Lowering (n l : List ℕ) (i : ℕ) : Type 0 where
  pub size : length l ≡ length n
  pub same : take i l ≡ map lower (take i n)

pub lowering_start : (n l : List ℕ) → length l ≡ length n → Lowering n l 0
lowering_start n l h = record { size = h; same = refl }

pub lowering_more : (n l : List ℕ) (i : ℕ) → Lowering n l i → i < length n → Lowering n (set l i (lower (get_or n i 0))) (i + 1)
lowering_more n l i w h =
    let v = lower (get_or n i 0) in
    record {
      size = length-set l i v ∙ w.size;
      same =
          take_more_set l i v (omega (arith, w.size))
          ∙ ap (λ (x : List ℕ). x ++ v ∷ []) w.same
          ∙ sym (map-append lower (take i n) (get_or n i 0 ∷ []))
          ∙ ap (map lower) (let e : i + 1 ≡ suc i = omega arith in rw e (sym (take-suc n i 0 h)));
    }

pub lowering_end : (n l : List ℕ) (i : ℕ) → Lowering n l i → i ≤ length n → length n ≤ i → l ≡ map lower n
lowering_end n l i w g h =
    let e : i ≡ length n = omega arith in
    let f : i ≡ length l = omega (arith, w.size) in
    sym (rw f (take-length l)) ∙ w.same ∙ rw e (ap (map lower) (take-length n))
