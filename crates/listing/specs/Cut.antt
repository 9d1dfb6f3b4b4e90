-- A listing cut into its lines at byte 10, and that this gives its lines back: no line holds byte 10 where no text does.
use Rattle.std.specs.Prelude.{ℕ, zero, suc, ◌+◌, ◌/◌, ◌%◌, ◌≡◌, refl, List, [], ◌∷◌, ◌++◌, Bool, true, false, ◌&&◌, not, eqb}
use Rattle.std.proofs.Common.{sym, ap, ◌∙◌, append_assoc, append-nil, arith, ne_eqb}
use Rattle.std.proofs.Math.Decide.{ℕ_discrete}
use Rattle.std.proofs.lemmas.Bool.{eqb-false}
use Rattle.text.specs.Text.{concat}
use Rattle.text.specs.Decimal.{front, decimal}
use Rattle.listing.specs.Listing.{ended}

-- what is cut at byte 10; w is what the line at hand has so far
abbrev pub cut_at : {x : ℕ} → Dec (x ≡ 10) → List ℕ → (List ℕ → List (List ℕ)) → List (List ℕ)
cut_at (yes e) w k = w ∷ k []
cut_at {x} (no e) w k = k (w ++ (x ∷ []))

unfoldable pub cut : List ℕ → List ℕ → List (List ℕ)
cut [] w = []
cut (x ∷ s) w = cut_at (ℕ_discrete x 10) w (cut s)

-- the lines of a text, each ended by byte 10
abbrev pub lines_of : List ℕ → List (List ℕ)
lines_of s = cut s []

-- no byte 10: tested by computing where a text is written out
unfoldable pub no10 : List ℕ → Bool
no10 [] = true
no10 (x ∷ s) = not (eqb x 10) && no10 s

pub record Clean (s : List ℕ) : Type 0 where
  pub clean : no10 s ≡ true

abbrev pub AllClean : List (List ℕ) → Type 0
AllClean [] = Unit {0}
AllClean (l ∷ ls) = Clean l × AllClean ls

abbrev pub word : {s : List ℕ} → no10 s ≡ true → Clean s
word e = record { clean = e }

first : (x : ℕ) (s : List ℕ) → Clean (x ∷ s) → x ≡ 10 → ⊥
unfolding no10
first x s h = go (eqb x 10) refl h.clean
  where
    go : (b : Bool) → eqb x 10 ≡ b → not b && no10 s ≡ true → x ≡ 10 → ⊥
    go true f g = λ e. let z : false ≡ true = g in absurd (let w : ◌≡◌ {A = ℕ} 0 1 = cc in omega arith)
    go false f g = eqb-false x 10 f

rest : (x : ℕ) (s : List ℕ) → Clean (x ∷ s) → Clean s
unfolding no10
rest x s h = go (not (eqb x 10)) h.clean
  where
    go : (b : Bool) → b && no10 s ≡ true → Clean s
    go true g = word g
    go false g = absurd (let w : ◌≡◌ {A = ℕ} 0 1 = cc in omega arith)

pub other_byte : (x : ℕ) (s : List ℕ) → (x ≡ 10 → ⊥) → Clean s → Clean (x ∷ s)
unfolding no10
other_byte x s n h = word (rw (ne_eqb x 10 n) h.clean)

cut_no : {x : ℕ} (d : Dec (x ≡ 10)) (w : List ℕ) (k : List ℕ → List (List ℕ)) → (x ≡ 10 → ⊥) → cut_at d w k ≡ k (w ++ (x ∷ []))
cut_no (yes e) w k h = absurd (h e)
cut_no (no e) w k h = refl

cut-yes : (d : Dec (◌≡◌ {A = ℕ} 10 10)) (w : List ℕ) (k : List ℕ → List (List ℕ)) → cut_at d w k ≡ w ∷ k []
cut-yes (yes e) w k = refl
cut-yes (no e) w k = absurd (e refl)

line-out : (l : List ℕ) → Clean l → (s w : List ℕ) → cut (l ++ (10 ∷ s)) w ≡ (w ++ l) ∷ cut s []
unfolding cut
line-out [] h s w = cut-yes (ℕ_discrete 10 10) w (cut s) ∙ ap (λ (v : List ℕ). v ∷ cut s []) (sym (append-nil w))
line-out (x ∷ l) h s w =
    cut_no (ℕ_discrete x 10) w (cut (l ++ (10 ∷ s))) (first x l h)
    ∙ (line-out l (rest x l h) s (w ++ (x ∷ [])) ∙ ap (λ (v : List ℕ). v ∷ cut s []) (append_assoc w (x ∷ []) l))

pub cut-ended : (ls : List (List ℕ)) → AllClean ls → lines_of (ended ls) ≡ ls
unfolding cut ended
cut-ended [] h = refl
cut-ended (l ∷ ls) h = line-out l h.0 (ended ls) [] ∙ ap (λ (k : List (List ℕ)). l ∷ k) (cut-ended ls h.1)

-- parts without byte 10
pub clean-append : (a b : List ℕ) → Clean a → Clean b → Clean (a ++ b)
clean-append [] b h g = g
clean-append (x ∷ a) b h g = other_byte x (a ++ b) (first x a h) (clean-append a b (rest x a h) g)

pub clean-concat : (ls : List (List ℕ)) → AllClean ls → Clean (concat ls)
unfolding no10
clean-concat [] h = word refl
clean-concat (l ∷ ls) h = clean-append l (concat ls) h.0 (clean-concat ls h.1)

-- decimal digits
digit : (n : ℕ) → Clean ((48 + n % 10) ∷ [])
unfolding no10
digit n = other_byte (48 + n % 10) [] (λ e. omega arith) (word refl)

clean-front : (bound n : ℕ) → Clean (front bound n)
unfolding front no10
clean-front zero n = word refl
clean-front (suc bound) zero = word refl
clean-front (suc bound) (suc n) = clean-append (front bound (suc n / 10)) _ (clean-front bound (suc n / 10)) (digit (suc n))

pub clean-decimal : (n : ℕ) → Clean (decimal n)
unfolding decimal
clean-decimal n = clean-append (front (n / 10) (n / 10)) _ (clean-front (n / 10) (n / 10)) (digit n)
