-- Lines tell their fields apart: a decimal number shows its number, and fields before a space show themselves.
use Rattle.std.specs.Prelude.{ℕ, zero, suc, ◌+◌, ◌*◌, ◌/◌, ◌%◌, ◌≤◌, ◌<◌, ◌-◌, ◌≡◌, refl, List, [], ◌∷◌, ◌++◌}
use Rattle.std.proofs.Common.{sym, ap, ◌∙◌, arith}
use Rattle.std.proofs.Math.Nat.{div-lt_self}
use Rattle.text.specs.Decimal.{front, decimal}
use Rattle.span.specs.declared.Span.{Span}
use Rattle.listing.specs.Listing.{spaced, span_line}

-- the number that digits show, after those of high
unfoldable pub shown : ℕ → List ℕ → ℕ
shown high [] = high
shown high (c ∷ cs) = shown (high * 10 + (c - 48)) cs

shown-append : (high : ℕ) (a : List ℕ) (c : ℕ) → shown high (a ++ (c ∷ [])) ≡ shown high a * 10 + (c - 48)
unfolding shown
shown-append high [] c = refl
shown-append high (x ∷ a) c = shown-append (high * 10 + (x - 48)) a c

front-shown : (bound n : ℕ) → n ≤ bound → shown 0 (front bound n) ≡ n
unfolding shown front
front-shown zero zero h = refl
front-shown zero (suc n) h = absurd (omega arith)
front-shown (suc bound) zero h = refl
front-shown (suc bound) (suc n) h =
    let l : suc n / 10 < suc n = div-lt_self (omega arith) (omega arith) in
    let e : shown 0 (front bound (suc n / 10)) ≡ suc n / 10 = front-shown bound (suc n / 10) (omega arith) in
    shown-append 0 (front bound (suc n / 10)) (48 + suc n % 10) ∙ rw e (omega arith)

pub decimal-shown : (n : ℕ) → shown 0 (decimal n) ≡ n
unfolding decimal
decimal-shown n =
    let e : shown 0 (front (n / 10) (n / 10)) ≡ n / 10 = front-shown (n / 10) (n / 10) (omega arith) in
    shown-append 0 (front (n / 10) (n / 10)) (48 + n % 10) ∙ rw e (omega arith)

pub decimal-same : (m n : ℕ) → decimal m ≡ decimal n → m ≡ n
decimal-same m n e = sym (decimal-shown m) ∙ (ap (shown 0) e ∙ decimal-shown n)

-- no byte 32
abbrev pub NoSpace : List ℕ → Type 0
NoSpace [] = Unit {0}
NoSpace (x ∷ s) = (x ≡ 32 → ⊥) × NoSpace s

no_space_append : (a b : List ℕ) → NoSpace a → NoSpace b → NoSpace (a ++ b)
no_space_append [] b h g = g
no_space_append (x ∷ a) b h g = (h.0, no_space_append a b h.1 g)

no_space_front : (bound n : ℕ) → NoSpace (front bound n)
unfolding front
no_space_front zero n = tt
no_space_front (suc bound) zero = tt
no_space_front (suc bound) (suc n) = no_space_append (front bound (suc n / 10)) _ (no_space_front bound (suc n / 10)) (λ e. omega arith, tt)

pub no_space_decimal : (n : ℕ) → NoSpace (decimal n)
unfolding decimal
no_space_decimal n = no_space_append (front (n / 10) (n / 10)) _ (no_space_front (n / 10) (n / 10)) (λ e. omega arith, tt)

-- up to the first space
pub same-field : (a b x y : List ℕ) → NoSpace a → NoSpace b → a ++ (32 ∷ x) ≡ b ++ (32 ∷ y) → (a ≡ b) × (x ≡ y)
same-field [] [] x y h g e = (refl, cc)
same-field [] (c ∷ b) x y h g e = absurd (g.0 (cc))
same-field (c ∷ a) [] x y h g e = absurd (h.0 (cc))
same-field (c ∷ a) (d ∷ b) x y h g e =
    let p : c ≡ d = cc in
    let q : a ++ (32 ∷ x) ≡ b ++ (32 ∷ y) = cc in
    let r = same-field a b x y h.1 g.1 q in
    (cc (p, r.0), r.1)

same_span : (a b : Span) → a.start ≡ b.start → a.end ≡ b.end → a ≡ b
same_span a b p q i = record { start = p i; end = q i }

-- lines with the same bytes have the same head, span and message
module _ (h k : List ℕ) (a b : Span) (m n : List ℕ) (nh : NoSpace h) (nk : NoSpace k) (e : span_line h a m ≡ span_line k b n) where
  fields : (h ≡ k) × (decimal a.start ++ (32 ∷ (decimal a.end ++ (32 ∷ m))) ≡ decimal b.start ++ (32 ∷ (decimal b.end ++ (32 ∷ n))))
  unfolding span_line spaced
  fields = same-field h k _ _ nh nk e

  ends : (decimal a.start ≡ decimal b.start) × (decimal a.end ++ (32 ∷ m) ≡ decimal b.end ++ (32 ∷ n))
  ends = same-field _ _ _ _ (no_space_decimal a.start) (no_space_decimal b.start) fields.1

  tails : (decimal a.end ≡ decimal b.end) × (m ≡ n)
  tails = same-field _ _ _ _ (no_space_decimal a.end) (no_space_decimal b.end) ends.1

  pub line-head : h ≡ k
  line-head = fields.0

  pub line-span : a ≡ b
  line-span = same_span a b (decimal-same _ _ ends.0) (decimal-same _ _ tails.0)

  pub line-message : m ≡ n
  line-message = tails.1
