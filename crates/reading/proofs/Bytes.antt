-- Numbers of bytes. Assumes nothing.
use Rattle.std.proofs.Common.{◌≡◌, refl, sym, ◌∙◌, ℕ, List, [], ◌∷◌, length, length-drop, drop-drop, take, drop, arith, ◌≤◌, ◌<◌, ◌+◌, ◌⊎◌, inl, inr, leb, w16, w64}
use Rattle.std.proofs.lemmas.Grind.{common_steps}
use Rattle.std.specs.Int.{from_be_bytes}
use Rattle.text.specs.Big.{value}
use Rattle.text.proofs.Order.{le-or-lt}
use Rattle.tree.proofs.Steps.{number_in, number-end}
use borrow.Author.Tests.{le-leb, lt-leb}
use Rattle.tree.specs.Ans.{Ans, ok, refused, bind, ◌>>=◌, done}
use Rattle.tree.specs.AnsLaws.{never_ok}
use Rattle.span.specs.declared.Span.{Span}
use Rattle.tree.specs.Read.{bytes, within, number, span}
use Rattle.reading.specs.Answers.{Mapped}
use Rattle.reading.specs.Spans.{span_of}

pub be16 : (bs : List ℕ) → length bs ≡ 2 → from_be_bytes w16 bs ≡ value 0 bs
unfolding value
be16 (a ∷ b ∷ []) l = omega arith
be16 (a ∷ b ∷ c ∷ bs) l = absurd (omega arith)
be16 (a ∷ []) l = absurd (omega arith)
be16 [] l = absurd (omega arith)

pub be64 : (bs : List ℕ) → length bs ≡ 8 → from_be_bytes w64 bs ≡ value 0 bs
unfolding value
be64 (a ∷ b ∷ c ∷ d ∷ e ∷ f ∷ g ∷ h ∷ []) l = omega arith
be64 (a ∷ b ∷ c ∷ d ∷ e ∷ f ∷ g ∷ h ∷ i ∷ bs) l = absurd (omega arith)
be64 (a ∷ b ∷ c ∷ d ∷ e ∷ f ∷ g ∷ []) l = absurd (omega arith)
be64 (a ∷ b ∷ c ∷ d ∷ e ∷ f ∷ []) l = absurd (omega arith)
be64 (a ∷ b ∷ c ∷ d ∷ e ∷ []) l = absurd (omega arith)
be64 (a ∷ b ∷ c ∷ d ∷ []) l = absurd (omega arith)
be64 (a ∷ b ∷ c ∷ []) l = absurd (omega arith)
be64 (a ∷ b ∷ []) l = absurd (omega arith)
be64 (a ∷ []) l = absurd (omega arith)
be64 [] l = absurd (omega arith)

-- bytes as a number, where they are there
module _ (s : List ℕ) (at n : ℕ) where
  bytes-length : (bs : List ℕ) (k : ℕ) → ok bs k ≡ bytes n s at → length bs ≡ n
  unfolding bytes within
  bytes-length bs k e = go (le-or-lt (at + n) (length s)) e
    where
      go : (at + n ≤ length s) ⊎ (length s < at + n) → ok bs k ≡ within (leb (at + n) (length s)) (length s) (ok (take n (drop at s)) (at + n)) → length bs ≡ n
      go (inl h) e = let z : ok bs k ≡ ok (take n (drop at s)) (at + n) = rw (le-leb (at + n) (length s) h) at e in let y : bs ≡ take n (drop at s) = cc in rw y (grind (arith, common_steps))
      go (inr h) e = absurd (never_ok {number = 3} {place = length s} (sym e) (rw (lt-leb (at + n) (length s) h)))

  mapped_bytes : {B : Type 0} (post : List ℕ → B → Type 0) (f : List ℕ → B) (x : Ans (List ℕ)) (y : Ans B) → Mapped post x y → x ≡ bytes n s at
      → ((bs : List ℕ) (w : B) → length bs ≡ n → post bs w → w ≡ f bs) → y ≡ bind (bytes n s at) (λ bs k. ok (f bs) k)
  unfolding bind
  mapped_bytes post f (ok bs k) y m e h = m.2 ∙ (rw (h bs m.0 (bytes-length bs k e) m.1, ← e) refl)
  mapped_bytes post f (refused k p) y m e h = m ∙ rw (← e) refl

  pub mapped_number : (post : List ℕ → ℕ → Type 0) (x : Ans (List ℕ)) (y : Ans ℕ) → Mapped post x y → x ≡ bytes n s at
      → ((bs : List ℕ) (w : ℕ) → length bs ≡ n → post bs w → w ≡ value 0 bs) → y ≡ number n s at
  unfolding number done ◌>>=◌
  mapped_number post = mapped_bytes post (value 0)

-- eight bytes as a span
eight : (bs : List ℕ) → 8 ≤ length bs → span_of (take 8 bs) ≡ record { start = value 0 (take 4 bs); end = value 0 (take 4 (drop 4 bs)) }
unfolding value
eight (a ∷ b ∷ c ∷ d ∷ e ∷ f ∷ g ∷ h ∷ bs) l = grind arith
eight (a ∷ b ∷ c ∷ d ∷ e ∷ f ∷ g ∷ []) l = absurd (omega arith)
eight (a ∷ b ∷ c ∷ d ∷ e ∷ f ∷ []) l = absurd (omega arith)
eight (a ∷ b ∷ c ∷ d ∷ e ∷ []) l = absurd (omega arith)
eight (a ∷ b ∷ c ∷ d ∷ []) l = absurd (omega arith)
eight (a ∷ b ∷ c ∷ []) l = absurd (omega arith)
eight (a ∷ b ∷ []) l = absurd (omega arith)
eight (a ∷ []) l = absurd (omega arith)
eight [] l = absurd (omega arith)

span_bytes : (s : List ℕ) (at : ℕ) → bind (bytes 8 s at) (λ bs k. ok (span_of bs) k) ≡ span s at
unfolding span bytes within done ◌>>=◌ bind
span_bytes s at = go (le-or-lt (at + 8) (length s)) (le-or-lt (at + 4) (length s))
  where
    go : (at + 8 ≤ length s) ⊎ (length s < at + 8) → (at + 4 ≤ length s) ⊎ (length s < at + 4) → bind (bytes 8 s at) (λ bs k. ok (span_of bs) k) ≡ span s at
    go (inl h) m =
        let next : at + 4 + 4 ≡ at + 8 = omega arith in
        let second : drop 4 (drop at s) ≡ drop (at + 4) s = drop-drop 4 at s in
        rw (le-leb (at + 8) (length s) h, number_in s at 4 (omega arith), number_in s (at + 4) 4 (omega arith), eight (drop at s) (omega (arith, length-drop at s)), next, second)
    go (inr h) (inl m) = rw (lt-leb (at + 8) (length s) h, number_in s at 4 m, number-end s (at + 4) 4 (omega arith))
    go (inr h) (inr m) = rw (lt-leb (at + 8) (length s) h, number-end s at 4 m)

pub mapped_span : (s : List ℕ) (at : ℕ) (post : List ℕ → Span → Type 0) (x : Ans (List ℕ)) (y : Ans Span) → Mapped post x y → x ≡ bytes 8 s at
    → ((bs : List ℕ) (w : Span) → length bs ≡ 8 → post bs w → w ≡ span_of bs) → y ≡ span s at
mapped_span s at post x y m e h = mapped_bytes s at 8 post span_of x y m e h ∙ span_bytes s at
