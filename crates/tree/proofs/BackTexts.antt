-- The texts of a file are read back from their bytes. Assumes nothing.
use Prim.Native.Nat.{ℕ, suc, ◌<◌, ◌+◌, ◌^◌}
use mathlib.Core.Path.{◌≡◌, refl, sym, ◌∙◌}
use mathlib.Core.List.{List, [], ◌∷◌, ◌++◌, append-nil, map, flatten}
use mathlib.Core.Bool.{Bool, true, false, not, ◌||◌, and-eq-true_iff}
use native.Mathlib.Omega.{arith}
use lib.ListN.{length, get_or, length-append, get_or-append}
use lib.Seq.{append_snoc, get_or-append_seam}
use borrow.Author.Tests.{le-leb}
use Rattle.text.proofs.Same.{same-eq}
use Rattle.text.specs.Text.{same}
use Rattle.ast.specs.Tree.{Text}
use Rattle.tree.specs.Limits.{texts_limit, text_limit}
use Rattle.tree.specs.Ans.{ok, Reader, bind, ◌>>◌, done, check}
use Rattle.tree.specs.Texts.{between, allowed, among, every, text, more_texts, texts}
use Rattle.tree.specs.Encode.{put_text, put_texts}
use Rattle.tree.specs.Fits.{Each, TextFits, TextsFit}
use Rattle.tree.proofs.Back.{Reads, seq, seq_end, done-reads, seq-here, seq-check, byte_reads, bytes-reads, number-reads}

-- a text that differs from each is not among them
among-false : (x : Text) (ys : List Text) → ((i : ℕ) → i < length ys → get_or ys i [] ≡ x → ⊥) → among x ys ≡ false
unfolding among
among-false x [] h = refl
among-false x (y ∷ ys) h = go (same x y) refl (among-false x ys (λ i l. h (suc i) (omega arith)))
  where
    go : (b : Bool) → same x y ≡ b → among x ys ≡ false → (same x y || among x ys) ≡ false
    go true e r = absurd (h 0 (omega arith) (sym (same-eq x y e)))
    go false e r = rw e r

module _ (s : List ℕ) (at : ℕ) where
  allowed_all : (cs : List ℕ) (place : ℕ) → every (between 33 126) cs ≡ true → allowed cs place s at ≡ ok tt at
  unfolding every allowed check done ◌>>◌ bind
  allowed_all [] place e = refl
  allowed_all (c ∷ cs) place e =
      let h = (and-eq-true_iff (between 33 126 c) (every (between 33 126) cs)).0 e in
      rw h.0 (allowed_all cs (place + 1) h.1)

seq-allowed : {s : List ℕ} {at : ℕ} {B : Type 0} {q : Reader B} (cs : List ℕ) (place : ℕ) {bs : List ℕ} {b : B} → every (between 33 126) cs ≡ true → Reads s at q bs b → Reads s at (◌>>◌ (allowed cs place) q) bs b
unfolding ◌>>◌ bind
seq-allowed {s} {at} cs place e p = record { reads = λ h. rw (allowed_all s at cs place e) (p.reads h) }

text-reads : {s : List ℕ} {at : ℕ} (earlier : List Text) (x : Text) → TextFits x → among x earlier ≡ false → Reads s at (text earlier) (put_text x) x
unfolding text put_text
text-reads earlier x h e =
    let size : between 1 text_limit (length x) ≡ true = rw (le-leb 1 (length x) h.some_bytes, le-leb (length x) text_limit h.few_bytes) in
    let new : not (among x earlier) ≡ true = rw e in
    seq-here _ (seq _ byte_reads (seq-check _ _ size (seq-here _ (seq_end _ (bytes-reads (length x) x refl) (seq-allowed x _ h.plain (seq-check _ _ new done-reads))))))

-- no two are equal
abbrev Unequal : List Text → Type 0
Unequal ts = (i j : ℕ) → i < j → j < length ts → get_or ts i [] ≡ get_or ts j [] → ⊥

new-text : (earlier : List Text) (x : Text) (xs : List Text) → Unequal (earlier ++ (x ∷ xs)) → among x earlier ≡ false
new-text earlier x xs h =
    among-false x earlier (λ i l e. h i (length earlier) l (rw (length-append earlier (x ∷ xs)) (omega arith)) (get_or-append earlier (x ∷ xs) [] i l ∙ e ∙ sym (get_or-append_seam earlier x xs [])))

more-reads : {s : List ℕ} {at : ℕ} (earlier xs : List Text) → Each TextFits xs → Unequal (earlier ++ xs) → Reads s at (more_texts (length xs) earlier) (flatten (map put_text xs)) (earlier ++ xs)
unfolding more_texts Each flatten
more-reads earlier [] h u = rw (append-nil earlier) done-reads
more-reads {s} {at} earlier (x ∷ xs) h u =
    let tail = more-reads {s = s} {at = at + length (put_text x)} (earlier ++ (x ∷ [])) xs h.1 (rw (append_snoc earlier x xs) u) in
    seq _ (text-reads earlier x h.0 (new-text earlier x xs u)) (rw (append_snoc earlier x xs) at tail)

pub texts-reads : {s : List ℕ} {at : ℕ} (ts : List Text) → TextsFit ts → Reads s at texts (put_texts ts) ts
unfolding texts put_texts
texts-reads ts h =
    let fits : length ts < 256 ^ 2 = omega (arith, h.few) in
    seq-here _ (seq _ (number-reads 2 (length ts) fits) (seq-check _ _ (le-leb (length ts) texts_limit h.few) (more-reads [] ts h.each h.unequal)))
