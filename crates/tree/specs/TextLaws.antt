-- The texts of an accepted file hold bytes 33 to 126 alone.
use Rattle.std.specs.Prelude.{ℕ, zero, suc, ◌+◌, ◌≡◌, List, [], ◌∷◌, ◌++◌, true, length}
use Rattle.std.proofs.Common.{ap}
use Rattle.tree.specs.AnsLaws.{came, passed}
use Rattle.ast.specs.Tree.{Text, Program}
use Rattle.tree.specs.Ans.{ok, ◌>>=◌, ◌>>◌, done, here}
use Rattle.tree.specs.Texts.{between, allowed, text, more_texts, texts}
use Rattle.tree.specs.Decode.{size, file, decode}

abbrev pub Printable : Text → Type 0
Printable [] = Unit {0}
Printable (c ∷ cs) = (between 33 126 c ≡ true) × Printable cs

abbrev pub AllPrintable : List Text → Type 0
AllPrintable [] = Unit {0}
AllPrintable (x ∷ xs) = Printable x × AllPrintable xs

allowed_printable : (cs : List ℕ) (place : ℕ) (s : List ℕ) (at next : ℕ) (u : Unit {0}) → allowed cs place s at ≡ ok u next → Printable cs
unfolding allowed ◌>>◌
allowed_printable [] place s at next u e = tt
allowed_printable (c ∷ cs) place s at next u e =
    let w = came _ _ u next e in
    (passed (between 33 126 c) 4 place s at w.next w.value w.from, allowed_printable cs (place + 1) s w.next next u w.then)

text_printable : (earlier : List Text) (s : List ℕ) (at next : ℕ) (x : Text) → text earlier s at ≡ ok x next → Printable x
unfolding text ◌>>=◌ ◌>>◌ here done
text_printable earlier s at next x e =
    let a = came (ok at at) _ x next e in
    let b = came _ _ x next a.then in
    let c = came _ _ x next b.then in
    let d = came _ _ x next c.then in
    let f = came _ _ x next d.then in
    let g = came _ _ x next f.then in
    let h = came _ _ x next g.then in
    let p : Printable f.value = allowed_printable f.value _ s _ g.next g.value g.from in
    rw (same-value f.value x h.next next h.then) at p
  where
    same-value : (a b : Text) (m n : ℕ) → ok a m ≡ ok b n → a ≡ b
    same-value a b m n e = cc

printable_append : (xs ys : List Text) → AllPrintable xs → AllPrintable ys → AllPrintable (xs ++ ys)
printable_append [] ys h g = g
printable_append (x ∷ xs) ys h g = (h.0, printable_append xs ys h.1 g)

more_printable : (n : ℕ) (earlier : List Text) (s : List ℕ) (at next : ℕ) (t : List Text) → AllPrintable earlier → more_texts n earlier s at ≡ ok t next → AllPrintable t
unfolding more_texts ◌>>=◌ done
more_printable zero earlier s at next t h e = let z : earlier ≡ t = cc in rw z at h
more_printable (suc n) earlier s at next t h e =
    let w = came _ _ t next e in
    more_printable n (earlier ++ (w.value ∷ [])) s w.next next t
    (printable_append earlier (w.value ∷ []) h (text_printable earlier s at w.next w.value w.from, tt)) w.then

pub texts_printable : (s : List ℕ) (at next : ℕ) (t : List Text) → texts s at ≡ ok t next → AllPrintable t
unfolding texts ◌>>=◌ ◌>>◌ here
texts_printable s at next t e =
    let a = came (ok at at) _ t next e in
    let b = came _ _ t next a.then in
    let c = came _ _ t next b.then in
    more_printable b.value [] s c.next next t tt c.then

-- what a file holds whose bytes are accepted
pub accepted_printable : (s : List ℕ) (p : Program) (n : ℕ) → decode s ≡ ok p n → AllPrintable p.texts
unfolding decode file size ◌>>=◌ ◌>>◌ done
accepted_printable s p n e =
    let a = came (ok (length s) 0) _ p n e in
    let b = came _ _ p n a.then in
    let c = came _ _ p n b.then in
    let d = came _ _ p n c.then in
    let f = came _ _ p n d.then in
    let h : AllPrintable c.value = texts_printable s _ c.next c.value c.from in
    rw (same-texts (record { texts = c.value; statements = d.value }) p f.next n f.then) at h
  where
    same-texts : (q r : Program) (m k : ℕ) → ok q m ≡ ok r k → q.texts ≡ r.texts
    same-texts q r m k e = let z : q ≡ r = cc in ap (λ (x : Program). x.texts) z
