-- The bytes of texts, and text numbers. Assumes nothing.
use Rattle.std.proofs.Common.{◌≡◌, refl, sym, ◌∙◌, ℕ, suc, ◌+◌, ◌<◌, List, [], ◌∷◌, length, get_or, Bool, true, false, not, ◌||◌, cond, ltb, arith, Option, Some, None, Bor}
use Rattle.std.specs.List.{position, prefix_len}
use Rattle.std.specs.Option.{is_some, option_eq, IfSome}
use borrow.Author.Tests.{lt-ltb, ltb-true}
use lib.ListN.{length-map}
use Rattle.std.proofs.lemmas.List.{get_or-map}
use Rattle.ast.specs.Tree.{Text}
use Rattle.tree.specs.Ans.{Ans, ok, refused, bind, ◌>>◌, done, refuse, check}
use Rattle.tree.specs.Texts.{between, allowed, is_name, is_float, letter, digit, every}
use Rattle.tree.specs.Decode.{texts_of}
use denote.Enum.Bare.{sameb}
use mathlib.Core.Bool.{and-eq-true_iff}
use Rattle.std.proofs.lemmas.Bool.Decides.{nat_tests}
use Rattle.reading.specs.contracts.spelling.Spelling.{the_type}
use Rattle.reading.specs.declared.spelling.Spelling.{Spelling}
use Rattle.reading.specs.declared.spelling.Spelling.TheVariants.{Neither, Name, Float}
use Rattle.reading.specs.Section.{kind_by, kind_of, of_kind, has_text, kinds_of}
use Rattle.reading.proofs.Spelled.{ltb_suc, name_some}

abbrev well : ℕ → Ans (Unit {0})
well at = ok tt at

-- the first byte that is not allowed decides
abbrev end : Text → ℕ
end x = prefix_len (λ c. not (not (between 33 126 c))) x

allowed_by : (x : Text) (place : ℕ) (s : List ℕ) (at : ℕ) → allowed x place s at ≡ cond (ltb (end x) (length x)) (refused 4 (place + end x)) (well at)
unfolding allowed check done refuse ◌>>◌ bind
allowed_by [] place s at = refl
allowed_by (c ∷ cs) place s at = go (between 33 126 c) (allowed_by cs (place + 1) s at)
  where
    go : (b : Bool) → allowed cs (place + 1) s at ≡ cond (ltb (end cs) (length cs)) (refused 4 (place + 1 + end cs)) (well at)
        → bind (check b 4 place s at) (λ u k. allowed cs (place + 1) s k) ≡ cond (ltb (cond (not (not b)) (1 + end cs) 0) (suc (length cs))) (refused 4 (place + cond (not (not b)) (1 + end cs) 0)) (well at)
    go false h = let z : ltb 0 (suc (length cs)) ≡ true = lt-ltb 0 _ (omega arith) in let y : place + 0 ≡ place = omega arith in rw (z, y)
    go true h = let z : 1 + end cs ≡ suc (end cs) = omega arith in let y : place + 1 + end cs ≡ place + suc (end cs) = omega arith in h ∙ rw (z, ltb_suc (end cs) (length cs), y) refl

module _ (x : Text) (place : ℕ) (s : List ℕ) (at : ℕ) where
  pub allowed_none : None ≡ position (λ c. not (between 33 126 c)) x → allowed x place s at ≡ ok tt at
  allowed_none e = allowed_by x place s at ∙ go (ltb (end x) (length x)) e
    where
      go : (b : Bool) → None ≡ cond b (Some (end x)) None → cond b (refused 4 (place + end x)) (well at) ≡ well at
      go true e = absurd cc
      go false e = refl

  pub allowed_some : (i : ℕ) → Some i ≡ position (λ c. not (between 33 126 c)) x → allowed x place s at ≡ refused 4 (place + i)
  allowed_some i e = allowed_by x place s at ∙ go (ltb (end x) (length x)) e
    where
      go : (b : Bool) → Some i ≡ cond b (Some (end x)) None → cond b (refused 4 (place + end x)) (well at) ≡ refused 4 (place + i)
      go true e = let z : i ≡ end x = cc in rw z
      go false e = absurd cc

-- where every byte is allowed
pub allowed_every : (x : Text) (place : ℕ) (s : List ℕ) (at : ℕ) → every (between 33 126) x ≡ true → allowed x place s at ≡ ok tt at
unfolding every allowed check done ◌>>◌ bind
allowed_every [] place s at h = refl
allowed_every (c ∷ cs) place s at h = let f = (and-eq-true_iff (between 33 126 c) _).0 h in rw f.0 (allowed_every cs (place + 1) s at f.1)

-- the bytes of a name are allowed
later_allowed : (c : ℕ) → (letter c || digit c) ≡ true → between 33 126 c ≡ true
unfolding letter digit
later_allowed c h = grind (arith, nat_tests)

letters_allowed : (x : Text) (place : ℕ) (s : List ℕ) (at : ℕ) → every (λ c. letter c || digit c) x ≡ true → allowed x place s at ≡ well at
unfolding every allowed check done ◌>>◌ bind
letters_allowed [] place s at h = refl
letters_allowed (c ∷ cs) place s at h = let f = (and-eq-true_iff (letter c || digit c) _).0 h in rw (later_allowed c f.0) (letters_allowed cs (place + 1) s at f.1)

name_allowed : (x : Text) (place : ℕ) (s : List ℕ) (at : ℕ) → is_name x ≡ true → allowed x place s at ≡ well at
unfolding is_name
name_allowed [] place s at h = absurd cc
name_allowed (c ∷ cs) place s at h = letters_allowed (c ∷ cs) place s at ((and-eq-true_iff (letter c) _).0 (sym (name_some (c ∷ cs) (λ z. omega arith)) ∙ h)).1

-- the number of texts, as the code knows it
pub length-kinds_of : (s : List ℕ) → length (kinds_of s) ≡ length (texts_of s)
unfolding kinds_of
length-kinds_of s = length-map (texts_of s) kind_of

-- a kind says the spelling
kind-says : (name float : Bool) (x : Text) (k : Spelling) → is_name x ≡ name → is_float x ≡ float → (name ≡ true → float ≡ false) → sameb the_type (kind_by name float) k ≡ of_kind k x
unfolding kind_by of_kind
kind-says true float x Name e f h = sym e
kind-says true float x Float e f h = sym (f ∙ h refl)
kind-says true float x Neither e f h = rw e
kind-says false true x Name e f h = sym e
kind-says false true x Float e f h = sym f
kind-says false true x Neither e f h = rw (e, f)
kind-says false false x Name e f h = sym e
kind-says false false x Float e f h = sym f
kind-says false false x Neither e f h = rw (e, f)

not_digit : (c : ℕ) → letter c ≡ true → digit c ≡ false
unfolding letter digit
not_digit c h = grind (arith, nat_tests)

no_float : (x : Text) → is_name x ≡ true → is_float x ≡ false
unfolding is_name is_float
no_float [] h = refl
no_float (c ∷ cs) h = rw (not_digit c ((and-eq-true_iff (letter c) _).0 h).0)

pub kind_same : (x : Text) (k : Spelling) → sameb the_type (kind_of x) k ≡ of_kind k x
unfolding kind_of
kind_same x k = kind-says (is_name x) (is_float x) x k refl refl (no_float x)

pub kind_allowed : (x : Text) (kind : Spelling) → kind ≡ kind_of x → (r : Bool) → r ≡ sameb the_type kind Name → r ≡ true → (place : ℕ) (s : List ℕ) (at : ℕ) → allowed x place s at ≡ well at
unfolding of_kind
kind_allowed x kind e r test g place s at = name_allowed x place s at (sym (kind_same x Name) ∙ rw e at (sym test) ∙ g)

-- how the code knows a text to be spelled, where there is one with the number
module _ (s : List ℕ) (kinds : List Spelling) (known : kinds ≡ kinds_of s) (m n : ℕ) (same : m ≡ n) where
  told : (name : Spelling) → n < length (texts_of s) → name ≡ get_or kinds m name → (kind : Spelling) → sameb the_type name kind ≡ of_kind kind (get_or (texts_of s) n [])
  unfolding kinds_of
  told name h e kind =
      let f : get_or kinds m name ≡ kind_of (get_or (texts_of s) n []) = rw (same, known) (get_or-map kind_of (texts_of s) n [] name h) in
      rw (e ∙ f) (kind_same (get_or (texts_of s) n []) kind)

  pub kind_got : (kind : Bor Spelling) (x : Option (Bor Spelling)) → is_some x ≡ ltb m (length kinds) → IfSome x (λ y. y.now ≡ get_or kinds m y.now)
      → (r : Bool) → r ≡ option_eq (λ y z. sameb the_type y.now z.now) x (Some kind) → r ≡ has_text (texts_of s) (of_kind kind.now) n
  unfolding has_text
  kind_got kind None e f r g = g ∙ rw (← length-kinds_of s, ← known, ← same, ← e) refl
  kind_got kind (Some y) e f r g =
      let h : true ≡ ltb n (length (texts_of s)) = rw (same, known, length-kinds_of s) at e in
      g ∙ rw (← h) (told y.now (ltb-true _ _ (sym h)) f kind.now)

pub ruleset named = (allowed_every, allowed_none, allowed_some, length-kinds_of)
