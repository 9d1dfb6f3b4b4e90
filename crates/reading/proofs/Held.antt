-- Options and Vecs: a law for each way out of the code. Assumes nothing.
use Rattle.std.proofs.Common.{◌≡◌, refl, sym, ap, ◌∙◌, ℕ, zero, suc, ◌≤◌, ◌<◌, ◌-◌, ◌+◌, List, [], ◌∷◌, arith}
use Rattle.tree.specs.Ans.{Ans, ok, refused, Reader, bind, ◌>>=◌, done}
use Rattle.tree.specs.Read.{case_byte, option, option_case, repeat, count, counted, vec}
use Rattle.refusal.specs.declared.Refused.{Refused}
use Rattle.reading.specs.declared.answers.Read.{Read}
use Rattle.reading.specs.Answers.{answer, forget}
use Rattle.std.proofs.Math.Option.{some}

pub forget-unit : (x : Ans (Unit {0})) → forget x ≡ x
unfolding forget
forget-unit (ok u k) = refl
forget-unit (refused n p) = refl

-- a reader without its value
abbrev pub skip : {A : Type 0} → Reader A → Reader (Unit {0})
skip p = λ s at. forget (p s at)

module _ {A : Type 0} (p : Reader A) (s : List ℕ) (at : ℕ) where
  pub option-refused : (n q : ℕ) → case_byte 2 s at ≡ refused n q → forget (option p s at) ≡ refused n q
  unfolding option ◌>>=◌ bind forget
  option-refused n q e = rw e

  pub option-none : (k : ℕ) → case_byte 2 s at ≡ ok 0 k → forget (option p s at) ≡ ok tt k
  unfolding option option_case done ◌>>=◌ bind forget
  option-none k e = rw e

  pub option-some : (b k : ℕ) → case_byte 2 s at ≡ ok b k → (b ≡ 0 → ⊥) → forget (option p s at) ≡ forget (p s k)
  unfolding option option_case done ◌>>=◌ bind forget
  option-some b k e h = rw e (go b h)
    where
      last : (x : Ans A) → forget (bind x (λ a next. done (some a) s next)) ≡ forget x
      last (ok a next) = refl
      last (refused n q) = refl

      go : (b : ℕ) → (b ≡ 0 → ⊥) → forget (option_case p b s k) ≡ forget (p s k)
      go zero h = absurd (h refl)
      go (suc b) h = last (p s k)

pub ruleset options = (forget-unit, option-refused, option-none, option-some)

-- so many values, one after the other, and those of a Vec
module _ {A B : Type 0} (nil : B) (cons : A → B → B) (p : Reader A) (s : List ℕ) where
  module _ (at : ℕ) where
    pub counted-refused : (m q : ℕ) → count s at ≡ refused m q → forget (counted nil cons p s at) ≡ refused m q
    unfolding counted ◌>>=◌ bind forget
    counted-refused m q e = rw e

    pub counted_start : (n k : ℕ) → count s at ≡ ok n k → forget (counted nil cons p s at) ≡ forget (repeat nil cons p (n - 0) s k)
    unfolding counted ◌>>=◌ bind
    counted_start n k e = let z : n - 0 ≡ n = omega arith in rw (e, z)

  -- `i` of `n` were read, up to `k`
  module _ (n i k : ℕ) where
    pub repeat-end : n ≤ i → forget (repeat nil cons p (n - i) s k) ≡ ok tt k
    unfolding repeat done forget
    repeat-end h = let z : n - i ≡ 0 = omega arith in rw z

    module _ (h : i < n) where
      left : n - i ≡ suc (n - (i + 1))
      left = omega arith

      pub repeat-refused : (m q : ℕ) → forget (p s k) ≡ refused m q → forget (repeat nil cons p (n - i) s k) ≡ refused m q
      unfolding repeat ◌>>=◌ bind forget
      repeat-refused m q e = rw left (go (p s k) e)
        where
          go : (x : Ans A) → forget x ≡ refused m q → forget (bind x (λ a next. bind (repeat nil cons p (n - (i + 1)) s next) (λ b next. done (cons a b) s next))) ≡ refused m q
          go (ok a next) e = absurd cc
          go (refused o r) e = e

      pub repeat-more : (m : ℕ) → forget (p s k) ≡ ok tt m → forget (repeat nil cons p (n - i) s k) ≡ forget (repeat nil cons p (n - (i + 1)) s m)
      unfolding repeat done ◌>>=◌ bind forget
      repeat-more m e = rw left (go (p s k) e)
        where
          last : (a : A) (x : Ans B) → forget (bind x (λ b next. done (cons a b) s next)) ≡ forget x
          last a (ok b next) = refl
          last a (refused o r) = refl

          go : (x : Ans A) → forget x ≡ ok tt m → forget (bind x (λ a next. bind (repeat nil cons p (n - (i + 1)) s next) (λ b next. done (cons a b) s next))) ≡ forget (repeat nil cons p (n - (i + 1)) s m)
          go (ok a next) e = let z : next ≡ m = cc in rw z (last a (repeat nil cons p (n - (i + 1)) s m))
          go (refused o r) e = absurd cc

  -- the same, as a read of the code tells it
  module _ (n i k : ℕ) (h : i < n) (a : Read (Unit {0})) (read : answer a ≡ forget (p s k)) (x : Ans (Unit {0})) (inv : x ≡ forget (repeat nil cons p (n - i) s k)) where
    pub vec_stops : (r : Refused) → a ≡ Read.Refused r → answer a ≡ x
    vec_stops r g = ap answer g ∙ sym (inv ∙ repeat-refused n i k h _ _ (sym read ∙ ap answer g))

    pub vec_goes : (u : Unit {0}) (m : ℕ) → a ≡ Read.At u m → x ≡ forget (repeat nil cons p (n - (i + 1)) s m)
    vec_goes u m g = inv ∙ repeat-more n i k h m (sym read ∙ ap answer g)

pub ruleset vecs = (forget-unit, counted-refused, counted_start, repeat-end, repeat-refused, repeat-more)

-- the values that are read do not matter, where only the place past them is asked
module _ {A : Type 0} (p : Reader A) (s : List ℕ) where
  pub option_is : (at : ℕ) → forget (option p s at) ≡ forget (option (skip p) s at)
  option_is at = go (case_byte 2 s at) refl
    where
      go : (x : Ans ℕ) → case_byte 2 s at ≡ x → forget (option p s at) ≡ forget (option (skip p) s at)
      go (ok zero k) e = option-none p s at k e ∙ sym (option-none (skip p) s at k e)
      go (ok (suc b) k) e = option-some p s at (suc b) k e (λ z. absurd cc) ∙ sym (option-some (skip p) s at (suc b) k e (λ z. absurd cc) ∙ forget-unit (forget (p s k)))
      go (refused n q) e = option-refused p s at n q e ∙ sym (option-refused (skip p) s at n q e)

  repeat_skip : {B : Type 0} (nil : B) (cons : A → B → B) (n k : ℕ) → forget (repeat [] ◌∷◌ (skip p) n s k) ≡ forget (repeat nil cons p n s k)
  unfolding repeat done ◌>>=◌ bind forget
  repeat_skip nil cons zero k = refl
  repeat_skip {B} nil cons (suc n) k = go (repeat_skip nil cons n) (p s k)
    where
      last : {C D : Type 0} (f : C → D) (x : Ans C) (y : Ans B) → forget x ≡ forget y → forget (bind x (λ b next. done (f b) s next)) ≡ forget y
      last f (ok b next) y e = e
      last f (refused o r) y e = e

      go : ((k : ℕ) → forget (repeat [] ◌∷◌ (skip p) n s k) ≡ forget (repeat nil cons p n s k)) → (x : Ans A)
          → forget (bind (forget x) (λ a next. bind (repeat [] ◌∷◌ (skip p) n s next) (λ b next. done (a ∷ b) s next))) ≡ forget (bind x (λ a next. bind (repeat nil cons p n s next) (λ b next. done (cons a b) s next)))
      go rest (ok a next) = last _ (repeat [] ◌∷◌ (skip p) n s next) (repeat nil cons p n s next) (rest next) ∙ sym (last _ (repeat nil cons p n s next) (repeat nil cons p n s next) refl)
      go rest (refused o r) = refl

  pub vec_is : {B : Type 0} (nil : B) (cons : A → B → B) (at : ℕ) → forget (counted nil cons p s at) ≡ forget (vec (skip p) s at)
  unfolding counted ◌>>=◌ bind forget
  vec_is {B} nil cons at = go (count s at)
    where
      go : (x : Ans ℕ) → forget (bind x (λ n next. repeat nil cons p n s next)) ≡ forget (bind x (λ n next. repeat [] ◌∷◌ (skip p) n s next))
      go (ok n next) = sym (repeat_skip nil cons n next)
      go (refused o r) = refl

pub ruleset skips = (option_is, vec_is)
