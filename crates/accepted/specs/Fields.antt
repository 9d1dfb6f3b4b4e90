-- What is known of a field that was accepted: where its bytes stand, what its value is, where it ends. Assumes nothing.
use Prim.Native.Nat.{ℕ, zero, suc, ◌+◌, ◌-◌, ◌≤◌, ◌<◌}
use Rattle.std.specs.Prelude.{◌≡◌, List, ◌∷◌, Bool, true, false, length, take, drop, ltb, leb}
use Rattle.std.proofs.Math.Path.{refl}
use Rattle.std.proofs.Common.{sym, subst, arith}
use Rattle.std.proofs.Math.Option.{none, some}
use Rattle.std.proofs.Math.Numerals.{sub-one}
use Rattle.std.proofs.Math.ListN.{get_or}
use borrow.Author.Tests.{ltb-true, leb-true, lt-ltb, le-leb}
use Rattle.ast.specs.Tree.{Text}
use Rattle.tree.specs.Limits.{vec_limit}
use Rattle.tree.specs.Ans.{Ans, ok, Reader, bind, ◌>>=◌, done, here, IsOk, next_of}
use Rattle.tree.specs.Read.{within, byte, bytes, number, span, case_byte, one_of, option_case, option, repeat, count, counted}
use Rattle.tree.specs.Exprs.{text_number}
use Rattle.context.specs.View.{number_at, span_at}
use Rattle.accepted.specs.Parts.{value_or, next_is, is_of, Goes, start, field, known, past, beyond, past-here, checked, past-check, ends}

within-true : {A : Type 0} (b : Bool) (size : ℕ) (x : Ans A) → IsOk (within b size x) → b ≡ true
unfolding within IsOk
within-true true size x h = refl
within-true false size x h = absurd h

module _ (s : List ℕ) (at : ℕ) where
  byte_in : IsOk (byte s at) → at < length s
  unfolding byte
  byte_in h = ltb-true at (length s) (within-true (ltb at (length s)) (length s) (ok (get_or s at 0) (at + 1)) h)

  pub byte_is : IsOk (byte s at) → byte s at ≡ ok (get_or s at 0) (at + 1)
  unfolding byte within
  byte_is h = rw (lt-ltb at (length s) (byte_in h))

  -- numbers: one law for every width
  module _ (width : ℕ) (h : IsOk (number width s at)) where
    pub number_in : at + width ≤ length s
    unfolding number bytes
    number_in = leb-true (at + width) (length s) (within-true (leb (at + width) (length s)) (length s) (ok (take width (drop at s)) (at + width)) (field _ _ (start h)))

    pub number_is : number width s at ≡ ok (number_at width s at) (at + width)
    unfolding number bytes within ◌>>=◌ bind done
    number_is = rw (le-leb (at + width) (length s) number_in)

module _ (s : List ℕ) (at : ℕ) where
  module _ (h : IsOk (span s at)) where
    span-goes : Goes (span s at) (◌>>=◌ (number 4) (λ b. done (record { start = number_at 4 s at; end = b }))) s (at + 4)
    unfolding span
    span-goes = known _ _ (at + 4) (number_is s at 4) refl (start h)

    pub span_in : at + 8 ≤ length s
    span_in = let i = number_in s (at + 4) 4 (field _ _ span-goes) in omega arith

    pub span_is : span s at ≡ ok (span_at s at) (at + 8)
    span_is = let e : at + 4 + 4 ≡ at + 8 = omega arith in ends _ (known _ _ (at + 8) (number_is s (at + 4) 4) e span-goes)

  module _ (cases : ℕ) (h : IsOk (case_byte cases s at)) where
    pub case_in : at < length s
    unfolding case_byte
    case_in = byte_in s at (field _ _ (past-here _ (start h)))

    pub case-below : get_or s at 0 < cases
    unfolding case_byte
    case-below = ltb-true (get_or s at 0) cases (checked _ _ _ _ (known _ _ (at + 1) (byte_is s at) refl (past-here _ (start h))))

    pub case_is : case_byte cases s at ≡ ok (get_or s at 0) (at + 1)
    unfolding case_byte
    case_is = ends _ (past-check _ _ _ _ (known _ _ (at + 1) (byte_is s at) refl (past-here _ (start h))))

  module _ {A : Type 0} (c : A) (cs : List A) (h : IsOk (one_of c cs s at)) where
    pub one_in : at < length s
    unfolding one_of
    one_in = case_in (suc (length cs)) (field _ _ (start h))

    pub one_below : get_or s at 0 < suc (length cs)
    unfolding one_of
    one_below = case-below (suc (length cs)) (field _ _ (start h))

    pub one_is : one_of c cs s at ≡ ok (get_or (c ∷ cs) (get_or s at 0) c) (at + 1)
    unfolding one_of
    one_is = ends _ (known _ _ (at + 1) (case_is (suc (length cs))) refl (start h))

  -- a case byte, and what its case goes on with
  module _ {B : Type 0} {x : Ans B} (cases : ℕ) (f : ℕ → ℕ → Reader B) (g : Goes x (◌>>=◌ here (λ place. ◌>>=◌ (case_byte cases) (f place))) s at) where
    pub choice_in : at < length s
    choice_in = case_in cases (field _ _ (past-here _ g))

    pub choice-below : get_or s at 0 < cases
    choice-below = case-below cases (field _ _ (past-here _ g))

    pub choice : (c : ℕ) → get_or s at 0 ≡ c → Goes x (f at c) s (at + 1)
    choice c e = rw (← e) (known _ _ (at + 1) (case_is cases) refl (past-here _ g))

  module _ (h : IsOk (count s at)) where
    pub count_in : at < length s
    unfolding count
    count_in = byte_in s at (field _ _ (past-here _ (start h)))

    pub count-few : get_or s at 0 ≤ vec_limit
    unfolding count
    count-few = leb-true (get_or s at 0) vec_limit (checked _ _ _ _ (known _ _ (at + 1) (byte_is s at) refl (past-here _ (start h))))

    pub count_is : count s at ≡ ok (get_or s at 0) (at + 1)
    unfolding count
    count_is = ends _ (past-check _ _ _ _ (known _ _ (at + 1) (byte_is s at) refl (past-here _ (start h))))

  module _ (t : List Text) (spelled : Text → Bool) (h : IsOk (text_number t spelled s at)) where
    pub text_in : at + 2 ≤ length s
    unfolding text_number
    text_in = number_in s at 2 (field _ _ (past-here _ (start h)))

    pub text-below : number_at 2 s at < length t
    unfolding text_number
    text-below = ltb-true (number_at 2 s at) (length t) (checked _ _ _ _ (known _ _ (at + 2) (number_is s at 2) refl (past-here _ (start h))))

    pub text_is : text_number t spelled s at ≡ ok (number_at 2 s at) (at + 2)
    unfolding text_number
    text_is = ends _ (past-check _ _ _ _ (past-check _ _ _ _ (known _ _ (at + 2) (number_is s at 2) refl (past-here _ (start h)))))

  -- an Option: none behind a 0, and some value else
  module _ {A : Type 0} (p : Reader A) (h : IsOk (option p s at)) where
    option-goes : (b : ℕ) → get_or s at 0 ≡ b → Goes (option p s at) (option_case p b) s (at + 1)
    unfolding option
    option-goes b e = rw (← e) (known _ _ (at + 1) (case_is 2) refl (start h))

    pub option_in : at < length s
    unfolding option
    option_in = case_in 2 (field _ _ (start h))

    pub option-none : get_or s at 0 ≡ 0 → option p s at ≡ ok none (at + 1)
    unfolding option_case
    option-none e = ends _ (option-goes 0 e)

    option-more : (get_or s at 0 ≡ 0 → ⊥) → Goes (option p s at) (◌>>=◌ p (λ a. done (some a))) s (at + 1)
    unfolding option_case
    option-more z = go (get_or s at 0) refl z
      where
        go : (b : ℕ) → get_or s at 0 ≡ b → (b ≡ 0 → ⊥) → Goes (option p s at) (◌>>=◌ p (λ a. done (some a))) s (at + 1)
        go zero e z = absurd (z refl)
        go (suc b) e z = option-goes (suc b) e

    pub option-held : (get_or s at 0 ≡ 0 → ⊥) → IsOk (p s (at + 1))
    option-held z = field _ _ (option-more z)

    pub option-some : (d : A) (m : ℕ) → m ≡ next_of (p s (at + 1)) → (get_or s at 0 ≡ 0 → ⊥) → option p s at ≡ ok (some (value_or d (p s (at + 1)))) m
    option-some d m e z = ends _ (past _ _ d m e (option-more z))

    -- where the value's size is fixed
    pub option-known : {a : A} {n : ℕ} (m : ℕ) → (IsOk (p s (at + 1)) → p s (at + 1) ≡ ok a n) → n ≡ m → (get_or s at 0 ≡ 0 → ⊥) → option p s at ≡ ok (some a) m
    option-known m e k z = ends _ (known _ _ m e k (option-more z))

    pub option-none-next : get_or s at 0 ≡ 0 → at + 1 ≡ next_of (option p s at)
    option-none-next e = sym (next_is (option-none e))

    pub option-some-next : (m : ℕ) → m ≡ next_of (p s (at + 1)) → (get_or s at 0 ≡ 0 → ⊥) → m ≡ next_of (option p s at)
    option-some-next m e z = sym (next_is (ends _ (beyond _ _ (is_of _ (option-held z)) m e (option-more z))))

  module _ {A B : Type 0} (nil : B) (cons : A → B → B) (p : Reader A) where
    -- a Vec: its count, and so many values
    module _ (h : IsOk (counted nil cons p s at)) where
      counted-goes : Goes (counted nil cons p s at) (repeat nil cons p (get_or s at 0)) s (at + 1)
      unfolding counted
      counted-goes = known _ _ (at + 1) count_is refl (start h)

      pub counted_in : at < length s
      unfolding counted
      counted_in = count_in (field _ _ (start h))

      pub counted-few : get_or s at 0 ≤ vec_limit
      unfolding counted
      counted-few = count-few (field _ _ (start h))

      pub counted_is : counted nil cons p s at ≡ repeat nil cons p (get_or s at 0) s (at + 1)
      counted_is = counted-goes.is

      pub counted-held : IsOk (repeat nil cons p (get_or s at 0) s (at + 1))
      counted-held = subst IsOk counted_is h

    pub repeat-none : (n : ℕ) → n ≤ 0 → repeat nil cons p n s at ≡ ok nil at
    unfolding repeat done
    repeat-none zero l = refl
    repeat-none (suc n) l = absurd (omega arith)

    repeat-goes : (n : ℕ) → IsOk (repeat nil cons p n s at) → 0 < n → Goes (repeat nil cons p n s at) (◌>>=◌ p (λ a. ◌>>=◌ (repeat nil cons p (n - 1)) (λ rest. done (cons a rest)))) s at
    unfolding repeat
    repeat-goes zero h l = absurd (omega arith)
    repeat-goes (suc n) h l = rw sub-one (start h)

    -- one value more
    module _ (n : ℕ) (h : IsOk (repeat nil cons p n s at)) (l : 0 < n) where
      pub repeat-first : IsOk (p s at)
      repeat-first = field _ _ (repeat-goes n h l)

      module _ (m : ℕ) (e : m ≡ next_of (p s at)) where
        pub repeat-rest : IsOk (repeat nil cons p (n - 1) s m)
        repeat-rest = field _ _ (beyond _ _ (is_of _ repeat-first) m e (repeat-goes n h l))

        pub repeat_is : (d : A) → repeat nil cons p n s at ≡ ok (cons (value_or d (p s at)) (value_or nil (repeat nil cons p (n - 1) s m))) (next_of (repeat nil cons p (n - 1) s m))
        repeat_is d = ends _ (past _ _ nil _ refl (past _ _ d m e (repeat-goes n h l)))

        pub repeat-next : next_of (repeat nil cons p n s at) ≡ next_of (repeat nil cons p (n - 1) s m)
        repeat-next = next_is (ends _ (past _ _ nil _ refl (beyond _ _ (is_of _ repeat-first) m e (repeat-goes n h l))))
