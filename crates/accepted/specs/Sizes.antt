-- Options and Vecs of values of one size: where they end. Assumes nothing.
use Prim.Native.Nat.{ℕ, zero, suc, ◌+◌, ◌*◌, ◌<◌}
use Rattle.std.specs.Prelude.{◌≡◌, List}
use Rattle.std.proofs.Math.Path.{refl, sym}
use Rattle.std.proofs.Common.{ap, ◌∙◌, sub-one}
use native.Mathlib.Omega.{arith}
use Rattle.std.proofs.Math.ListN.{get_or}
use Rattle.ast.specs.Tree.{Text}
use Rattle.tree.specs.Ans.{Reader, IsOk, next_of}
use Rattle.tree.specs.Read.{number, option, repeat, counted}
use Rattle.tree.specs.Exprs.{name}
use Rattle.tree.specs.Stmts.{qualifier, slice, param}
use Rattle.accepted.specs.Parts.{next_is}
use Rattle.accepted.specs.Fields.{number_is, text_is, option-none-next, option-held, option-some-next, counted_is, counted-held, repeat-none, repeat-first, repeat-rest, repeat-next}
use Rattle.accepted.specs.Operands.{slice_is, qualifier_is, param_is}

pub record Sized {A : Type 0} (p : Reader A) (size : ℕ) : Type 0 where
  pub sized : (s : List ℕ) (at : ℕ) → IsOk (p s at) → next_of (p s at) ≡ at + size

pub number-sized : (width : ℕ) → Sized (number width) width
number-sized width = record { sized = λ s at h. next_is (number_is s at width h) }

pub slice-sized : Sized slice 16
slice-sized = record { sized = λ s at h. next_is (slice_is s at h) }

pub qualifier-sized : Sized qualifier 1
qualifier-sized = record { sized = λ s at h. next_is (qualifier_is s at h) }

pub name-sized : (t : List Text) → Sized (name t) 2
name-sized t = record { sized = λ s at h. next_is (text_is s at t _ h) }

pub param-sized : (t : List Text) → Sized (param t) 3
param-sized t = record { sized = λ s at h. next_is (param_is t s at h) }

-- an Option of a value of that size
unfoldable pub option_end : List ℕ → ℕ → ℕ → ℕ
option_end s at size = elim (get_or s at 0) [ zero ↦ at + 1 | suc b ↦ at + 1 + size ]

module _ (s : List ℕ) (at : ℕ) where
  pub end_none : (size : ℕ) → get_or s at 0 ≡ 0 → at + 1 ≡ option_end s at size
  unfolding option_end
  end_none size e = rw (e, option_end)

  pub end-some : (size : ℕ) → (get_or s at 0 ≡ 0 → ⊥) → at + 1 + size ≡ option_end s at size
  unfolding option_end
  end-some size z = go (get_or s at 0) z
    where
      go : (b : ℕ) → (b ≡ 0 → ⊥) → at + 1 + size ≡ elim b [ zero ↦ at + 1 | suc c ↦ at + 1 + size ]
      go zero z = absurd (z refl)
      go (suc b) z = refl

  pub option_end_lem : {A : Type 0} (p : Reader A) (size : ℕ) → Sized p size → IsOk (option p s at) → option_end s at size ≡ next_of (option p s at)
  unfolding option_end
  option_end_lem p size z h = go (get_or s at 0) refl
    where
      go : (b : ℕ) → get_or s at 0 ≡ b → elim b [ zero ↦ at + 1 | suc c ↦ at + 1 + size ] ≡ next_of (option p s at)
      go zero e = option-none-next s at p h e
      go (suc b) e =
          let n : get_or s at 0 ≡ 0 → ⊥ = λ o. let f : suc b ≡ 0 = sym e ∙ o in omega arith in
          option-some-next s at p h _ (sym (z.sized s (at + 1) (option-held s at p h n))) n

-- a Vec of values of that size
module _ {A B : Type 0} (nil : B) (cons : A → B → B) (p : Reader A) (size : ℕ) (z : Sized p size) (s : List ℕ) where
  repeat-end : (n at : ℕ) → IsOk (repeat nil cons p n s at) → next_of (repeat nil cons p n s at) ≡ at + n * size
  repeat-end zero at h = next_is (repeat-none s at nil cons p 0 (omega arith)) ∙ omega arith
  repeat-end (suc n) at h =
      let l : 0 < suc n = omega arith in
      let e : at + size ≡ next_of (p s at) = sym (z.sized s at (repeat-first s at nil cons p (suc n) h l)) in
      let r : IsOk (repeat nil cons p n s (at + size)) = rw sub-one at (repeat-rest s at nil cons p (suc n) h l (at + size) e) in
      let f : next_of (repeat nil cons p (suc n) s at) ≡ next_of (repeat nil cons p n s (at + size)) = rw sub-one at (repeat-next s at nil cons p (suc n) h l (at + size) e) in
      f ∙ repeat-end n (at + size) r ∙ omega arith

  pub vec-end : (at : ℕ) → IsOk (counted nil cons p s at) → at + 1 + get_or s at 0 * size ≡ next_of (counted nil cons p s at)
  vec-end at h = sym (ap next_of (counted_is s at nil cons p h) ∙ repeat-end (get_or s at 0) (at + 1) (counted-held s at nil cons p h))
