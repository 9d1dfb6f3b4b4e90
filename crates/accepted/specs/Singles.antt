-- Operands with an index and no slice: each has 20 bytes. Where these stand, and what they are. Assumes nothing.
use Rattle.std.specs.Prelude.{ℕ, ◌+◌, ◌≤◌, ◌<◌, ◌≡◌, refl, Bool, true, false, not, ◌&&◌, List, length, get_or, eqb}
use Rattle.std.proofs.Common.{sym, arith}
use Rattle.std.proofs.lemmas.Bool.{false≢true}
use Rattle.std.proofs.Math.Option.{none, some}
use borrow.Author.Tests.{eqb-true, eqb-false, not-true, eq-eqb, ne_eqb}
use Rattle.ast.specs.Tree.{Text}
use Rattle.tree.specs.Ans.{ok, IsOk}
use Rattle.tree.specs.Read.{u64, option}
use Rattle.tree.specs.Stmts.{slice, operand}
use Rattle.context.specs.View.{number_at, span_at}
use Rattle.accepted.specs.Parts.{next_is, value_is, end_in}
use Rattle.accepted.specs.Fields.{option_in, option-none}
use Rattle.accepted.specs.Operands.{some_number_is, operand-index, operand-slice, operand_is, operand-end}

-- by the first bytes of both Options of an accepted operand
unfoldable pub is_single : List ℕ → ℕ → Bool
is_single s at = not (eqb (get_or s (at + 2) 0) 0) && eqb (get_or s (at + 11) 0) 0

-- of two tests that both hold
pub both_first : (a b : Bool) → (a && b) ≡ true → a ≡ true
both_first true b e = refl
both_first false b e = e

pub both_second : (a b : Bool) → (a && b) ≡ true → b ≡ true
both_second true b e = e
both_second false b e = absurd (false≢true e)

module _ (s : List ℕ) (at : ℕ) where
  pub without-index : get_or s (at + 2) 0 ≡ 0 → false ≡ is_single s at
  unfolding is_single
  without-index e = rw (eq-eqb (get_or s (at + 2) 0) 0 e)

  pub with_index : (get_or s (at + 2) 0 ≡ 0 → ⊥) → eqb (get_or s (at + 11) 0) 0 ≡ is_single s at
  unfolding is_single
  with_index z = rw (ne_eqb (get_or s (at + 2) 0) 0 z)

  module _ (e : is_single s at ≡ true) where
    has-index : get_or s (at + 2) 0 ≡ 0 → ⊥
    unfolding is_single
    has-index = eqb-false _ 0 (not-true _ (both_first _ _ e))

    has_no_slice : get_or s (at + 11) 0 ≡ 0
    unfolding is_single
    has_no_slice = eqb-true _ 0 (both_second (not (eqb (get_or s (at + 2) 0) 0)) _ e)

module _ (t : List Text) (s : List ℕ) (at : ℕ) (h : IsOk (operand t s at)) where
  pub index_in : at + 2 < length s
  index_in = option_in s (at + 2) u64 (operand-index t s at h)

  module _ (z : get_or s (at + 2) 0 ≡ 0 → ⊥) where
    index_is : option u64 s (at + 2) ≡ ok (some (number_at 8 s (at + 3))) (at + 11)
    index_is =
        let a : at + 2 + 1 ≡ at + 3 = omega arith in
        let b : at + 2 + 9 ≡ at + 11 = omega arith in
        rw (← a, ← b) (some_number_is s (at + 2) (operand-index t s at h) z)

    slice_ok : IsOk (option slice s (at + 11))
    slice_ok = operand-slice t s at h (at + 11) (sym (next_is index_is))

    pub slice_in : at + 11 < length s
    slice_in = option_in s (at + 11) slice slice_ok

  module _ (e : is_single s at ≡ true) where
    pub single_is : operand t s at ≡ ok (record { name = number_at 2 s at; index = some (number_at 8 s (at + 3)); slice = none; span = span_at s (at + 12) }) (at + 20)
    single_is =
        let z = has-index s at e in
        let i = index_is z in
        let b : at + 11 + 1 ≡ at + 12 = omega arith in
        let n : at + 12 + 8 ≡ at + 20 = omega arith in
        let l : option slice s (at + 11) ≡ ok none (at + 12) = rw (← b) (option-none s (at + 11) slice (slice_ok z) (has_no_slice s at e)) in
        rw (value_is i none, value_is l none, n) at (operand_is t s at h (at + 11) (sym (next_is i)) (at + 12) (sym (next_is l)))

    pub single_inside : at + 20 ≤ length s
    single_inside = end_in single_is (operand-end t s at h)
