-- Where the parts of statements end, in the steps of the code. Assumes nothing.
use Prim.Native.Nat.{ℕ, zero, suc, ◌+◌, ◌-◌, ◌*◌, ◌≤◌, ◌<◌}
use mathlib.Core.Path.{◌≡◌, refl, sym, ◌∙◌}
use mathlib.Core.List.{List}
use mathlib.Core.Bool.{true}
use native.Mathlib.Omega.{arith}
use native.Mathlib.Numerals.{add-one}
use lib.ListN.{length, get_or}
use Rattle.ast.specs.Tree.{Text, Stmt}
use Rattle.tree.specs.Ans.{Reader, IsOk, next_of}
use Rattle.tree.specs.Read.{u64, option, counted}
use Rattle.tree.specs.Exprs.{expr}
use mathlib.Core.Logic.{◌⊎◌}
use Rattle.tree.specs.Stmts.{slice, operand, held, modifier, for_range, body, else_body}
use Rattle.accepted.specs.Parts.{next_is}
use Rattle.accepted.specs.Fields.{option_in, option-held, option-none-next, option-some-next, counted_in}
use Rattle.accepted.specs.Remains.{Remains, remains-none, remains-step, remains-first, remains-done}
use Rattle.accepted.specs.Ends.{Moves, number-moves, counted-moves}
use Rattle.accepted.specs.Sizes.{Sized, number-sized, slice-sized, qualifier-sized, vec-end}
use Rattle.accepted.specs.Steps.{Reached, Skipped}
use Rattle.accepted.specs.Operands as of
use Rattle.accepted.specs.Exprs as ex
use Rattle.accepted.specs.Bodies.{else_in, else_none, else_body_lem, else_some}
use Rattle.accepted.specs.Singles.{is_single, single_is}

-- an Option stepped over: by its first byte, and the step past its value
by_flag : (b : ℕ) {k n : ℕ} → (b ≡ 0 → k ≡ n) → ((b ≡ 0 → ⊥) → k ≡ n) → k ≡ n
by_flag zero none some = none refl
by_flag (suc b) none some = some (λ e. omega arith)

module _ {A : Type 0} (p : Reader A) (s : List ℕ) (at : ℕ) (h : IsOk (option p s at)) where
  option-by : (k : ℕ) → (get_or s at 0 ≡ 0 → k ≡ at + 1) → ((get_or s at 0 ≡ 0 → ⊥) → k ≡ next_of (p s (at + 1))) → k ≡ next_of (option p s at)
  option-by k none some = by_flag _ (λ e. none e ∙ option-none-next s at p h e) (λ z. option-some-next s at p h k (some z) z)

  pub option-past : (step : ℕ → ℕ → Type 0) → ((k m : ℕ) → step k m → m ≡ next_of (p s k)) → (k : ℕ) → Skipped step (get_or s at 0) (at + 1) k → k ≡ next_of (option p s at)
  option-past step past k r = option-by k r.none (λ z. past (at + 1) k (r.some z))

  module _ (size : ℕ) (w : Sized p size) where
    pub option-room : Moves p → (get_or s at 0 ≡ 0 → ⊥) → at + 1 + size ≤ length s
    option-room m z =
        let i = option_in s at p h in
        let v = option-held s at p h z in
        let e = w.sized s (at + 1) v in
        let l : at + 1 ≤ length s = omega arith in
        let n = (m.moves s (at + 1) l v).1 in
        omega arith

    pub option-sized : (step : ℕ → ℕ → Type 0) → ((k m : ℕ) → step k m → m ≡ k + size) → (k : ℕ) → Skipped step (get_or s at 0) (at + 1) k → k ≡ next_of (option p s at)
    option-sized step past k r = option-by k r.none (λ z. past (at + 1) k (r.some z) ∙ sym (w.sized s (at + 1) (option-held s at p h z)))

pub else-past : (inner : Reader Stmt) (s : List ℕ) (at : ℕ) → IsOk (else_body inner s at) → (step : ℕ → ℕ → Type 0) → ((k m : ℕ) → step k m → m ≡ next_of (body inner s k)) → (k : ℕ) → Skipped step (get_or s at 0) (at + 1) k → k ≡ next_of (else_body inner s at)
else-past inner s at h step past k r = by_flag _ (λ e. r.none e ∙ sym (next_is (else_none inner s at h e))) (λ z. sym (next_is (else_some inner s at h z k (past (at + 1) k (r.some z)))))

module _ {A : Type 0} (p : Reader A) (size : ℕ) (z : Sized p size) (s : List ℕ) (at : ℕ) where
  module _ {B : Type 0} (nil : B) (cons : A → B → B) (h : IsOk (counted nil cons p s at)) where
    pub vec-next : at + 1 + get_or s at 0 * size ≡ next_of (counted nil cons p s at)
    vec-next = vec-end nil cons p size z s at h

    pub vec-room : Moves p → (at < length s) × (at + 1 + get_or s at 0 * size ≤ length s)
    vec-room m =
        let i = counted_in s at nil cons p h in
        let l : at ≤ length s = omega arith in
        let e = vec-next in
        let f = ((counted-moves nil cons m).moves s at l h).1 in
        (i, omega arith)

-- a Vec stepped over value by value, by steps that lead past each
module _ {A B : Type 0} (nil : B) (cons : A → B → B) (p : Reader A) (s : List ℕ) (at : ℕ) (h : IsOk (counted nil cons p s at)) (step : ℕ → ℕ → Type 0) (past : (k m : ℕ) → step k m → m ≡ next_of (p s k)) where
  remains_at : (i k : ℕ) → i ≤ get_or s at 0 → Reached step i (at + 1) k → Remains nil cons p s (next_of (counted nil cons p s at)) (get_or s at 0 - i) k
  remains_at zero k l r = rw r (remains-none nil cons p s at (get_or s at 0) h refl)
  remains_at (suc i) k l (m, r, e) = rw (← add-one i) (remains-step (remains_at i m (omega arith) r) (omega arith) (past m k e))

  pub reached-held : (i k : ℕ) → i < get_or s at 0 → Reached step i (at + 1) k → IsOk (p s k)
  reached-held i k l r = remains-first (remains_at i k (omega arith) r) l

  pub reached-end : (k : ℕ) → Reached step (get_or s at 0) (at + 1) k → k ≡ next_of (counted nil cons p s at)
  reached-end k r = remains-done (remains_at (get_or s at 0) k (omega arith) r) (omega arith)

module _ (t : List Text) (s : List ℕ) (at : ℕ) where
  pub operand-next : IsOk (operand t s at) → (k : ℕ) → k ≡ next_of (option u64 s (at + 2)) → (m : ℕ) → m ≡ next_of (option slice s k) → m + 8 ≡ next_of (operand t s at)
  operand-next h k e m f = sym (next_is (of.operand_is t s at h k e m f))

  pub single_next : IsOk (operand t s at) → is_single s at ≡ true → at + 20 ≡ next_of (operand t s at)
  single_next h e = sym (next_is (single_is t s at h e))

  pub range_next : IsOk (for_range t s at) → (k : ℕ) → k ≡ next_of (held t s at) → (m : ℕ) → m ≡ next_of (held t s k) → (n : ℕ) → n ≡ next_of (option (held t) s m) → n ≡ next_of (for_range t s at)
  range_next h k e m f n g = sym (next_is (of.for_range_is t s at h k e m f n g))

  module _ (h : IsOk (modifier t s at)) where
    pub inv-next : get_or s at 0 ≡ 2 → at + 9 ≡ next_of (modifier t s at)
    inv-next b = sym (next_is (of.inv_is t s at h b))

    pub pow-next : get_or s at 0 ≡ 3 → (k : ℕ) → k ≡ next_of (held t s (at + 1)) → k + 8 ≡ next_of (modifier t s at)
    pow-next b k e = sym (next_is (of.pow_is t s at h b k e))

-- an operation or a comparison
module _ (t : List Text) (left : ℕ) (s : List ℕ) (at : ℕ) (h : IsOk (expr t left s at)) (l : 8 ≤ get_or s at 0) where
  operation : (get_or s at 0 ≡ 8) ⊎ (get_or s at 0 ≡ 9)
  operation = ex.operation t left s at h l

  pub lhs-held : IsOk (expr t (left - 1) s (at + 2))
  lhs-held = ex.pair_lhs t left s at h operation

  module _ (k : ℕ) (k-end : k ≡ next_of (expr t (left - 1) s (at + 2))) where
    pub rhs-held : IsOk (expr t (left - 1) s k)
    rhs-held = ex.pair_rhs t left s at h operation k k-end

    module _ (m : ℕ) (m-end : m ≡ next_of (expr t (left - 1) s k)) where
      pub pair-inside : m + 8 ≤ length s
      pair-inside = ex.pair_inside t left s at h operation k k-end m m-end

      pub pair-next : m + 8 ≡ next_of (expr t left s at)
      pair-next = ex.pair_next t left s at h operation k k-end m m-end

pub ruleset exprs = (lhs-held, rhs-held, pair-next, ex.expr_in, ex.expr_left, ex.int_lit-inside, ex.call-args, ex.call-inside, ex.neg_inner)

pub ruleset modifier_parts = (of.modifier_in, of.pow_exponent, of.pow-inside, of.control_count_lem, of.control-inside, of.control-next, inv-next, pow-next)

pub u64-sized : Sized u64 8
u64-sized = number-sized 8

pub ruleset options = (option-past, option-sized, else-past, option_in, option-held, else_in, else_body_lem, option-room, u64-sized, slice-sized, qualifier-sized, number-moves, of.slice-moves, of.qualifier-moves)

pub ruleset vecs = (counted_in, reached-held, reached-end)
