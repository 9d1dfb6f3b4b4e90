-- Operands as the code reads them: from what each part gave. Assumes nothing.
use Prim.Native.Nat.{ℕ, zero, suc, ◌+◌}
use mathlib.Core.Path.{◌≡◌, refl, sym, ◌∙◌}
use mathlib.Core.List.{List}
use mathlib.Core.Option.{Option, none, some}
use mathlib.Core.Bool.{true}
use native.Mathlib.Omega.{arith}
use lib.ListN.{get_or}
use Rattle.std.specs.Prelude.{Option as Maybe, Some, None, IsSomeAnd}
use Rattle.span.specs.declared.Span.{Span}
use Rattle.ast.specs.Tree.{Text}
use Rattle.tree.specs.Ans.{Reader, ok, IsOk}
use Rattle.tree.specs.Read.{u64, option}
use Rattle.tree.specs.Texts.{is_name}
use Rattle.tree.specs.Stmts.{slice, operand}
use Rattle.context.specs.View.{number_at, span_at}
use Rattle.context.specs.Values.{number_of, ends_of}
use Rattle.accepted.specs.Parts.{next_is, start, known, ends}
use Rattle.accepted.specs.Fields.{option_in, option-none, text_is, span_is}
use Rattle.accepted.specs.Operands.{some_number_inside, some_number_is, some_slice_inside, some_slice_is, operand-name_in, operand-index, operand-slice}
use Rattle.accepted.specs.Singles.{is_single, single_is}

module _ (s : List ℕ) (at : ℕ) where
  -- an Option: none behind a 0, and else a value of which the step tells P
  option_read : {A B : Type 0} (p : Reader A) (of : Maybe B → Option A) {P : B → Type 0} → IsOk (option p s at) → (v : Maybe B) (k : ℕ) → of None ≡ none
      → (get_or s at 0 ≡ 0 → (v ≡ None) × (k ≡ at + 1)) → ((get_or s at 0 ≡ 0 → ⊥) → IsSomeAnd v P) → ((get_or s at 0 ≡ 0 → ⊥) → (b : B) → P b → option p s at ≡ ok (of (Some b)) k) → option p s at ≡ ok (of v) k
  option_read {A} {B} p of {P} h v k o empty held told = go (get_or s at 0) refl
    where
      some : (v : Maybe B) → IsSomeAnd v P → (get_or s at 0 ≡ 0 → ⊥) → option p s at ≡ ok (of v) k
      some (Some b) q z = told z b q
      some None q z = absurd q

      go : (b : ℕ) → get_or s at 0 ≡ b → option p s at ≡ ok (of v) k
      go zero e = rw ((empty e).0, (empty e).1, o) (option-none s at p h e)
      go (suc b) e = let z : get_or s at 0 ≡ 0 → ⊥ = λ n. let f : suc b ≡ 0 = sym e ∙ n in omega arith in some v (held z) z

  pub number_read : {P : ℕ → Type 0} → IsOk (option u64 s at) → (v : Maybe ℕ) (k : ℕ) → (get_or s at 0 ≡ 0 → (v ≡ None) × (k ≡ at + 1)) → ((get_or s at 0 ≡ 0 → ⊥) → IsSomeAnd v P)
      → ((n : ℕ) → P n → (n ≡ number_at 8 s (at + 1)) × (k ≡ at + 1 + 8)) → option u64 s at ≡ ok (number_of v) k
  number_read h v k empty held told = option_read u64 number_of h v k refl empty held (λ z n q. let t = told n q in let e : k ≡ at + 9 = omega arith in rw (t.0, e) (some_number_is s at h z))

  pub ends_read : {P : ℕ × ℕ → Type 0} → IsOk (option slice s at) → (v : Maybe (ℕ × ℕ)) (k : ℕ) → (get_or s at 0 ≡ 0 → (v ≡ None) × (k ≡ at + 1)) → ((get_or s at 0 ≡ 0 → ⊥) → IsSomeAnd v P)
      → ((e : ℕ × ℕ) → P e → (e ≡ (number_at 8 s (at + 1), number_at 8 s (at + 1 + 8))) × (k ≡ at + 1 + 16)) → option slice s at ≡ ok (ends_of v) k
  ends_read h v k empty held told = option_read slice ends_of h v k refl empty held (λ z e q. let t = told e q in let f : k ≡ at + 17 = omega arith in let g : at + 1 + 8 ≡ at + 9 = omega arith in rw (t.0, f, g) (some_slice_is s at h z))

  pub operand_read : (t : List Text) → IsOk (operand t s at) → (x : ℕ) → x ≡ number_at 2 s at → {i : Option ℕ} {k : ℕ} → option u64 s (at + 2) ≡ ok i k → {e : Option (ℕ × ℕ)} {m : ℕ} → option slice s k ≡ ok e m → (sp : Span) → sp ≡ span_at s m → operand t s at ≡ ok (record { name = x; index = i; slice = e; span = sp }) (m + 8)
  unfolding operand
  operand_read t h x p {i} {k} q {e} {m} r sp u = rw (p, u) (ends _ (known _ _ (m + 8) (span_is s m) refl (known _ _ m (λ o. r) refl (known _ _ k (λ o. q) refl (known _ _ (at + 2) (text_is s at t is_name) refl (start h))))))

  pub single_read : (t : List Text) → IsOk (operand t s at) → is_single s at ≡ true → (x i : ℕ) (sp : Span) → x ≡ number_at 2 s at → i ≡ number_at 8 s (at + 3) → sp ≡ span_at s (at + 12) → operand t s at ≡ ok (record { name = x; index = some i; slice = none; span = sp }) (at + 20)
  single_read t h e x i sp p q r = rw (p, q, r) (single_is t s at h e)

pub ruleset operand_parts = (next_is, operand-name_in, operand-index, operand-slice)

pub ruleset options_read = (option_in, some_number_inside, some_slice_inside)
