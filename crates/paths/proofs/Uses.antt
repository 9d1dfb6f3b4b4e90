-- The check of uses gives each operand of a list its error, if one of the marks covers it. Assumes nothing.
use mathlib.Core.Path.{◌≡◌, refl, subst}
use mathlib.Core.Option.{Option, none, some}
use mathlib.Core.List.{List, [], ◌∷◌, ◌++◌}
use mathlib.Core.Logic.{◌⊎◌, inl, inr, ◌↔◌}
use Prim.Native.Nat.{ℕ, zero, suc, ◌-◌, ◌≤◌, ◌<◌}
use native.Mathlib.Omega.{arith}
use native.Mathlib.Decide.{ℕ_discrete}
use lib.Dec.{T}
use Rattle.span.specs.declared.Span.{Span}
use Rattle.ast.specs.Tree.{GateOperand}
use Rattle.sema.specs.Messages
use Rattle.sema.specs.Symbols.{Symbols}
use Rattle.sema.specs.Marks.{Marks, lookup_measured, first_covered, smallest_covered}
use Rattle.sema.specs.Operands.{is_some, check_operand, used_says, used_index_says, use_by, use_operands}
use Rattle.paths.specs.Steps.{Step, State, Some, covers}
use Rattle.paths.specs.Places.{Place, listed}
use Rattle.paths.specs.Errors.{Line, use_lines, Named, Errs, Lists, done, has, skip}
use Rattle.paths.proofs.Standing.{Sound, cover}
use Rattle.paths.proofs.Silent.{use_lines-append, silent-operand}

-- the one line of an operand that has one, or none
data Outcome (R : Line → Type 0) : List Line → Type 0 where
  told : {l : Line} → R l → Outcome R (l ∷ [])
  untold : ((l : Line) → R l → ⊥) → Outcome R []

-- ── One operand ──

free_next : (C : ℕ → Type 0) (lo j : ℕ) → ((i : ℕ) → lo ≤ i → i < j → C i → ⊥) → (C j → ⊥) → (i : ℕ) → lo ≤ i → i < suc j → C i → ⊥
free_next C lo j f g i x y z = go (ℕ_discrete i j)
  where
    go : Dec (i ≡ j) → ⊥
    go (yes p) = g (subst C p z)
    go (no p) = f i x (omega arith) z

module _ (M : Marks) (op : GateOperand) (sp : Span) (C : Option ℕ → Type 0) (h : (i : Option ℕ) → T (is_some (lookup_measured M op.name i)) ↔ C i) where
  plain : (v : Option Span) → (T (is_some v) ↔ C op.index) → Outcome (Named C op sp none) (use_lines (used_says op sp v))
  unfolding used_says
  plain none e = untold (λ l n. e.1 n.0)
  plain (some a) e = told (e.0 tt, refl)

  module _ (r : ℕ × ℕ) where
    abbrev Found : Option (ℕ × Span) → Type 0
    Found c = Outcome (Named C op sp (some r)) (use_lines (used_index_says op.name sp c))

    -- the indices below j are not covered, and so many are left
    first_step : (left j : ℕ) → suc left ≡ suc r.1 - j → r.0 ≤ j → ((i : ℕ) → r.0 ≤ i → i < j → C (some i) → ⊥)
        → (v : Option Span) → (T (is_some v) ↔ C (some j)) → (c : Option (ℕ × Span))
        → (((i : ℕ) → r.0 ≤ i → i < suc j → C (some i) → ⊥) → Found c)
        → Found (elim v [ none ↦ c | some at ↦ some (j, at) ])
    unfolding used_index_says
    first_step left j p q free none e c go = go (free_next (λ i. C (some i)) r.0 j free e.1)
    first_step left j p q free (some a) e c go = told (j, q, omega arith, e.0 tt, free, refl)

    first : (left j : ℕ) → left ≡ suc r.1 - j → r.0 ≤ j → ((i : ℕ) → r.0 ≤ i → i < j → C (some i) → ⊥) → Found (first_covered M op.name left j)
    unfolding first_covered used_index_says
    first zero j p q free = untold (λ l n. free n.0 n.1 (let x = n.2 in omega arith) n.3)
    first (suc left) j p q free =
        first_step left j p q free (lookup_measured M op.name (some j)) (h (some j)) (first_covered M op.name left (suc j))
        (λ free'. first left (suc j) (omega arith) (omega arith) free')

  use_ok : (r : Option (ℕ × ℕ)) → Outcome (Named C op sp r) (use_lines (use_by M op sp r))
  unfolding use_by smallest_covered
  use_ok none = plain (lookup_measured M op.name op.index) (h op.index)
  use_ok (some r) = first r (suc r.1 - r.0) r.0 refl (omega arith) (λ i x y z. let w : ⊥ = omega arith in w)

-- ── A list of operands ──

outcome_lists : {R : Place → Line → Type 0} {q : Place} {qs : List Place} {ls ks : List Line} → Outcome (R q) ls → Lists R qs ks → Lists R (q ∷ qs) (ls ++ ks)
outcome_lists (told x) w = has x w
outcome_lists (untold x) w = skip x w

both_iff : {A B D : Type 0} → A ↔ B → B ↔ D → A ↔ D
both_iff f g = (λ a. g.0 (f.0 a), λ d. f.1 (g.1 d))

module _ {I : Type 0} (M : Marks) (st : I → State) (S : Sound M st) (x : Step) where
  -- a path of one statement reaches that statement
  here : (P : State → Type 0) → ((i : I) × P (st i)) ↔ Some {J = I × Unit {0}} (λ j. st j.0) (λ j. x ∷ []) x.number P
  here P = (
    λ w. record { path = (w.0, tt); reaches = inl (refl, w.1) },
    λ w. let go : (((x.number ≡ x.number) × P (st w.path.0)) ⊎ ⊥) → P (st w.path.0) = elim [ inl y ↦ y.1 | inr y ↦ absurd y ] in (w.path.0, go w.reaches),
  )

  pub uses_ok : (ss : Symbols) (sp : Span) (i : ℕ) (ops : List GateOperand)
      → Lists (Errs {J = I × Unit {0}} (λ j. st j.0) (λ j. x ∷ [])) (listed x.number ss sp i ops) (use_lines (use_operands ss M sp ops))
  unfolding use_operands
  uses_ok ss sp i [] = done
  uses_ok ss sp i (op ∷ ops) =
      rw (use_lines-append, use_lines-append (check_operand ss op Messages.a_qubit), (silent-operand ss op Messages.a_qubit).none-counted)
      (outcome_lists (use_ok M op sp _ (λ k. both_iff (cover M st S ss op.name k) (here (λ m. T (covers ss m op.name k)))) op.slice)
      (uses_ok ss sp (suc i) ops))
