-- The widths of operands, beside one another. Assumes nothing.
use Rattle.std.specs.Prelude.{ℕ, ◌≡◌, refl, Bool, true, false, not, Option as Maybe, Some, None, List, [], ◌∷◌, ◌++◌, eqb}
use Rattle.std.proofs.Math.Option.{Option, none, some}
use Rattle.std.proofs.Common.{eq-eqb}
use Rattle.span.specs.declared.Span.{Span}
use Rattle.ast.specs.Tree.{GateOperand}
use Rattle.sema.specs.Messages
use Rattle.sema.specs.Messages.{a_bit, Diagnostic, error, error_with_note}
use Rattle.sema.specs.Symbols.{Symbols}
use Rattle.sema.specs.Operands.{unless, check_operand, operand_width}
use Rattle.sema.specs.Stmts.{all_equal, widths_say, measure_target}

-- what is said of the widths of a measurement's source and target, if both have one; `at` is the target's span
unfoldable pub widths_by : Span → Span → Option ℕ → Option ℕ → List Diagnostic
widths_by sp at none b = []
widths_by sp at (some a) none = []
widths_by sp at (some a) (some b) = unless (eqb a b) (error_with_note (Messages.measurement_widths a b) sp Messages.target_declared at)

abbrev pub measure_widths : Symbols → GateOperand → Span → GateOperand → List Diagnostic
measure_widths ss qubit sp target = widths_by sp target.span (operand_width ss qubit) (operand_width ss target)

pub measure_target_lem : (ss : Symbols) (qubit : GateOperand) (sp : Span) (target : GateOperand)
    → measure_target ss qubit sp (some target) ≡ check_operand ss target a_bit ++ measure_widths ss qubit sp target
unfolding measure_target widths_by
measure_target_lem ss qubit sp target = go (operand_width ss qubit) (operand_width ss target)
  where
    say : ℕ → ℕ → List Diagnostic
    say a b = unless (eqb a b) (error_with_note (Messages.measurement_widths a b) sp Messages.target_declared target.span)

    go : (x y : Option ℕ)
        → check_operand ss target a_bit ++ elim x [ none ↦ [] | some a ↦ elim y [ none ↦ [] | some b ↦ say a b ] ]
        ≡ check_operand ss target a_bit ++ widths_by sp target.span x y
    go none y = refl
    go (some a) none = refl
    go (some a) (some b) = refl

-- are the widths all equal?
unfoldable pub uniform : List ℕ → Bool
uniform [] = true
uniform (w ∷ ws) = all_equal w ws

-- and behind one that was met?
unfoldable pub agree : Maybe ℕ → List ℕ → Bool
agree None ws = uniform ws
agree (Some w) ws = all_equal w ws

-- a width, if there is one, ahead of others
abbrev pub ahead : Maybe ℕ → List ℕ → List ℕ
ahead None ws = ws
ahead (Some w) ws = w ∷ ws

-- does a width differ from the one that was met?
abbrev pub differ : Maybe ℕ → Maybe ℕ → Bool
differ None width = false
differ (Some m) None = false
differ (Some m) (Some w) = not (eqb w m)

pub widths_say_lem : (sp : Span) (ws : List ℕ) → widths_say sp ws ≡ unless (uniform ws) (error Messages.broadcasting sp)
unfolding widths_say uniform all_equal
widths_say_lem sp [] = refl
widths_say_lem sp (w ∷ ws) = rw (eq-eqb w w refl)
