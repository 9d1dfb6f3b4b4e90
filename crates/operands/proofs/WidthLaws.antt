-- Widths of operands: one law for each way out. Assumes nothing.
use Prim.Native.Nat.{ℕ}
use mathlib.Core.Path.{◌≡◌, refl, sym}
use mathlib.Core.Bool.{Bool, true, false, not, cond, ◌&&◌}
use mathlib.Core.List.{List}
use mathlib.Core.Option.{Option, none, some}
use borrow.Author.Tests.{eq-eqb, ne_eqb}
use Rattle.span.specs.declared.Span.{Span}
use Rattle.ast.specs.Tree.{Text, GateOperand}
use Rattle.sema.specs.Symbols.{Symbols, Symbol, get}
use Rattle.sema.specs.Operands.{width_by, operand_width}
use Rattle.sema.specs.Stmts.{wide, all_equal}
use Rattle.std.specs.Prelude.{Option as Maybe, Some, None}
use Rattle.std.specs.Option.{option_or}
use lib.Dec.{eqb}
use Rattle.context.specs.declared.GateOperand.{GateOperand as Operand}
use Rattle.context.specs.declared.Sink.{Sink}
use Rattle.context.specs.Values.{number_of, operand_of}
use Rattle.lines.specs.declared.Message.{Message}
use Rattle.lines.specs.declared.Note.{Note}
use Rattle.lines.specs.declared.Diagnostic.{Diagnostic}
use Rattle.lines.specs.Values.{error_with_note_of, Reported}
use Rattle.promises.specs.Emitted.{Emitted, emitted-none, emitted_report}
use Rattle.operands.specs.Widths.{widths_by, measure_widths, uniform, agree, ahead, differ}

-- an operand with an index and no slice has no width above 1
pub width_single : (ss : Symbols) (op : GateOperand) {i : ℕ} → op.slice ≡ none → op.index ≡ some i → (ws : List ℕ) → ws ≡ wide (operand_width ss op) ws
unfolding operand_width width_by wide
width_single ss op e f ws = go (get ss op.name) refl
  where
    go : (found : Option Symbol) → get ss op.name ≡ found → ws ≡ wide (operand_width ss op) ws
    go none g = rw (g, operand_width)
    go (some sym) g = rw (g, operand_width, e, f)

-- one width more
pub agree_next : (met w : Maybe ℕ) (ws : List ℕ) (b : Bool) → b ≡ differ met w → agree met (ahead w ws) ≡ cond b false (agree (option_or met w) ws)
unfolding agree uniform all_equal
agree_next None None ws b e = rw e
agree_next None (Some w) ws b e = rw e
agree_next (Some m) None ws b e = rw e
agree_next (Some m) (Some w) ws b e = rw e (go (eqb w m))
  where
    go : (c : Bool) → (c && all_equal m ws) ≡ cond (not c) false (all_equal m ws)
    go true = refl
    go false = refl

-- the widths of a measurement
module _ {t : List Text} {s : Sink} {o : List ℕ} (ss : Symbols) (qubit target : Operand) (sp : Span) {a : Maybe ℕ} (e : number_of a ≡ operand_width ss (operand_of qubit)) where
  pub source_none : a ≡ None → Emitted t (measure_widths ss (operand_of qubit) sp (operand_of target)) s o s o
  unfolding widths_by
  source_none f = rw (← e, f) emitted-none

  module _ {b : Maybe ℕ} (g : number_of b ≡ operand_width ss (operand_of target)) {m : ℕ} (f : a ≡ Some m) where
    pub target_none : b ≡ None → Emitted t (measure_widths ss (operand_of qubit) sp (operand_of target)) s o s o
    unfolding widths_by
    target_none j = rw (← e, ← g, f, j) emitted-none

    module _ {n : ℕ} (j : b ≡ Some n) where
      pub widths_same : m ≡ n → Emitted t (measure_widths ss (operand_of qubit) sp (operand_of target)) s o s o
      unfolding widths_by
      widths_same k = rw (← e, ← g, f, j, eq-eqb m n k) emitted-none

      pub widths_other : (m ≡ n → ⊥) → {d : Diagnostic} {r : Sink} {o' : List ℕ} → d ≡ error_with_note_of (Message.MeasurementWidths m n) sp Note.TargetDeclared target.span
          → Reported t d s o r o' → Emitted t (measure_widths ss (operand_of qubit) sp (operand_of target)) s o r o'
      unfolding widths_by
      widths_other k q p = rw (← e, ← g, f, j, ne_eqb m n k) (emitted_report q p)

pub ruleset widths_said = (source_none, target_none, widths_same, widths_other)
