-- Uses that a mark covers: the span of the measure statement at a place, and one law for each way out. Assumes nothing.
use Prim.Native.Nat.{ℕ, zero, suc, ◌+◌, ◌≤◌, ◌<◌}
use mathlib.Core.Path.{◌≡◌, refl, sym, ap, ◌∙◌}
use mathlib.Core.List.{List}
use mathlib.Core.Option.{Option, none, some}
use native.Mathlib.Omega.{arith}
use lib.ListN.{length}
use lib.Dec.{leb}
use Rattle.span.specs.declared.Span.{Span}
use Rattle.ast.specs.Tree.{Text}
use Rattle.tree.specs.Ans.{IsOk, next_of}
use Rattle.tree.specs.Read.{option}
use Rattle.tree.specs.Stmts.{operand, measure}
use Rattle.tree.specs.Decode.{texts_of}
use Rattle.sema.specs.Marks.{Key, key, smallest_covered}
use Rattle.sema.specs.Operands.{used_says, used_index_says, use_by, check_use_after_measure}
use Rattle.std.specs.Prelude.{Option as Maybe, Some, None}
use Rattle.context.specs.declared.GateOperand.{GateOperand as Operand}
use Rattle.context.specs.declared.Sink.{Sink}
use Rattle.context.specs.Values.{number_of, ends_of, operand_of}
use Rattle.context.specs.View.{span_at, stmt_span, measure_span, place_in, mark_by, marks_of, PlaceOk, Placed}
use Rattle.lines.specs.declared.Message.{Message}
use Rattle.lines.specs.declared.Note.{Note}
use Rattle.lines.specs.declared.Diagnostic.{Diagnostic}
use Rattle.lines.specs.Values.{error_with_note_of, Reported}
use Rattle.sheet.specs.Sheet.{marked, lookup_in, least_in, by_whole, smallest_in, covered_of, Distinct}
use Rattle.sheet.specs.Places.{by_test, first_pos, marked-none, marked-is, lookup-marks}
use Rattle.sheet.specs.Smallest.{IsLeast, least_is, smallest-marks}
use Rattle.sheet.specs.Kept.{lookup-placed, smallest-placed}
use Rattle.accepted.specs.Cases.{blank_operand}
use Rattle.accepted.specs.Parts.{given_is, start, field, known, past, ends}
use Rattle.accepted.specs.Fields.{span_in, span_is}
use Rattle.accepted.specs.Operands.{operand-name_in}
use Rattle.promises.specs.Emitted.{Emitted, emitted-none, emitted_as, emitted_report}

-- a measure statement whose case byte stands at a place
module _ (s : List ℕ) (at : ℕ) (h : IsOk (measure (texts_of s) at s (at + 1))) where
  pub measured-qubit : IsOk (operand (texts_of s) s (at + 1))
  unfolding measure
  measured-qubit = field _ _ (start h)

  pub measured_in : at + 1 ≤ length s
  measured_in = let i = operand-name_in (texts_of s) s (at + 1) measured-qubit in omega arith

  module _ (k : ℕ) (k-end : k ≡ next_of (operand (texts_of s) s (at + 1))) where
    pub measured_target : IsOk (option (operand (texts_of s)) s k)
    unfolding measure
    measured_target = field _ _ (past _ _ blank_operand k k-end (start h))

    module _ (m : ℕ) (m-end : m ≡ next_of (option (operand (texts_of s)) s k)) where
      pub measured-inside : m + 8 ≤ length s
      unfolding measure
      measured-inside = span_in s m (field _ _ (past _ _ none m m-end (past _ _ blank_operand k k-end (start h))))

      pub measured-span : (r : Span) → r ≡ span_at s m → r ≡ measure_span s at
      unfolding measure measure_span
      measured-span r e =
          e ∙ sym (given_is (ends _ (known _ _ (m + 8) (span_is s m) refl (past _ _ none m m-end (past _ _ blank_operand k k-end (start h))))) _ stmt_span)

pub ruleset measure_parts = (measured-qubit, measured_target, measured-inside, measured-span)

-- a place that is not 0
pub place_read : (tree : List ℕ) (p : ℕ) → (p ≡ 0 → ⊥) → PlaceOk tree p → IsOk (measure (texts_of tree) p tree (p + 1))
place_read tree zero z h = absurd (z refl)
place_read tree (suc p) z h = h

mark-some : (tree : List ℕ) (p : ℕ) → (p ≡ 0 → ⊥) → mark_by tree p ≡ some (measure_span tree p)
unfolding mark_by
mark-some tree zero z = absurd (z refl)
mark-some tree (suc p) z = refl

mark-none : (tree : List ℕ) (p : ℕ) → p ≡ 0 → mark_by tree p ≡ none
unfolding mark_by
mark-none tree p e = rw e

-- the place of a covered index is not 0
abbrev HasPlace : Maybe (ℕ × ℕ) → Type 0
HasPlace None = Unit {0}
HasPlace (Some (i, p)) = 0 < p

least-place : (own : ℕ → ℕ) (a b : ℕ) (c : Maybe (ℕ × ℕ)) → IsLeast own a b c → HasPlace c
unfolding IsLeast
least-place own a b None h = tt
least-place own a b (Some (i, p)) h = h.2

module _ (ks : List Key) (sheet : List ℕ) (x a b : ℕ) where
  whole-place : (w : ℕ) → place_in ks sheet (key x none) ≡ w → Distinct ks
      → HasPlace (by_whole w (least_in x (a, b) ks sheet) (Some (a, (lookup_in ks sheet x (some a)))))
  unfolding lookup_in
  whole-place zero e d = least-place _ a b _ (least_is x a b ks sheet d)
  whole-place (suc w) e d = first_pos (place_in ks sheet (key x (some a))) (place_in ks sheet (key x none)) (omega arith)

  smallest-place : Distinct ks → HasPlace (smallest_in ks sheet x (a, b))
  unfolding smallest_in
  smallest-place d =
      by_test (leb a b)
      (λ t. rw t (whole-place (place_in ks sheet (key x none)) refl d))
      (λ t. rw t tt)

-- the measure statement of what is looked up
module _ (tree : List ℕ) (ks : List Key) (sheet : List ℕ) (x : ℕ) (placed : Placed tree sheet) where
  pub looked_up : (i : Option ℕ) {w : Maybe ℕ} {p : ℕ} → w ≡ marked (lookup_in ks sheet x i) → w ≡ Some p → IsOk (measure (texts_of tree) p tree (p + 1))
  looked_up i {p = p} e f =
      let m = marked-is (lookup_in ks sheet x i) p (sym e ∙ f) in
      place_read tree p m.1 (rw (← m.0) (lookup-placed tree ks sheet x placed i))

  pub covered : (ends : ℕ × ℕ) (i p : ℕ) (c : Maybe (ℕ × ℕ)) → Distinct ks → c ≡ smallest_in ks sheet x ends → c ≡ Some (i, p) → IsOk (measure (texts_of tree) p tree (p + 1))
  covered ends i p c d e f =
      let g : Some (i, p) ≡ smallest_in ks sheet x ends = sym f ∙ e in
      let l : 0 < p = rw (← g) at (smallest-place ks sheet x ends.0 ends.1 d) in
      place_read tree p (λ z. omega arith) (smallest-placed tree ks sheet x placed ends i p g)

-- what is looked up by places is what the marks say
module _ (tree : List ℕ) (ks : List Key) (sheet : List ℕ) where
  covered_is : (x a b : ℕ) (c : Maybe (ℕ × ℕ)) → Distinct ks → c ≡ smallest_in ks sheet x (a, b) → smallest_covered (marks_of tree ks sheet) x (a, b) ≡ covered_of tree c
  covered_is x a b c d e = sym (ap (covered_of tree) e ∙ smallest-marks tree ks sheet x a b d)

  -- without a slice
  module _ (op : Operand) (sp : Span) (f : ends_of op.slice ≡ none) (q : ℕ) (e : q ≡ lookup_in ks sheet op.name (number_of op.index)) where
    pub use_by_lem : (at : Option Span) → mark_by tree q ≡ at → used_says (operand_of op) sp at ≡ check_use_after_measure (marks_of tree ks sheet) (operand_of op) sp
    unfolding use_by
    use_by_lem at g =
        ap (used_says (operand_of op) sp) (sym g ∙ ap (mark_by tree) e ∙ lookup-marks tree ks sheet op.name (number_of op.index))
        ∙ ap (use_by (marks_of tree ks sheet) (operand_of op) sp) (sym f)

-- what is said
module _ {t : List Text} {s : Sink} {o : List ℕ} (tree : List ℕ) (ks : List Key) (sheet : List ℕ) (sp : Span) where
  module _ (x : ℕ) (ends : ℕ × ℕ) (c : Maybe (ℕ × ℕ)) (d : Distinct ks) (e : c ≡ smallest_in ks sheet x ends) where
    pub slice_unused : c ≡ None → Emitted t (used_index_says x sp (smallest_covered (marks_of tree ks sheet) x ends)) s o s o
    unfolding used_index_says
    slice_unused f = rw (covered_is tree ks sheet x ends.0 ends.1 c d e, f) emitted-none

    pub slice-used : {i p : ℕ} (at : Span) → c ≡ Some (i, p) → at ≡ measure_span tree p
        → {v : Diagnostic} {r : Sink} {o' : List ℕ} → v ≡ error_with_note_of (Message.UsedIndex x i) sp Note.MeasuredHere at → Reported t v s o r o'
        → Emitted t (used_index_says x sp (smallest_covered (marks_of tree ks sheet) x ends)) s o r o'
    unfolding used_index_says
    slice-used at f g j p = rw (covered_is tree ks sheet x ends.0 ends.1 c d e, f, ← g) (emitted_report j p)

  module _ (op : Operand) where
    pub use_slice : {ends : ℕ × ℕ} {r : Sink} {o' : List ℕ} → op.slice ≡ Some ends
        → Emitted t (used_index_says op.name sp (smallest_covered (marks_of tree ks sheet) op.name ends)) s o r o'
        → Emitted t (check_use_after_measure (marks_of tree ks sheet) (operand_of op) sp) s o r o'
    unfolding use_by
    use_slice e p = rw e p

    module _ (f : op.slice ≡ None) {w : Maybe ℕ} (e : w ≡ marked (lookup_in ks sheet op.name (number_of op.index))) where
      pub use_none : w ≡ None → Emitted t (check_use_after_measure (marks_of tree ks sheet) (operand_of op) sp) s o s o
      unfolding used_says
      use_none z =
          let found = lookup_in ks sheet op.name (number_of op.index) in
          emitted_as emitted-none (use_by_lem tree ks sheet op sp (ap ends_of f) found refl none (mark-none tree found (marked-none found (sym e ∙ z))))

      pub use_marked : {p : ℕ} (at : Span) → w ≡ Some p → at ≡ measure_span tree p
          → {v : Diagnostic} {r : Sink} {o' : List ℕ} → v ≡ error_with_note_of (Message.Used op) sp Note.MeasuredHere at → Reported t v s o r o'
          → Emitted t (check_use_after_measure (marks_of tree ks sheet) (operand_of op) sp) s o r o'
      unfolding used_says
      use_marked {p = p} at z g j said =
          let m = marked-is (lookup_in ks sheet op.name (number_of op.index)) p (sym e ∙ z) in
          emitted_as (emitted_report j said) (use_by_lem tree ks sheet op sp (ap ends_of f) p (sym m.0) (some at) (mark-some tree p m.1 ∙ rw g))

pub ruleset slice-uses = (slice_unused, slice-used)

pub ruleset uses = (use_slice, use_none, use_marked)
