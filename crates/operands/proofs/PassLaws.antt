-- Operands with an index and no slice: whether anything is said of them. Assumes nothing.
use Prim.Native.Nat.{ℕ, zero, suc, ◌+◌}
use mathlib.Core.Path.{◌≡◌, refl, sym, ap, ◌∙◌}
use mathlib.Core.Bool.{Bool, true, false, not, ◌&&◌, false≢true}
use mathlib.Core.List.{List}
use mathlib.Core.Option.{none}
use Rattle.span.specs.declared.Span.{Span}
use Rattle.ast.specs.Tree.{Text, GateOperand}
use Rattle.tree.specs.Ans.{ok, IsOk, given}
use Rattle.tree.specs.Stmts.{operand}
use Rattle.sema.specs.Messages.{a_qubit}
use Rattle.sema.specs.Symbols.{Symbols}
use Rattle.sema.specs.Marks.{Marks, Key}
use Rattle.sema.specs.Operands.{used_says, check_operand, check_use_after_measure}
use Rattle.context.specs.declared.GateOperand.{GateOperand as Operand}
use Rattle.context.specs.Values.{number_of, ends_of, operand_of}
use Rattle.context.specs.View.{mark_by, marks_of}
use Rattle.std.specs.Prelude.{Option as Maybe, is_some}
use Rattle.sheet.specs.Sheet.{marked, lookup_in}
use Rattle.accepted.specs.Cases.{blank_operand}
use Rattle.accepted.specs.Parts.{value_is}
use Rattle.accepted.specs.Singles.{is_single, single_is}
use Rattle.operands.specs.Says.{nothing}
use Rattle.operands.specs.Passing.{passing}
use Rattle.operands.proofs.Checks.{nothing-both}
use Rattle.operands.proofs.UseLaws.{use_by_lem}

-- no mark
unmarked : (tree : List ℕ) (op : GateOperand) (sp : Span) (q : ℕ) (n : Bool) → is_some (marked q) ≡ not n → n ≡ nothing (used_says op sp (mark_by tree q))
unfolding nothing used_says mark_by
unmarked tree op sp zero true e = refl
unmarked tree op sp zero false e = absurd (false≢true e)
unmarked tree op sp (suc q) true e = absurd (false≢true (sym e))
unmarked tree op sp (suc q) false e = refl

-- of an operand with an index and no slice: something is said of it by itself, or nothing but of its use
module _ (t : List Text) (s : List ℕ) (ss : Symbols) (at : ℕ) (single : Bool) (f : single ≡ is_single s at) where
  module _ (g : single ≡ true) (op : Operand) (e : operand t s at ≡ ok (operand_of op) (at + 20)) (quiet : Bool) (q : quiet ≡ nothing (check_operand ss (operand_of op) a_qubit)) where
    passing_is : (m : Marks) (sp : Span) → passing t s ss m sp at ≡ (quiet && nothing (check_use_after_measure m (operand_of op) sp))
    unfolding given
    passing_is m sp = rw (← f, g, e, nothing-both (check_operand ss (operand_of op) a_qubit) (check_use_after_measure m (operand_of op) sp), ← q)

    pub pass_loud : (m : Marks) → quiet ≡ false → (sp : Span) → quiet ≡ passing t s ss m sp at
    pass_loud m z sp = z ∙ sym (passing_is m sp ∙ rw z)

    pub pass_quiet : (ks : List Key) (sheet : List ℕ) → quiet ≡ true → IsOk (operand t s at) → (w : Maybe ℕ) → w ≡ marked (lookup_in ks sheet op.name (number_of op.index))
        → (b : Bool) → is_some w ≡ not b → (sp : Span) → b ≡ passing t s ss (marks_of s ks sheet) sp at
    pass_quiet ks sheet z h w u b v sp =
        let p = lookup_in ks sheet op.name (number_of op.index) in
        let n : ends_of op.slice ≡ none = ap (λ (o : GateOperand). o.slice) (sym (value_is e blank_operand) ∙ value_is (single_is t s at h (sym f ∙ g)) blank_operand) in
        unmarked s (operand_of op) sp p b (ap is_some (sym u) ∙ v)
        ∙ ap nothing (use_by_lem s ks sheet op sp n p refl (mark_by s p) refl)
        ∙ sym (passing_is (marks_of s ks sheet) sp ∙ rw z)
