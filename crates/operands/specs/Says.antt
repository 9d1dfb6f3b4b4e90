-- Parts of what is said of operands, by names of their own. Assumes nothing.
use Rattle.std.specs.Prelude.{◌≡◌, List, [], ◌∷◌, ◌++◌, Bool, true, false, cond}
use Rattle.std.proofs.Math.Option.{none, some}
use Rattle.ast.specs.Tree.{GateOperand}
use Rattle.sema.specs.Messages
use Rattle.sema.specs.Messages.{Expected, Diagnostic, error, error_with_note}
use Rattle.sema.specs.Symbols.{Symbols, Symbol, get}
use Rattle.sema.specs.Operands.{fits, unless, bounds_say, check_operand}
use Rattle.std.specs.Prelude.{ℕ, Option as Maybe, Some, None}
use Rattle.operands.specs.declared.bounds.Fault.{Fault}

-- a symbol of another kind than expected
unfoldable pub kind_says : GateOperand → Symbol → Expected → List Diagnostic
kind_says op sym expected =
    unless (fits expected sym.kind)
    (error_with_note (Messages.expected_kind expected op.name sym.kind) op.span (Messages.declared_as op.name sym.kind) sym.decl_span)

-- the fault of a place, by the test whether it is within a size
unfoldable pub fault_of : {T : Type 0} → (T → ℕ → Bool) → Maybe T → Maybe ℕ → Maybe (Fault T)
fault_of t None size = None
fault_of t (Some p) None = Some Fault.WithoutSize
fault_of t (Some p) (Some n) = cond (t p n) None (Some (Fault.OutOfBounds p n))

-- a fault of an index, and of a slice
unfoldable pub index_fault_says : GateOperand → Symbol → Maybe (Fault ℕ) → List Diagnostic
index_fault_says op sym None = []
index_fault_says op sym (Some Fault.WithoutSize) =
    error_with_note (Messages.cannot_index op.name) op.span (Messages.declared_without_size op.name) sym.decl_span ∷ []
index_fault_says op sym (Some (Fault.OutOfBounds i n)) =
    error_with_note (Messages.index_out_of_bounds i op.name n) op.span (Messages.declared_with_size op.name n) sym.decl_span ∷ []

unfoldable pub slice_fault_says : GateOperand → Symbol → Maybe (Fault (ℕ × ℕ)) → List Diagnostic
slice_fault_says op sym None = []
slice_fault_says op sym (Some Fault.WithoutSize) = error (Messages.cannot_slice op.name) op.span ∷ []
slice_fault_says op sym (Some (Fault.OutOfBounds (a, b) n)) =
    error_with_note (Messages.slice_out_of_bounds a b op.name n) op.span (Messages.declared_with_size op.name n) sym.decl_span ∷ []

-- nothing is said
unfoldable pub nothing : List Diagnostic → Bool
nothing [] = true
nothing (d ∷ ds) = false

-- a name that is not declared, and one that is
module _ (ss : Symbols) (op : GateOperand) (expected : Expected) where
  pub check-none : get ss op.name ≡ none → check_operand ss op expected ≡ error (Messages.not_declared op.name) op.span ∷ []
  unfolding check_operand
  check-none e = rw (e, check_operand)

  pub check-some : {sym : Symbol} → get ss op.name ≡ some sym → check_operand ss op expected ≡ kind_says op sym expected ++ bounds_say op sym
  unfolding check_operand kind_says
  check-some e = rw (e, check_operand)
