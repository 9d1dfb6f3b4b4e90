-- Checks of operands, as `check_operand`, `operand_width` and `check_use_after_measure` of src/sema.rs. Each gives what it says.
use Rattle.std.specs.Prelude.{ℕ, suc, ◌-◌, List, [], ◌∷◌, ◌++◌, Bool, true, false, cond, ◌&&◌, ◌||◌, ltb, leb}
use Rattle.std.proofs.Math.Option.{Option, none, some}
use Rattle.span.specs.declared.Span.{Span}
use Rattle.ast.specs.Tree.{TextNumber, GateOperand}
use Rattle.sema.specs.Messages
use Rattle.sema.specs.Messages.{SymbolKind, Qubit, Bit, Classical, Const, GateParam, GateQubit, Expected, a_qubit, a_bit, Diagnostic, error, error_with_note}
use Rattle.sema.specs.Symbols.{Symbols, Symbol, get}
use Rattle.sema.specs.Marks.{Marks, lookup_measured, smallest_covered}

-- what goes for a qubit, and for a bit
unfoldable pub fits : Expected → SymbolKind → Bool
fits a_qubit Qubit = true
fits a_qubit Bit = false
fits a_qubit (Classical ty) = false
fits a_qubit (Const ty) = false
fits a_qubit GateParam = false
fits a_qubit GateQubit = true
fits a_bit Qubit = false
fits a_bit Bit = true
fits a_bit (Classical ty) = false
fits a_bit (Const ty) = false
fits a_bit GateParam = false
fits a_bit GateQubit = false

unfoldable pub is_gate_qubit : SymbolKind → Bool
is_gate_qubit Qubit = false
is_gate_qubit Bit = false
is_gate_qubit (Classical ty) = false
is_gate_qubit (Const ty) = false
is_gate_qubit GateParam = false
is_gate_qubit GateQubit = true

abbrev pub is_some : {A : Type 0} → Option A → Bool
is_some none = false
is_some (some a) = true

abbrev pub unless : Bool → Diagnostic → List Diagnostic
unless true d = []
unless false d = d ∷ []

-- index bounds
unfoldable pub index_says : GateOperand → Symbol → Option ℕ → Option ℕ → List Diagnostic
index_says op sym none size = []
index_says op sym (some i) none =
    error_with_note (Messages.cannot_index op.name) op.span (Messages.declared_without_size op.name) sym.decl_span ∷ []
index_says op sym (some i) (some n) =
    unless (ltb i n) (error_with_note (Messages.index_out_of_bounds i op.name n) op.span (Messages.declared_with_size op.name n) sym.decl_span)

unfoldable pub slice_says : GateOperand → Symbol → Option (ℕ × ℕ) → Option ℕ → List Diagnostic
slice_says op sym none size = []
slice_says op sym (some r) none = error (Messages.cannot_slice op.name) op.span ∷ []
slice_says op sym (some r) (some n) =
    unless (leb r.0 r.1 && ltb r.1 n)
    (error_with_note (Messages.slice_out_of_bounds r.0 r.1 op.name n) op.span (Messages.declared_with_size op.name n) sym.decl_span)

-- a gate qubit must not be indexed; else the bounds of index and slice
unfoldable pub bounds_say : GateOperand → Symbol → List Diagnostic
bounds_say op sym =
    cond (is_gate_qubit sym.kind && (is_some op.index || is_some op.slice))
    (error (Messages.cannot_index_gate_qubit op.name) op.span ∷ [])
    (index_says op sym op.index sym.size ++ slice_says op sym op.slice sym.size)

unfoldable pub check_operand : Symbols → GateOperand → Expected → List Diagnostic
check_operand ss op expected =
    elim (get ss op.name) [
      | none ↦ error (Messages.not_declared op.name) op.span ∷ []
      | some sym ↦
          unless (fits expected sym.kind)
          (error_with_note (Messages.expected_kind expected op.name sym.kind) op.span (Messages.declared_as op.name sym.kind) sym.decl_span)
          ++ bounds_say op sym
    ]

-- "An operand's width is end - start + 1, or 1 for an index, else the declared size or 1. Start > end, a width beyond 2^64 - 1 .. have no width"
unfoldable pub slice_width : ℕ × ℕ → Option ℕ
slice_width r = cond (leb r.0 r.1 && ltb (suc (r.1 - r.0)) 18446744073709551616) (some (suc (r.1 - r.0))) none

unfoldable pub width_by : Option ℕ → Option (ℕ × ℕ) → Option ℕ → Option ℕ
width_by size (some r) index = slice_width r
width_by size none (some i) = some 1
width_by none none none = some 1
width_by (some n) none none = some n

-- ".. and an undeclared name have no width."
unfoldable pub operand_width : Symbols → GateOperand → Option ℕ
operand_width ss op = elim (get ss op.name) [ none ↦ none | some sym ↦ width_by sym.size op.slice op.index ]

-- what is said of a use that a mark covers
unfoldable pub used_says : GateOperand → Span → Option Span → List Diagnostic
used_says op sp none = []
used_says op sp (some at) = error_with_note (Messages.used op) sp Messages.measured_here at ∷ []

unfoldable pub used_index_says : TextNumber → Span → Option (ℕ × Span) → List Diagnostic
used_index_says x sp none = []
used_index_says x sp (some c) = error_with_note (Messages.used_index x c.0) sp Messages.measured_here c.1 ∷ []

-- `check_use_after_measure`: by the slice where there is one, else by the index
unfoldable pub use_by : Marks → GateOperand → Span → Option (ℕ × ℕ) → List Diagnostic
use_by m op sp none = used_says op sp (lookup_measured m op.name op.index)
use_by m op sp (some r) = used_index_says op.name sp (smallest_covered m op.name r)

abbrev pub check_use_after_measure : Marks → GateOperand → Span → List Diagnostic
check_use_after_measure m op sp = use_by m op sp op.slice

-- the operands of a gate call, a barrier or a delay: for each the checks and then the use
unfoldable pub use_operands : Symbols → Marks → Span → List GateOperand → List Diagnostic
use_operands ss m sp [] = []
use_operands ss m sp (op ∷ ops) = (check_operand ss op a_qubit ++ check_use_after_measure m op sp) ++ use_operands ss m sp ops
