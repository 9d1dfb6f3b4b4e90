-- What is said of an operand: one law for each way out of the checks of its kind, its bounds and the whole. Assumes nothing.
use Prim.Native.Nat.{ℕ}
use mathlib.Core.Path.{◌≡◌, refl, sym, ap, ◌∙◌}
use mathlib.Core.Bool.{Bool, true, false, not, ◌&&◌, ◌||◌, false≢true}
use mathlib.Core.List.{List, [], ◌∷◌, ◌++◌}
use Rattle.ast.specs.Tree.{Text}
use Rattle.sema.specs.Messages
use Rattle.sema.specs.Symbols.{Symbols, get}
use Rattle.sema.specs.Operands.{fits, is_gate_qubit, is_some, index_says, slice_says, bounds_say, check_operand}
use Rattle.context.specs.declared.GateOperand.{GateOperand as Operand}
use Rattle.context.specs.declared.Symbol.{Symbol as SymbolValue}
use Rattle.std.specs.Prelude.{Option as Maybe, Some, None, is_some as is_present, leb, ltb}
use Rattle.sheet.specs.Places.{by_test}
use Rattle.context.specs.declared.Sink.{Sink}
use Rattle.context.specs.Values.{number_of, ends_of, operand_of, kind_of, symbol_of, found_of}
use Rattle.lines.specs.declared.Expected.{Expected}
use Rattle.lines.specs.declared.Message.{Message}
use Rattle.lines.specs.declared.Note.{Note}
use Rattle.lines.specs.declared.Diagnostic.{Diagnostic}
use Rattle.lines.specs.Values.{expected_of, error_of, error_with_note_of, Reported}
use Rattle.promises.specs.Emitted.{Emitted, emitted-none, emitted_report, emitted_then, emitted_as}
use Rattle.operands.specs.declared.bounds.Fault.{Fault}
use Rattle.operands.specs.Says.{fault_of, kind_says, index_fault_says, slice_fault_says, nothing, check-none, check-some}

-- a slice within a size
abbrev pub within : ℕ × ℕ → ℕ → Bool
within r n = leb r.0 r.1 && ltb r.1 n

-- nothing said
pub nothing_is : (xs : List Messages.Diagnostic) → nothing xs ≡ true → xs ≡ []
unfolding nothing
nothing_is [] e = refl
nothing_is (d ∷ ds) e = absurd (false≢true e)

pub nothing-both : (xs ys : List Messages.Diagnostic) → nothing (xs ++ ys) ≡ (nothing xs && nothing ys)
unfolding nothing
nothing-both [] ys = refl
nothing-both (d ∷ ds) ys = refl

-- what the checks of index, slice and bounds say
module _ (t : List Text) (op : Operand) (sym : SymbolValue) (s : Sink) (o : List ℕ) (r : Sink) (o' : List ℕ) where
  abbrev IndexSaid : Type 0
  IndexSaid = Emitted t (index_says (operand_of op) (symbol_of sym) (number_of op.index) (number_of sym.size)) s o r o'

  abbrev SliceSaid : Type 0
  SliceSaid = Emitted t (slice_says (operand_of op) (symbol_of sym) (ends_of op.slice) (number_of sym.size)) s o r o'

  abbrev BoundsSaid : Type 0
  BoundsSaid = Emitted t (bounds_say (operand_of op) (symbol_of sym)) s o r o'

-- what the fault of an index says, and that of a slice
module _ (op : Operand) (v : SymbolValue) where
  index_said : (i n : Maybe ℕ) → index_fault_says (operand_of op) (symbol_of v) (fault_of ltb i n) ≡ index_says (operand_of op) (symbol_of v) (number_of i) (number_of n)
  unfolding index_fault_says index_says fault_of
  index_said None n = refl
  index_said (Some i) None = refl
  index_said (Some i) (Some n) = by_test (ltb i n) (λ e. rw e refl) (λ e. rw e refl)

  slice_said : (r : Maybe (ℕ × ℕ)) (n : Maybe ℕ) → slice_fault_says (operand_of op) (symbol_of v) (fault_of within r n) ≡ slice_says (operand_of op) (symbol_of v) (ends_of r) (number_of n)
  unfolding slice_fault_says slice_says fault_of
  slice_said None n = refl
  slice_said (Some r) None = refl
  slice_said (Some (a, b)) (Some n) = by_test (leb a b && ltb b n) (λ e. rw e refl) (λ e. rw e refl)

  pub index_fault_said : (f : Maybe (Fault ℕ)) → f ≡ fault_of ltb op.index v.size
      → index_fault_says (operand_of op) (symbol_of v) f ≡ index_says (operand_of op) (symbol_of v) (number_of op.index) (number_of v.size)
  index_fault_said f e = rw e (index_said op.index v.size)

  pub slice_fault_said : (f : Maybe (Fault (ℕ × ℕ))) → f ≡ fault_of within op.slice v.size
      → slice_fault_says (operand_of op) (symbol_of v) f ≡ slice_says (operand_of op) (symbol_of v) (ends_of op.slice) (number_of v.size)
  slice_fault_said f e = rw e (slice_said op.slice v.size)

-- whether the bounds say nothing, test by test; `b` tells whether a gate qubit is indexed
module _ (op : Operand) (v : SymbolValue) where
  index_quiet : (f : Maybe (Fault ℕ)) (n : Bool) → is_present f ≡ not n → n ≡ nothing (index_fault_says (operand_of op) (symbol_of v) f)
  unfolding nothing index_fault_says
  index_quiet None true e = refl
  index_quiet None false e = absurd (false≢true e)
  index_quiet (Some Fault.WithoutSize) true e = absurd (false≢true (sym e))
  index_quiet (Some Fault.WithoutSize) false e = refl
  index_quiet (Some (Fault.OutOfBounds i n)) true e = absurd (false≢true (sym e))
  index_quiet (Some (Fault.OutOfBounds i n)) false e = refl

  slice_quiet : (f : Maybe (Fault (ℕ × ℕ))) (n : Bool) → is_present f ≡ not n → n ≡ nothing (slice_fault_says (operand_of op) (symbol_of v) f)
  unfolding nothing slice_fault_says
  slice_quiet None true e = refl
  slice_quiet None false e = absurd (false≢true e)
  slice_quiet (Some Fault.WithoutSize) true e = absurd (false≢true (sym e))
  slice_quiet (Some Fault.WithoutSize) false e = refl
  slice_quiet (Some (Fault.OutOfBounds (a, b) n)) true e = absurd (false≢true (sym e))
  slice_quiet (Some (Fault.OutOfBounds (a, b) n)) false e = refl

  module _ (b : Bool) (e : b ≡ (is_gate_qubit (kind_of v.kind) && (is_some (number_of op.index) || is_some (ends_of op.slice)))) where
    pub quiet_wire : b ≡ true → false ≡ nothing (bounds_say (operand_of op) (symbol_of v))
    unfolding bounds_say nothing
    quiet_wire z = rw (← e, z)

    module _ (z : b ≡ false) (f : Maybe (Fault ℕ)) (i : index_fault_says (operand_of op) (symbol_of v) f ≡ index_says (operand_of op) (symbol_of v) (number_of op.index) (number_of v.size))
        (n : Bool) (p : is_present f ≡ not n) where
      quiet-both : nothing (bounds_say (operand_of op) (symbol_of v)) ≡ (n && nothing (slice_says (operand_of op) (symbol_of v) (ends_of op.slice) (number_of v.size)))
      unfolding bounds_say
      quiet-both =
          rw (← e, z)
          (nothing-both _ _
          ∙ ap (λ (x : Bool). x && nothing (slice_says (operand_of op) (symbol_of v) (ends_of op.slice) (number_of v.size))) (sym (index_quiet f n p ∙ ap nothing i)))

      pub quiet_index : n ≡ false → false ≡ nothing (bounds_say (operand_of op) (symbol_of v))
      quiet_index y = sym (quiet-both ∙ rw y)

      pub quiet_slice : n ≡ true → (g : Maybe (Fault (ℕ × ℕ)))
          → slice_fault_says (operand_of op) (symbol_of v) g ≡ slice_says (operand_of op) (symbol_of v) (ends_of op.slice) (number_of v.size)
          → (m : Bool) → is_present g ≡ not m → m ≡ nothing (bounds_say (operand_of op) (symbol_of v))
      quiet_slice y g j m q = slice_quiet g m q ∙ ap nothing j ∙ sym (quiet-both ∙ rw y)

module _ {t : List Text} {s : Sink} {o : List ℕ} where
  module _ (op : Operand) (sym : SymbolValue) where
    -- nothing is said
    pub kind_fits : (expected : Expected) (b : Bool) → b ≡ fits (expected_of expected) (kind_of sym.kind) → b ≡ true
        → Emitted t (kind_says (operand_of op) (symbol_of sym) (expected_of expected)) s o s o
    unfolding kind_says
    kind_fits expected b f e = rw (← f, e) emitted-none

    -- an error is said
    module _ {d : Diagnostic} {r : Sink} {o' : List ℕ} (p : Reported t d s o r o') where
      pub kind-unfit : (expected : Expected) (b : Bool) → b ≡ fits (expected_of expected) (kind_of sym.kind) → b ≡ false
          → d ≡ error_with_note_of (Message.ExpectedKind expected op.name sym.kind) op.span (Note.DeclaredAs op.name sym.kind) sym.decl_span
          → Emitted t (kind_says (operand_of op) (symbol_of sym) (expected_of expected)) s o r o'
      unfolding kind_says
      kind-unfit expected b f e g = rw (← f, e) (emitted_report g p)

      pub bounds_wire : (b : Bool) → b ≡ (is_gate_qubit (kind_of sym.kind) && (is_some (number_of op.index) || is_some (ends_of op.slice))) → b ≡ true
          → d ≡ error_of (Message.CannotIndexGateQubit op.name) op.span → BoundsSaid t op sym s o r o'
      unfolding bounds_say
      bounds_wire b f e g = rw (← f, e) (emitted_report g p)

    -- one check after the other
    pub bounds_both : (b : Bool) → b ≡ (is_gate_qubit (kind_of sym.kind) && (is_some (number_of op.index) || is_some (ends_of op.slice))) → b ≡ false
        → {r : Sink} {o' : List ℕ} → IndexSaid t op sym s o r o' → {q : Sink} {o'' : List ℕ} → SliceSaid t op sym r o' q o'' → BoundsSaid t op sym s o q o''
    unfolding bounds_say
    bounds_both b f e i j = rw (← f, e) (emitted_then i j)

  -- the whole check: a name that is not declared, and one that is
  module _ (ss : Symbols) (op : Operand) (expected : Expected) (found : Maybe SymbolValue) (e : found_of found ≡ get ss op.name) where
    pub check-missing : {d : Diagnostic} {r : Sink} {o' : List ℕ} → found ≡ None
        → d ≡ error_of (Message.NotDeclared op.name) op.span → Reported t d s o r o' → Emitted t (check_operand ss (operand_of op) (expected_of expected)) s o r o'
    check-missing f g p = emitted_as (emitted_report g p) (sym (check-none ss (operand_of op) (expected_of expected) (sym e ∙ rw f)))

    pub check-found : {v : SymbolValue} → found ≡ Some v
        → {r : Sink} {o' : List ℕ} → Emitted t (kind_says (operand_of op) (symbol_of v) (expected_of expected)) s o r o'
        → {q : Sink} {o'' : List ℕ} → BoundsSaid t op v r o' q o'' → Emitted t (check_operand ss (operand_of op) (expected_of expected)) s o q o''
    check-found f a b = emitted_as (emitted_then a b) (sym (check-some ss (operand_of op) (expected_of expected) (sym e ∙ rw f)))

  -- of an operand of which nothing is said only the use is said
  pub use_alone : {r : Sink} {o' : List ℕ} (xs ys : List Messages.Diagnostic) (b : Bool) → b ≡ nothing xs → b ≡ true → Emitted t ys s o r o' → Emitted t (xs ++ ys) s o r o'
  use_alone xs ys b e f h = rw (nothing_is xs (sym e ∙ f)) h

pub ruleset kind-said = (kind_fits, kind-unfit)

pub ruleset bounds_said = (bounds_wire, bounds_both)

pub ruleset check-said = (check-missing, check-found)
