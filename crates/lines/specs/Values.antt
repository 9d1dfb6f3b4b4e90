-- What a diagnostic of the code stands for, and the text numbers in it.
use Rattle.std.specs.Prelude.{ℕ, ◌+◌, ◌<◌, ◌≡◌, List}
use Rattle.ast.specs.Tree.{Text}
use Rattle.context.specs.declared.Sink.{Sink}
use Rattle.context.specs.Sink.{Written, written_of, emit_one}
use Rattle.std.proofs.Math.Option.{Option, none, some}
use Rattle.span.specs.declared.Span.{Span}
use Rattle.sema.specs.Messages
use Rattle.context.specs.Values.{operand_of, kind_of}
use Rattle.lines.specs.declared.Severity.{Severity}
use Rattle.lines.specs.declared.Expected.{Expected}
use Rattle.lines.specs.declared.Place.{Place}
use Rattle.lines.specs.declared.Message.{Message}
use Rattle.lines.specs.declared.Note.{Note}
use Rattle.std.specs.Prelude.{Option as Maybe, Some, None}
use Rattle.lines.specs.declared.Diagnostic.{Diagnostic}

abbrev pub severity_of : Severity → Messages.Severity
severity_of Severity.Error = Messages.Error
severity_of Severity.Warning = Messages.Warning

abbrev pub expected_of : Expected → Messages.Expected
expected_of Expected.Qubit = Messages.a_qubit
expected_of Expected.Bit = Messages.a_bit

abbrev pub place_of : Place → Messages.Context
place_of Place.IfCondition = Messages.if_condition
place_of Place.WhileCondition = Messages.while_condition
place_of Place.RangeBound = Messages.range_bound
place_of Place.RangeStep = Messages.range_step
place_of Place.ControlArgument = Messages.control_argument

abbrev pub message_of : Message → Messages.Message
message_of (Message.AlreadyDeclared x) = Messages.already_declared x
message_of (Message.NotDeclared x) = Messages.not_declared x
message_of (Message.ExpectedKind e x k) = Messages.expected_kind (expected_of e) x (kind_of k)
message_of (Message.CannotIndexGateQubit x) = Messages.cannot_index_gate_qubit x
message_of (Message.IndexOutOfBounds i x n) = Messages.index_out_of_bounds i x n
message_of (Message.CannotIndex x) = Messages.cannot_index x
message_of (Message.SliceOutOfBounds a b x n) = Messages.slice_out_of_bounds a b x n
message_of (Message.CannotSlice x) = Messages.cannot_slice x
message_of (Message.UsedIndex x i) = Messages.used_index x i
message_of (Message.Used op) = Messages.used (operand_of op)
message_of (Message.ConstWithoutInit x) = Messages.const_without_init x
message_of (Message.InputWithInit x) = Messages.input_with_init x
message_of (Message.CannotInitialize ty x a) = Messages.cannot_initialize ty x a
message_of (Message.CannotAssign a e x) = Messages.cannot_assign a e x
message_of Message.CompoundNumeric = Messages.compound_numeric
message_of (Message.AssignToConst x) = Messages.assign_to_const x
message_of (Message.NotAssignable x) = Messages.not_assignable x
message_of (Message.GateParams x n got) = Messages.gate_params x n got
message_of (Message.GateQubits x total qubits got) = Messages.gate_qubits x (total + qubits) got
message_of (Message.GateNotDefined x) = Messages.gate_not_defined x
message_of Message.ParamsNumeric = Messages.params_numeric
message_of Message.Broadcasting = Messages.broadcasting
message_of (Message.GateAlreadyDefined x) = Messages.gate_already_defined x
message_of (Message.FunctionAlreadyDefined x) = Messages.function_already_defined x
message_of (Message.FunctionReturns x r a) = Messages.function_returns x r a
message_of (Message.MeasurementWidths a b) = Messages.measurement_widths a b
message_of (Message.AlreadyMeasured op) = Messages.already_measured (operand_of op)
message_of Message.DelayNumeric = Messages.delay_numeric
message_of Message.ForVariable = Messages.for_variable
message_of Message.ControlCount = Messages.control_count
message_of Message.PowerNumeric = Messages.power_numeric
message_of (Message.MustHaveType c e a) = Messages.must_have_type (place_of c) e a
message_of (Message.NotClassical x) = Messages.not_classical x
message_of (Message.CannotIndexBit x) = Messages.cannot_index_bit x
message_of (Message.NotIndexable x) = Messages.not_indexable x
message_of (Message.FunctionNotDefined x) = Messages.function_not_defined x
message_of (Message.FunctionArguments x n got) = Messages.function_arguments x n got
message_of (Message.ArgumentType i x e a) = Messages.argument_type i x e a
message_of Message.NegationNumeric = Messages.negation_numeric
message_of Message.ArithmeticNumeric = Messages.arithmetic_numeric
message_of Message.ComparisonTypes = Messages.comparison_types

abbrev pub note_of : Note → Messages.Note
note_of (Note.FirstDeclared x) = Messages.first_declared x
note_of (Note.DeclaredAs x k) = Messages.declared_as x (kind_of k)
note_of (Note.DeclaredWithSize x n) = Messages.declared_with_size x n
note_of (Note.DeclaredWithoutSize x) = Messages.declared_without_size x
note_of Note.MeasuredHere = Messages.measured_here
note_of (Note.DefinedHere x) = Messages.defined_here x
note_of Note.FirstDefined = Messages.first_defined
note_of Note.TargetDeclared = Messages.target_declared
note_of Note.FunctionDefined = Messages.function_defined

abbrev pub secondary_of : Maybe (Note × Span) → Option (Messages.Note × Span)
secondary_of (Some (n, sp)) = some (note_of n, sp)
secondary_of None = none

abbrev pub diagnostic_of : Diagnostic → Messages.Diagnostic
diagnostic_of d =
    record { severity = severity_of d.severity; message = message_of d.message; span = d.span; secondary = secondary_of d.secondary }

abbrev pub error_of : Message → Span → Diagnostic
error_of m sp = record { severity = Severity.Error; message = m; span = sp; secondary = None }

abbrev pub error_with_note_of : Message → Span → Note → Span → Diagnostic
error_with_note_of m sp n at = record { severity = Severity.Error; message = m; span = sp; secondary = Some (n, at) }

abbrev pub warning_of : Message → Span → Diagnostic
warning_of m sp = record { severity = Severity.Warning; message = m; span = sp; secondary = None }

-- the text number in a message
abbrev pub name_in : Message → Option ℕ
name_in (Message.AlreadyDeclared x) = some x
name_in (Message.NotDeclared x) = some x
name_in (Message.ExpectedKind e x k) = some x
name_in (Message.CannotIndexGateQubit x) = some x
name_in (Message.IndexOutOfBounds i x n) = some x
name_in (Message.CannotIndex x) = some x
name_in (Message.SliceOutOfBounds a b x n) = some x
name_in (Message.CannotSlice x) = some x
name_in (Message.UsedIndex x i) = some x
name_in (Message.Used op) = some op.name
name_in (Message.ConstWithoutInit x) = some x
name_in (Message.InputWithInit x) = some x
name_in (Message.CannotInitialize ty x a) = some x
name_in (Message.CannotAssign a e x) = some x
name_in Message.CompoundNumeric = none
name_in (Message.AssignToConst x) = some x
name_in (Message.NotAssignable x) = some x
name_in (Message.GateParams x n got) = some x
name_in (Message.GateQubits x total qubits got) = some x
name_in (Message.GateNotDefined x) = some x
name_in Message.ParamsNumeric = none
name_in Message.Broadcasting = none
name_in (Message.GateAlreadyDefined x) = some x
name_in (Message.FunctionAlreadyDefined x) = some x
name_in (Message.FunctionReturns x r a) = some x
name_in (Message.MeasurementWidths a b) = none
name_in (Message.AlreadyMeasured op) = some op.name
name_in Message.DelayNumeric = none
name_in Message.ForVariable = none
name_in Message.ControlCount = none
name_in Message.PowerNumeric = none
name_in (Message.MustHaveType c e a) = none
name_in (Message.NotClassical x) = some x
name_in (Message.CannotIndexBit x) = some x
name_in (Message.NotIndexable x) = some x
name_in (Message.FunctionNotDefined x) = some x
name_in (Message.FunctionArguments x n got) = some x
name_in (Message.ArgumentType i x e a) = some x
name_in Message.NegationNumeric = none
name_in Message.ArithmeticNumeric = none
name_in Message.ComparisonTypes = none

abbrev pub name_in_note : Note → Option ℕ
name_in_note (Note.FirstDeclared x) = some x
name_in_note (Note.DeclaredAs x k) = some x
name_in_note (Note.DeclaredWithSize x n) = some x
name_in_note (Note.DeclaredWithoutSize x) = some x
name_in_note Note.MeasuredHere = none
name_in_note (Note.DefinedHere x) = some x
name_in_note Note.FirstDefined = none
name_in_note Note.TargetDeclared = none
name_in_note Note.FunctionDefined = none

-- a text number is below the number of texts
abbrev pub Below : ℕ → Option ℕ → Type 0
Below n none = Unit {0}
Below n (some x) = x < n

abbrev pub NoteBelow : ℕ → Maybe (Note × Span) → Type 0
NoteBelow n (Some (m, sp)) = Below n (name_in_note m)
NoteBelow n None = Unit {0}

-- what a caller shows of a diagnostic over so many texts
pub record Fits (n : ℕ) (d : Diagnostic) : Type 0 where
  pub named : Below n (name_in d.message)
  pub noted : NoteBelow n d.secondary

-- one diagnostic more, and the listing's length
abbrev pub counted_of : Sink → Severity → ℕ → List ℕ → Written
counted_of s Severity.Error n o = record { out = o; n = n; errors = s.errors + 1; warnings = s.warnings }
counted_of s Severity.Warning n o = record { out = o; n = n; errors = s.errors; warnings = s.warnings + 1 }

-- what `report` leaves
pub record Reported (t : List Text) (d : Diagnostic) (s : Sink) (o : List ℕ) (r : Sink) (o' : List ℕ) : Type 0 where
  pub emits : written_of r o' ≡ emit_one t (diagnostic_of d) (written_of s o)
