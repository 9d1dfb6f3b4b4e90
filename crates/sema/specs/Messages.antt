-- Diagnostics and their wording, as the format strings of src/sema.rs. A message names texts by their numbers.
use Rattle.std.specs.Prelude.{ℕ, List, [], ◌∷◌, get_or}
use Rattle.std.proofs.Math.Option.{Option, none, some}
use Rattle.text.specs.Text.{text, concat}
use Rattle.text.specs.Decimal.{decimal}
use Rattle.span.specs.declared.Span.{Span}
use Rattle.ast.specs.Tree.{Text, TextNumber, GateOperand}
use Rattle.ast.specs.declared.ClassicalType.{ClassicalType}
use Rattle.types.specs.Names.{name_of}

-- the kinds of a symbol
pub data SymbolKind : Type 0 where
  Qubit : SymbolKind
  Bit : SymbolKind
  Classical : ClassicalType → SymbolKind
  Const : ClassicalType → SymbolKind
  GateParam : SymbolKind
  GateQubit : SymbolKind

-- what an operand is expected to be
pub data Expected : Type 0 where
  a_qubit a_bit : Expected

-- where `require_type` is called
pub data Context : Type 0 where
  if_condition while_condition range_bound range_step control_argument : Context

pub data Message : Type 0 where
  already_declared : (name : TextNumber) → Message
  not_declared : (name : TextNumber) → Message
  expected_kind : (expected : Expected) (name : TextNumber) (found : SymbolKind) → Message
  cannot_index_gate_qubit : (name : TextNumber) → Message
  index_out_of_bounds : (index : ℕ) (name : TextNumber) (size : ℕ) → Message
  cannot_index : (name : TextNumber) → Message
  slice_out_of_bounds : (start end : ℕ) (name : TextNumber) (size : ℕ) → Message
  cannot_slice : (name : TextNumber) → Message
  used_index : (name : TextNumber) (index : ℕ) → Message
  used : (op : GateOperand) → Message
  const_without_init : (name : TextNumber) → Message
  input_with_init : (name : TextNumber) → Message
  cannot_initialize : (ty : ClassicalType) (name : TextNumber) (actual : ClassicalType) → Message
  cannot_assign : (actual expected : ClassicalType) (name : TextNumber) → Message
  compound_numeric : Message
  assign_to_const : (name : TextNumber) → Message
  not_assignable : (name : TextNumber) → Message
  gate_params : (name : TextNumber) (expected got : ℕ) → Message
  gate_qubits : (name : TextNumber) (expected got : ℕ) → Message
  gate_not_defined : (name : TextNumber) → Message
  params_numeric : Message
  broadcasting : Message
  gate_already_defined : (name : TextNumber) → Message
  function_already_defined : (name : TextNumber) → Message
  function_returns : (name : TextNumber) (return_type actual : ClassicalType) → Message
  measurement_widths : (source target : ℕ) → Message
  already_measured : (op : GateOperand) → Message
  delay_numeric : Message
  for_variable : Message
  control_count : Message
  power_numeric : Message
  must_have_type : (context : Context) (expected actual : ClassicalType) → Message
  not_classical : (name : TextNumber) → Message
  cannot_index_bit : (name : TextNumber) → Message
  not_indexable : (name : TextNumber) → Message
  function_not_defined : (name : TextNumber) → Message
  function_arguments : (name : TextNumber) (expected got : ℕ) → Message
  argument_type : (position : ℕ) (name : TextNumber) (expected actual : ClassicalType) → Message
  negation_numeric : Message
  arithmetic_numeric : Message
  comparison_types : Message

pub data Note : Type 0 where
  first_declared : (name : TextNumber) → Note
  declared_as : (name : TextNumber) (found : SymbolKind) → Note
  declared_with_size : (name : TextNumber) (size : ℕ) → Note
  declared_without_size : (name : TextNumber) → Note
  measured_here : Note
  defined_here : (name : TextNumber) → Note
  first_defined : Note
  target_declared : Note
  function_defined : Note

pub data Severity : Type 0 where
  Error Warning : Severity

pub record Diagnostic : Type 0 where
  pub severity : Severity
  pub message : Message
  pub span : Span
  pub secondary : Option (Note × Span)

abbrev pub error : Message → Span → Diagnostic
error m sp = record { severity = Error; message = m; span = sp; secondary = none }

abbrev pub error_with_note : Message → Span → Note → Span → Diagnostic
error_with_note m sp n at = record { severity = Error; message = m; span = sp; secondary = some (n, at) }

abbrev pub warning : Message → Span → Diagnostic
warning m sp = record { severity = Warning; message = m; span = sp; secondary = none }

unfoldable pub expected_name : Expected → List ℕ
expected_name a_qubit = text "qubit"
expected_name a_bit = text "bit"

-- what `check_operand` calls a symbol
unfoldable pub kind_name : SymbolKind → List ℕ
kind_name Qubit = text "qubit"
kind_name Bit = text "bit"
kind_name (Classical ty) = name_of ty
kind_name (Const ty) = concat (text "const " ∷ name_of ty ∷ [])
kind_name GateParam = text "gate parameter"
kind_name GateQubit = text "gate qubit"

unfoldable pub context_name : Context → List ℕ
context_name if_condition = text "if condition"
context_name while_condition = text "while condition"
context_name range_bound = text "for-loop range bound"
context_name range_step = text "for-loop range step"
context_name control_argument = text "control modifier argument"

-- the wording, over the texts of the program
module _ (t : List Text) where
  unfoldable pub name_at : TextNumber → List ℕ
  name_at n = get_or t n []

  -- `Display` of an operand: by its index, else by its slice
  unfoldable pub subscript : Option ℕ → Option (ℕ × ℕ) → List ℕ
  subscript (some i) sl = concat (text "[" ∷ decimal i ∷ text "]" ∷ [])
  subscript none (some (a, b)) = concat (text "[" ∷ decimal a ∷ text ":" ∷ decimal b ∷ text "]" ∷ [])
  subscript none none = []

  unfoldable pub operand_text : GateOperand → List ℕ
  operand_text op = concat (name_at op.name ∷ subscript op.index op.slice ∷ [])

  -- the pieces of a message, one after the other
  unfoldable pub message_parts : Message → List (List ℕ)
  message_parts (already_declared x) = text "`" ∷ name_at x ∷ text "` is already declared in this scope" ∷ []
  message_parts (not_declared x) = text "`" ∷ name_at x ∷ text "` is not declared" ∷ []
  message_parts (expected_kind e x k) = text "expected " ∷ expected_name e ∷ text ", but `" ∷ name_at x ∷ text "` is a " ∷ kind_name k ∷ []
  message_parts (cannot_index_gate_qubit x) = text "cannot index gate qubit `" ∷ name_at x ∷ text "` — gate qubits are single wires" ∷ []
  message_parts (index_out_of_bounds i x n) = text "index " ∷ decimal i ∷ text " is out of bounds for `" ∷ name_at x ∷ text "` (size " ∷ decimal n ∷ text ")" ∷ []
  message_parts (cannot_index x) = text "cannot index `" ∷ name_at x ∷ text "` — it is a single qubit/bit, not a register" ∷ []
  message_parts (slice_out_of_bounds a b x n) = text "slice " ∷ decimal a ∷ text ":" ∷ decimal b ∷ text " is out of bounds for `" ∷ name_at x ∷ text "` (size " ∷ decimal n ∷ text ")" ∷ []
  message_parts (cannot_slice x) = text "cannot slice scalar `" ∷ name_at x ∷ text "`" ∷ []
  message_parts (used_index x i) = text "use of qubit `" ∷ name_at x ∷ text "[" ∷ decimal i ∷ text "]` after measurement" ∷ []
  message_parts (used op) = text "use of qubit `" ∷ operand_text op ∷ text "` after measurement — qubit state has collapsed and cannot be used in a gate without an explicit `reset`" ∷ []
  message_parts (const_without_init x) = text "const `" ∷ name_at x ∷ text "` requires an initializer" ∷ []
  message_parts (input_with_init x) = text "input `" ∷ name_at x ∷ text "` cannot have an initializer" ∷ []
  message_parts (cannot_initialize ty x a) = text "cannot initialize " ∷ name_of ty ∷ text " `" ∷ name_at x ∷ text "` with " ∷ name_of a ∷ text " expression" ∷ []
  message_parts (cannot_assign a e x) = text "cannot assign " ∷ name_of a ∷ text " expression to " ∷ name_of e ∷ text " `" ∷ name_at x ∷ text "`" ∷ []
  message_parts compound_numeric = text "compound assignment requires numeric operands" ∷ []
  message_parts (assign_to_const x) = text "cannot assign to const `" ∷ name_at x ∷ text "`" ∷ []
  message_parts (not_assignable x) = text "`" ∷ name_at x ∷ text "` is not an assignable classical variable" ∷ []
  message_parts (gate_params x n got) = text "gate `" ∷ name_at x ∷ text "` expects " ∷ decimal n ∷ text " parameter(s), got " ∷ decimal got ∷ []
  message_parts (gate_qubits x n got) = text "gate `" ∷ name_at x ∷ text "` expects " ∷ decimal n ∷ text " qubit(s) after modifiers, got " ∷ decimal got ∷ []
  message_parts (gate_not_defined x) = text "gate `" ∷ name_at x ∷ text "` is not defined" ∷ []
  message_parts params_numeric = text "gate parameters must be numeric" ∷ []
  message_parts broadcasting = text "gate register operands must have the same length for broadcasting" ∷ []
  message_parts (gate_already_defined x) = text "gate `" ∷ name_at x ∷ text "` is already defined" ∷ []
  message_parts (function_already_defined x) = text "function `" ∷ name_at x ∷ text "` is already defined" ∷ []
  message_parts (function_returns x r a) = text "function `" ∷ name_at x ∷ text "` returns " ∷ name_of r ∷ text ", but its body has type " ∷ name_of a ∷ []
  message_parts (measurement_widths a b) = text "measurement source has " ∷ decimal a ∷ text " qubit(s), but target has " ∷ decimal b ∷ text " bit(s)" ∷ []
  message_parts (already_measured op) = text "qubit `" ∷ operand_text op ∷ text "` has already been measured" ∷ []
  message_parts delay_numeric = text "delay duration must be numeric" ∷ []
  message_parts for_variable = text "for-loop variable must have type int" ∷ []
  message_parts control_count = text "control count must be a positive compile-time integer" ∷ []
  message_parts power_numeric = text "power modifier argument must be numeric" ∷ []
  message_parts (must_have_type c e a) = context_name c ∷ text " must have type " ∷ name_of e ∷ text ", found " ∷ name_of a ∷ []
  message_parts (not_classical x) = text "`" ∷ name_at x ∷ text "` cannot be used as a classical expression" ∷ []
  message_parts (cannot_index_bit x) = text "cannot index scalar bit `" ∷ name_at x ∷ text "`" ∷ []
  message_parts (not_indexable x) = text "`" ∷ name_at x ∷ text "` is not an indexable classical register" ∷ []
  message_parts (function_not_defined x) = text "function `" ∷ name_at x ∷ text "` is not defined" ∷ []
  message_parts (function_arguments x n got) = text "function `" ∷ name_at x ∷ text "` expects " ∷ decimal n ∷ text " argument(s), got " ∷ decimal got ∷ []
  message_parts (argument_type i x e a) = text "argument " ∷ decimal i ∷ text " to `" ∷ name_at x ∷ text "` must be " ∷ name_of e ∷ text ", found " ∷ name_of a ∷ []
  message_parts negation_numeric = text "unary negation requires a numeric operand" ∷ []
  message_parts arithmetic_numeric = text "arithmetic operators require numeric operands" ∷ []
  message_parts comparison_types = text "comparison operands have incompatible types" ∷ []

  abbrev pub message_text : Message → List ℕ
  message_text m = concat (message_parts m)

  unfoldable pub note_parts : Note → List (List ℕ)
  note_parts (first_declared x) = text "`" ∷ name_at x ∷ text "` first declared here" ∷ []
  note_parts (declared_as x k) = text "`" ∷ name_at x ∷ text "` declared as " ∷ kind_name k ∷ text " here" ∷ []
  note_parts (declared_with_size x n) = text "`" ∷ name_at x ∷ text "` declared with size " ∷ decimal n ∷ text " here" ∷ []
  note_parts (declared_without_size x) = text "`" ∷ name_at x ∷ text "` declared without a size here" ∷ []
  note_parts measured_here = text "qubit was measured here" ∷ []
  note_parts (defined_here x) = text "`" ∷ name_at x ∷ text "` defined here" ∷ []
  note_parts first_defined = text "first defined here" ∷ []
  note_parts target_declared = text "measurement target declared here" ∷ []
  note_parts function_defined = text "function defined here" ∷ []

  abbrev pub note_text : Note → List ℕ
  note_text n = concat (note_parts n)
