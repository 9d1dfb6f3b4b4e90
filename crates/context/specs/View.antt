-- What the scratch, the mark sheet and the index of a walk stand for: the context of the analysis.
use Rattle.std.specs.Prelude.{ℕ, zero, suc, ◌+◌, ◌*◌, ◌<◌, ◌≤◌, ◌≡◌, List, [], ◌∷◌, map, true, false, cond, length, get_or, take, drop, ltb}
use Rattle.std.proofs.Math.Option.{Option, none, some}
use Rattle.text.specs.Big.{value}
use Rattle.span.specs.declared.Span.{Span}
use Rattle.ast.specs.Tree.{TextNumber, Stmt}
use Rattle.ast.specs.declared.ClassicalType.{ClassicalType}
use Rattle.text.specs.Text.{part}
use Rattle.tree.specs.Ans.{IsOk, given}
use Rattle.tree.specs.Stmts.{measure}
use Rattle.tree.specs.Decode.{texts_of}
use Rattle.sema.specs.Messages.{SymbolKind, Qubit, Bit, Classical, Const, GateParam, GateQubit}
use Rattle.sema.specs.Symbols.{Symbol, GateSig, FunctionSig, Table, Scope, Symbols}
use Rattle.sema.specs.Marks.{Key, Marks}
use Rattle.context.specs.declared.Key.{Key as KeyValue}
use Rattle.context.specs.Values.{key_of}
use Rattle.sema.specs.Keys.{same_key}
use Rattle.sema.specs.Stmts.{SemaContext}

-- the number in so many bytes at a place
abbrev pub number_at : ℕ → List ℕ → ℕ → ℕ
number_at width s at = value 0 (take width (drop at s))

abbrev pub span_at : List ℕ → ℕ → Span
span_at s at = record { start = number_at 4 s at; end = number_at 4 s (at + 4) }

pub span-from : (s : List ℕ) (at : ℕ) {a b : ℕ} → a ≡ number_at 4 s at → b ≡ number_at 4 s (at + 4) → ◌≡◌ {A = Span} (record { start = a; end = b }) (span_at s at)
span-from s at p q = rw (p, q)

abbrev pub type_of : ℕ → ClassicalType
type_of n = get_or (ClassicalType.Int ∷ ClassicalType.UInt ∷ ClassicalType.Float ∷ ClassicalType.Angle ∷ ClassicalType.Bool ∷ []) n ClassicalType.Int

-- The symbols, level by level: the kinds' codes of all text numbers, a byte each; then for each an entry of 17 bytes: 1 if there is a size, the size, the span.
abbrev pub symbol_size : ℕ
symbol_size = 17

abbrev pub level_size : ℕ
level_size = 256 + 256 * symbol_size

abbrev pub code_place : ℕ → TextNumber → ℕ
code_place level x = level * level_size + x

abbrev pub symbol_place : ℕ → TextNumber → ℕ
symbol_place level x = level * level_size + 256 + x * symbol_size

-- the kinds by their codes; 0 is no symbol
abbrev pub kinds : List SymbolKind
kinds =
    Qubit ∷ Bit
    ∷ Classical ClassicalType.Int ∷ Classical ClassicalType.UInt ∷ Classical ClassicalType.Float ∷ Classical ClassicalType.Angle ∷ Classical ClassicalType.Bool
    ∷ Const ClassicalType.Int ∷ Const ClassicalType.UInt ∷ Const ClassicalType.Float ∷ Const ClassicalType.Angle ∷ Const ClassicalType.Bool
    ∷ GateParam ∷ GateQubit ∷ []

abbrev pub size_by : ℕ → ℕ → Option ℕ
size_by zero n = none
size_by (suc flag) n = some n

abbrev pub symbol_by : List ℕ → ℕ → ℕ → Option Symbol
symbol_by s at zero = none
symbol_by s at (suc code) =
    some (record { kind = get_or kinds code Qubit; size = size_by (get_or s at 0) (number_at 8 s (at + 1)); decl_span = span_at s (at + 9) })

abbrev pub symbol_at : List ℕ → ℕ → TextNumber → Option Symbol
symbol_at s level x = symbol_by s (symbol_place level x) (get_or s (code_place level x) 0)

-- text numbers are below 256
abbrev pub below256 : {A : Type 0} → TextNumber → Option A → Option A
below256 x a = cond (ltb x 256) a none

unfoldable pub scope_of : List ℕ → ℕ → Scope
scope_of s level x = below256 x (symbol_at s level x)

-- so many scopes, the innermost first
unfoldable pub scopes_of : List ℕ → ℕ → Symbols
scopes_of s zero = []
scopes_of s (suc depth) = scope_of s depth ∷ scopes_of s depth

-- The gates: an entry of 11 bytes for each text number: 1 if defined, parameters, qubits, the span.
abbrev pub gate_base : ℕ
gate_base = 9 * level_size

abbrev pub gate_place : TextNumber → ℕ
gate_place x = gate_base + x * 11

abbrev pub gate_by : List ℕ → ℕ → ℕ → Option GateSig
gate_by s at zero = none
gate_by s at (suc flag) = some (record { param-count = get_or s (at + 1) 0; qubit-count = get_or s (at + 2) 0; decl_span = span_at s (at + 3) })

unfoldable pub gates_of : List ℕ → Table GateSig
gates_of s x = below256 x (gate_by s (gate_place x) (get_or s (gate_place x) 0))

-- The functions: an entry of 27 bytes for each text number: 1 if defined, return type, number of parameters, the span, their types.
abbrev pub function_base : ℕ
function_base = gate_base + 256 * 11

abbrev pub function_place : TextNumber → ℕ
function_place x = function_base + x * 27

abbrev pub function_by : List ℕ → ℕ → ℕ → Option FunctionSig
function_by s at zero = none
function_by s at (suc flag) =
    some (record {
      params = map type_of (take (get_or s (at + 2) 0) (drop (at + 11) s));
      return_type = type_of (get_or s (at + 1) 0);
      decl_span = span_at s (at + 3);
    })

unfoldable pub functions_of : List ℕ → Table FunctionSig
functions_of s x = below256 x (function_by s (function_place x) (get_or s (function_place x) 0))

-- the places of the texts' length bytes
abbrev pub text_place : List ℕ → TextNumber → ℕ
text_place places x = get_or places x 0

-- the keys of the code, and so many of an index
abbrev pub keys_of : List KeyValue → List Key
keys_of ks = map key_of ks

abbrev pub keys_in : List KeyValue → ℕ → List Key
keys_in index n = keys_of (take n index)

-- the text with a number stands in the tree at its place
pub record TextAt (tree places : List ℕ) (x : TextNumber) : Type 0 where
  pub inside : text_place places x + 1 + get_or tree (text_place places x) 0 ≤ length tree
  pub same : part (text_place places x + 1) (text_place places x + 1 + get_or tree (text_place places x) 0) tree ≡ get_or (texts_of tree) x []
  pub short : get_or tree (text_place places x) 0 ≤ 64

pub record TextsAt (tree places : List ℕ) : Type 0 where
  pub size : length places ≡ 256
  pub few : length (texts_of tree) ≤ 256
  pub each : (x : ℕ) → x < length (texts_of tree) → TextAt tree places x

-- The mark sheet: for each key the place of the measure statement that marked it, or 0.
unfoldable pub place_in : List Key → List ℕ → Key → ℕ
place_in [] sheet k = 0
place_in (l ∷ ls) [] k = 0
place_in (l ∷ ls) (v ∷ vs) k = elim (same_key l k) [ true ↦ v | false ↦ place_in ls vs k ]

abbrev pub stmt_span : Stmt → Span
stmt_span (Stmt.Include at path sp) = sp
stmt_span (Stmt.QubitDecl at x size sp) = sp
stmt_span (Stmt.BitDecl at x size sp) = sp
stmt_span (Stmt.ClassicalDecl at q ty x init sp) = sp
stmt_span (Stmt.Assignment at x op value sp) = sp
stmt_span (Stmt.GateCall at x modifiers params args sp) = sp
stmt_span (Stmt.GateDef at x params qparams body sp) = sp
stmt_span (Stmt.FunctionDef at x params return_type body sp) = sp
stmt_span (Stmt.Measure at qubit target sp) = sp
stmt_span (Stmt.Reset at target sp) = sp
stmt_span (Stmt.Barrier at targets sp) = sp
stmt_span (Stmt.Delay at duration targets sp) = sp
stmt_span (Stmt.If at condition then_body else_body sp) = sp
stmt_span (Stmt.For at x ty range body sp) = sp
stmt_span (Stmt.While at condition body sp) = sp

-- the span of the measure statement whose case byte stands at a place
unfoldable pub measure_span : List ℕ → ℕ → Span
measure_span tree place = given (record { start = 0; end = 0 }) stmt_span (measure (texts_of tree) place tree (place + 1))

unfoldable pub mark_by : List ℕ → ℕ → Option Span
mark_by tree zero = none
mark_by tree (suc p) = some (measure_span tree (suc p))

unfoldable pub marks_of : List ℕ → List Key → List ℕ → Marks
marks_of tree ks sheet k = mark_by tree (place_in ks sheet k)

-- the context that the scratch, so many scopes of it, and the sheet stand for
abbrev pub context_of : List ℕ → List Key → List ℕ → ℕ → List ℕ → SemaContext
context_of tree ks scratch depth sheet =
    record { symbols = scopes_of scratch depth; gates = gates_of scratch; functions = functions_of scratch; measured = marks_of tree ks sheet }

-- a sheet has 256 places, and each is that of a measure statement, or 0
abbrev pub PlaceOk : List ℕ → ℕ → Type 0
PlaceOk tree zero = Unit {0}
PlaceOk tree (suc p) = IsOk (measure (texts_of tree) (suc p) tree (suc p + 1))

pub record Placed (tree sheet : List ℕ) : Type 0 where
  pub whole : length sheet ≡ 256
  pub each : (i : ℕ) → PlaceOk tree (get_or sheet i 0)
