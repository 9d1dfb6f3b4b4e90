-- What the code's values stand for.
use Rattle.std.specs.Prelude.{ℕ}
use Rattle.std.proofs.Math.Option.{Option, none, some}
use Rattle.ast.specs.Tree.{GateOperand}
use Rattle.ast.specs.declared.ClassicalType.{ClassicalType}
use Rattle.std.specs.Prelude.{Option as Maybe, Some, None}
use Rattle.sema.specs.Messages
use Rattle.sema.specs.Symbols.{Symbol, GateSig}
use Rattle.sema.specs.Marks.{Key}
use Rattle.context.specs.declared.GateOperand.{GateOperand as Operand}
use Rattle.context.specs.declared.Key.{Key as KeyValue}
use Rattle.context.specs.declared.SymbolKind.{SymbolKind}
use Rattle.context.specs.declared.Symbol.{Symbol as SymbolValue}
use Rattle.context.specs.declared.GateSig.{GateSig as GateValue}

abbrev pub number_of : Maybe ℕ → Option ℕ
number_of (Some n) = some n
number_of None = none

abbrev pub key_of : KeyValue → Key
key_of k = record { name = k.name; index = number_of k.index }

abbrev pub ends_of : Maybe (ℕ × ℕ) → Option (ℕ × ℕ)
ends_of (Some (a, b)) = some (a, b)
ends_of None = none

abbrev pub operand_of : Operand → GateOperand
operand_of o = record { name = o.name; index = number_of o.index; slice = ends_of o.slice; span = o.span }

abbrev pub kind_of : SymbolKind → Messages.SymbolKind
kind_of SymbolKind.Qubit = Messages.Qubit
kind_of SymbolKind.Bit = Messages.Bit
kind_of (SymbolKind.Classical ty) = Messages.Classical ty
kind_of (SymbolKind.Const ty) = Messages.Const ty
kind_of SymbolKind.GateParam = Messages.GateParam
kind_of SymbolKind.GateQubit = Messages.GateQubit

abbrev pub symbol_of : SymbolValue → Symbol
symbol_of s = record { kind = kind_of s.kind; size = number_of s.size; decl_span = s.decl_span }

abbrev pub found_of : Maybe SymbolValue → Option Symbol
found_of (Some s) = some (symbol_of s)
found_of None = none

abbrev pub gate_of : GateValue → GateSig
gate_of g = record { param-count = g.param_count; qubit-count = g.qubit_count; decl_span = g.decl_span }

abbrev pub found_gate_of : Maybe GateValue → Option GateSig
found_gate_of (Some g) = some (gate_of g)
found_gate_of None = none

abbrev pub typed_of : Maybe ClassicalType → Option ClassicalType
typed_of (Some ty) = some ty
typed_of None = none
