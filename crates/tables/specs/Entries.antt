-- The bytes of the tables' entries, as the views of the context read them.
use Rattle.std.specs.Prelude.{ℕ, zero, suc, ◌+◌, List, [], ◌∷◌, ◌++◌, get_or}
use Rattle.std.proofs.Math.Option.{Option, none, some}
use Rattle.span.specs.declared.Span.{Span}
use Rattle.ast.specs.declared.ClassicalType.{ClassicalType}
use Rattle.types.specs.Types.{number_of}
use Rattle.tree.specs.Encode.{big}
use Rattle.tree.specs.Fits.{NumberFits, SpanFits, OptionFits}
use Rattle.sema.specs.Messages.{SymbolKind, Qubit, Bit, Classical, Const, GateParam, GateQubit}
use Rattle.sema.specs.Symbols.{Symbol, GateSig}

-- the code of a kind: its place among the kinds, counted from 1
abbrev pub code_of : SymbolKind → ℕ
code_of Qubit = 1
code_of Bit = 2
code_of (Classical ty) = 3 + number_of ty
code_of (Const ty) = 8 + number_of ty
code_of GateParam = 13
code_of GateQubit = 14

abbrev pub span_bytes : Span → List ℕ
span_bytes sp = big 4 sp.start ++ big 4 sp.end

abbrev pub size_bytes : Option ℕ → List ℕ
size_bytes none = 0 ∷ big 8 0
size_bytes (some n) = 1 ∷ big 8 n

-- the numbers of a symbol have their bytes
pub record SymbolFits (sym : Symbol) : Type 0 where
  pub size_fits : OptionFits (NumberFits 8) sym.size
  pub span_fits : SpanFits sym.decl_span

unfoldable pub symbol_bytes : Symbol → List ℕ
symbol_bytes sym = size_bytes sym.size ++ span_bytes sym.decl_span

unfoldable pub gate_bytes : GateSig → List ℕ
gate_bytes g = 1 ∷ g.param-count ∷ g.qubit-count ∷ span_bytes g.decl_span

-- the type bytes of so many parameters in the tree: 3 bytes each, the type's first
unfoldable pub type_bytes : List ℕ → ℕ → ℕ → List ℕ
type_bytes tree at zero = []
type_bytes tree at (suc n) = get_or tree at 0 ∷ type_bytes tree (at + 3) n

unfoldable pub function_bytes : ClassicalType → Span → ℕ → List ℕ → List ℕ
function_bytes ty sp count types = 1 ∷ number_of ty ∷ count ∷ (span_bytes sp ++ types)
