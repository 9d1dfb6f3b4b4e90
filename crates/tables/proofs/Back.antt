-- The bytes of an entry are read as what they were made of. Assumes nothing.
use Prim.Native.Nat.{ℕ, suc, ◌+◌, ◌-◌}
use mathlib.Core.Path.{◌≡◌, refl, ap, ap₂, ◌∙◌}
use mathlib.Core.List.{List, map}
use mathlib.Core.Option.{Option, none, some}
use native.Mathlib.Omega.{arith}
use lib.ListN.{length, get_or, take}
use lib.Seq.{take_all}
use Rattle.text.specs.Big.{value}
use Rattle.span.specs.declared.Span.{Span}
use Rattle.ast.specs.declared.ClassicalType.{ClassicalType}
use Rattle.tree.specs.Encode.{big}
use Rattle.tree.specs.Fits.{NumberFits, SpanFits, OptionFits}
use Rattle.sema.specs.Messages.{SymbolKind, Qubit, Bit, Classical, Const, GateParam, GateQubit}
use Rattle.sema.specs.Symbols.{Symbol, GateSig}
use Rattle.context.specs.View.{type_of, symbol_by, gate_by, function_by}
use Rattle.tables.specs.Entries.{code_of, symbol_bytes, gate_bytes, function_bytes}
use Rattle.tree.proofs.Back.{value-big}
use Rattle.tables.proofs.Codes.{type-number, kind_code}

span-back : (sp : Span) → SpanFits sp → ◌≡◌ {A = Span} (record { start = value 0 (big 4 sp.start); end = value 0 (big 4 sp.end) }) sp
span-back sp h = rw (value-big 4 sp.start h.start_fits, value-big 4 sp.end h.end_fits)

code_suc : (k : SymbolKind) → code_of k ≡ suc (code_of k - 1)
code_suc Qubit = refl
code_suc Bit = refl
code_suc (Classical ty) = omega arith
code_suc (Const ty) = omega arith
code_suc GateParam = refl
code_suc GateQubit = refl

abbrev symbol : SymbolKind → Option ℕ → Span → Symbol
symbol k z sp = record { kind = k; size = z; decl_span = sp }

module _ (k : SymbolKind) (sp : Span) where
  pub length-symbol : (z : Option ℕ) → length (symbol_bytes (symbol k z sp)) ≡ 17
  unfolding symbol_bytes big
  length-symbol none = refl
  length-symbol (some n) = refl

  pub symbol-back : (z : Option ℕ) → OptionFits (NumberFits 8) z → SpanFits sp → symbol_by (symbol_bytes (symbol k z sp)) 0 (code_of k) ≡ some (symbol k z sp)
  unfolding symbol_bytes big OptionFits
  symbol-back none f h =
      ap (symbol_by (symbol_bytes (symbol k none sp)) 0) (code_suc k)
      ∙ ap₂ (λ (j : SymbolKind) (q : Span). some (symbol j none q)) (kind_code k) (span-back sp h)
  symbol-back (some n) f h =
      ap (symbol_by (symbol_bytes (symbol k (some n) sp)) 0) (code_suc k)
      ∙ ap₂ (λ (j : SymbolKind) (q : Span). some (symbol j (some (value 0 (big 8 n))) q)) (kind_code k) (span-back sp h)
      ∙ ap (λ (m : ℕ). some (symbol k (some m) sp)) (value-big 8 n f)

pub length-gate : (g : GateSig) → length (gate_bytes g) ≡ 11
unfolding gate_bytes big
length-gate g = refl

pub gate-back : (g : GateSig) → SpanFits g.decl_span → gate_by (gate_bytes g) 0 (get_or (gate_bytes g) 0 0) ≡ some g
unfolding gate_bytes big
gate-back g h =
    ap (λ (q : Span). some (record { param-count = g.param-count; qubit-count = g.qubit-count; decl_span = q })) (span-back g.decl_span h)

module _ (ty : ClassicalType) (sp : Span) (types : List ℕ) where
  pub length_function : (count : ℕ) → length (function_bytes ty sp count types) ≡ 11 + length types
  unfolding function_bytes big
  length_function count = omega arith

  pub function_count : (count : ℕ) → get_or (function_bytes ty sp count types) (0 + 2) 0 ≡ count
  unfolding function_bytes
  function_count count = refl

  pub function_back : (count : ℕ) → length types ≡ count → SpanFits sp → function_by (function_bytes ty sp count types) 0 (get_or (function_bytes ty sp count types) 0 0) ≡ some (record { params = map type_of types; return_type = ty; decl_span = sp })
  unfolding function_bytes big
  function_back count l h =
      ap₂ (λ (r : ClassicalType) (q : Span). some (record { params = map type_of (take count types); return_type = r; decl_span = q })) (type-number ty) (span-back sp h)
      ∙ ap (λ (ts : List ℕ). some (record { params = map type_of ts; return_type = ty; decl_span = sp })) (take_all count types (omega arith))
