-- The types by their numbers, and the kinds by their codes. Assumes nothing.
use Prim.Native.Nat.{ℕ, zero, suc, ◌-◌, ◌≤◌, ◌<◌}
use mathlib.Core.Path.{◌≡◌, refl, sym, ap, ◌∙◌}
use native.Mathlib.Omega.{arith}
use lib.ListN.{get_or}
use Rattle.ast.specs.declared.ClassicalType.{ClassicalType}
use Rattle.types.specs.Types.{number_of}
use Rattle.sema.specs.Messages.{SymbolKind, Qubit, Bit, Classical, Const, GateParam, GateQubit}
use Rattle.context.specs.View.{type_of, kinds}
use Rattle.tables.specs.Entries.{code_of}

pub type-number : (ty : ClassicalType) → type_of (number_of ty) ≡ ty
type-number ClassicalType.Int = refl
type-number ClassicalType.UInt = refl
type-number ClassicalType.Float = refl
type-number ClassicalType.Angle = refl
type-number ClassicalType.Bool = refl

-- the code of a kind is its place among the kinds, counted from 1
pub kind_code : (k : SymbolKind) → get_or kinds (code_of k - 1) Qubit ≡ k
kind_code Qubit = refl
kind_code Bit = refl
kind_code (Classical ClassicalType.Int) = refl
kind_code (Classical ClassicalType.UInt) = refl
kind_code (Classical ClassicalType.Float) = refl
kind_code (Classical ClassicalType.Angle) = refl
kind_code (Classical ClassicalType.Bool) = refl
kind_code (Const ClassicalType.Int) = refl
kind_code (Const ClassicalType.UInt) = refl
kind_code (Const ClassicalType.Float) = refl
kind_code (Const ClassicalType.Angle) = refl
kind_code (Const ClassicalType.Bool) = refl
kind_code GateParam = refl
kind_code GateQubit = refl

number-type : (n : ℕ) → n < 5 → number_of (type_of n) ≡ n
number-type zero h = refl
number-type (suc zero) h = refl
number-type (suc (suc zero)) h = refl
number-type (suc (suc (suc zero))) h = refl
number-type (suc (suc (suc (suc zero)))) h = refl
number-type (suc (suc (suc (suc (suc n))))) h = absurd (omega arith)

-- the kinds with a type by their codes
has_code : (code : ℕ) (k : SymbolKind) → code ≡ code_of k → k ≡ get_or kinds (code - 1) Qubit
has_code code k e = sym (kind_code k) ∙ ap (λ n. get_or kinds (n - 1) Qubit) (sym e)

pub kind_classical : (code : ℕ) (ty : ClassicalType) → 3 ≤ code → code < 8 → ty ≡ type_of (code - 3) → Classical ty ≡ get_or kinds (code - 1) Qubit
kind_classical code ty l h e = has_code code (Classical ty) (omega (arith, number-type (code - 3) (omega arith), ap number_of e))

pub kind_const : (code : ℕ) (ty : ClassicalType) → 8 ≤ code → code < 13 → ty ≡ type_of (code - 8) → Const ty ≡ get_or kinds (code - 1) Qubit
kind_const code ty l h e = has_code code (Const ty) (omega (arith, number-type (code - 8) (omega arith), ap number_of e))
