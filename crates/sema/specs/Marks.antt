-- Marks of measurement, as `measured` of `SemaContext` in src/sema.rs: which keys are marked, and with which span.
use Rattle.std.specs.Prelude.{ℕ, zero, suc, ◌-◌, Bool, true, false, cond, ◌&&◌, eqb, leb, ltb}
use Rattle.std.proofs.Math.Option.{Option, none, some}
use Rattle.span.specs.declared.Span.{Span}
use Rattle.ast.specs.Tree.{TextNumber, GateOperand, Stmt}
use Rattle.sema.specs.Symbols.{Symbols, Symbol, get, or_else}

-- "A mark is a key: a text with an index, or a text alone (the whole key). Keys go by text, not by declaration."
pub record Key : Type 0 where
  pub name : TextNumber
  pub index : Option ℕ

abbrev pub Marks : Type 0
Marks = Key → Option Span

abbrev pub no_marks : Marks
no_marks k = none

abbrev pub key : TextNumber → Option ℕ → Key
key x i = record { name = x; index = i }

-- What a statement does to a key.
pub data Effect : Type 0 where
  set clear keep : Effect

abbrev pub between : ℕ × ℕ → ℕ → Bool
between r i = leb r.0 i && leb i r.1

-- an index of the slice
unfoldable pub in_slice : ℕ × ℕ → Option ℕ → Bool
in_slice r none = false
in_slice r (some i) = between r i

unfoldable pub is_index : ℕ → Option ℕ → Bool
is_index j none = false
is_index j (some i) = eqb i j

-- the size of the symbol that a name shows, if it has one
unfoldable pub size_of : Option Symbol → Option ℕ
size_of none = none
size_of (some sym) = sym.size

-- the whole key, and each index below the size
unfoldable pub below_size : Option ℕ → Option ℕ → Bool
below_size size none = true
below_size none (some i) = false
below_size (some n) (some i) = ltb i n

-- "Measure q sets the whole key and, if the q now visible has a size, each index below it. Measure q[i] sets that key alone; a slice
-- sets each index in it."
unfoldable pub measures : Option ℕ → Option (ℕ × ℕ) → Option ℕ → Option ℕ → Bool
measures size (some r) index i = in_slice r i
measures size none (some j) i = is_index j i
measures size none none i = below_size size i

-- "Reset q clears every key of that text. Reset q[i] clears one index, a slice its indices; the whole key remains"
unfoldable pub resets : Option (ℕ × ℕ) → Option ℕ → Option ℕ → Bool
resets (some r) index i = in_slice r i
resets none (some j) i = is_index j i
resets none none i = true

-- `mark_measured` and `clear_measured`, where the symbols are ss
unfoldable pub mark_measured : Symbols → GateOperand → Key → Effect
mark_measured ss op k = cond (eqb k.name op.name && measures (size_of (get ss op.name)) op.slice op.index k.index) set keep

unfoldable pub clear_measured : GateOperand → Key → Effect
clear_measured op k = cond (eqb k.name op.name && resets op.slice op.index k.index) clear keep

-- The effect of a statement, which goes by where the statement stands and not by the marks. A statement with a body has none of its own.
unfoldable pub effect : Symbols → Stmt → Key → Effect
effect ss (Stmt.Include at path sp) k = keep
effect ss (Stmt.QubitDecl at x size sp) k = keep
effect ss (Stmt.BitDecl at x size sp) k = keep
effect ss (Stmt.ClassicalDecl at q ty x init sp) k = keep
effect ss (Stmt.Assignment at x op value sp) k = keep
effect ss (Stmt.GateCall at x modifiers params args sp) k = keep
effect ss (Stmt.GateDef at x params qparams body sp) k = keep
effect ss (Stmt.FunctionDef at x params return_type body sp) k = keep
effect ss (Stmt.Measure at qubit target sp) k = mark_measured ss qubit k
effect ss (Stmt.Reset at target sp) k = clear_measured target k
effect ss (Stmt.Barrier at targets sp) k = keep
effect ss (Stmt.Delay at duration targets sp) k = keep
effect ss (Stmt.If at condition then_body else_body sp) k = keep
effect ss (Stmt.For at x ty range body sp) k = keep
effect ss (Stmt.While at condition body sp) k = keep

-- a mark after an effect; sp is the span of the measure statement
unfoldable pub mark : Span → Effect → Option Span → Option Span
mark sp set m = some sp
mark sp clear m = none
mark sp keep m = m

unfoldable pub apply : (Key → Effect) → Span → Marks → Marks
apply f sp m k = mark sp (f k) (m k)

-- "both exits are united .. For one key in both, the place of the entry or `then` side wins."
unfoldable pub unite : Marks → Marks → Marks
unite a b k = or_else (a k) (b k)

-- "for loops: entry and exit united"
unfoldable pub after_loop : Marks → Marks → Marks
after_loop entry exit = unite entry exit

-- "Covering: q by its whole key only; q[i] by its own and the whole key"
unfoldable pub lookup_measured : Marks → TextNumber → Option ℕ → Option Span
lookup_measured m x none = m (key x none)
lookup_measured m x (some i) = or_else (m (key x (some i))) (m (key x none))

-- the first of so many indices, from i on, that a mark covers, and its mark
unfoldable pub first_covered : Marks → TextNumber → ℕ → ℕ → Option (ℕ × Span)
first_covered m x zero i = none
first_covered m x (suc n) i =
    elim (lookup_measured m x (some i)) [ none ↦ first_covered m x n (suc i) | some sp ↦ some (i, sp) ]

-- "A covered slice reports its smallest covered index"; none where start > end
unfoldable pub smallest_covered : Marks → TextNumber → ℕ × ℕ → Option (ℕ × Span)
smallest_covered m x r = first_covered m x (suc r.1 - r.0) r.0
