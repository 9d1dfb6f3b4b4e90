-- An entry's fields stored one after the other are the entry stored. Assumes nothing.
use Prim.Native.Nat.{ℕ, suc, ◌+◌, ◌-◌, ◌*◌, ◌≤◌, ◌<◌}
use mathlib.Core.Path.{◌≡◌, refl, sym, ap, ◌∙◌}
use mathlib.Core.List.{List, [], ◌∷◌, ◌++◌, append-nil}
use mathlib.Core.Option.{Option, none, some}
use native.Mathlib.Omega.{arith}
use native.Mathlib.Numerals.{add-one, towards_suc}
use lib.ListN.{length, get_or, set, take, drop, replicate}
use lib.Seq.{sets, length-take-le}
use Rattle.span.specs.declared.Span.{Span}
use Rattle.ast.specs.declared.ClassicalType.{ClassicalType}
use Rattle.types.specs.Types.{number_of}
use Rattle.tree.specs.Encode.{big}
use Rattle.tree.specs.Fits.{NumberFits, OptionFits}
use Rattle.sema.specs.Symbols.{Symbol, GateSig}
use Rattle.std.specs.Prelude.{Option as Maybe, Some, None}
use Rattle.context.specs.Values.{number_of as size_of}
use Rattle.tables.specs.Entries.{code_of, span_bytes, size_bytes, symbol_bytes, gate_bytes, type_bytes, function_bytes}
use Rattle.tables.specs.Tables.{cleared}
use Rattle.text.proofs.Sets.{sets-append}
use Rattle.tree.proofs.Back.{length-big}

-- two runs of stores, one behind the other
pub joined : (xs ys : List ℕ) (s t u : List ℕ) (at n : ℕ) → length xs ≡ n → t ≡ sets s at xs → u ≡ sets t (at + n) ys → u ≡ sets s at (xs ++ ys)
joined xs ys s t u at n l e f = f ∙ rw (e, ← l) (sym (sets-append xs ys s at))

pub span-stored : (s t u : List ℕ) (at : ℕ) (sp : Span) → t ≡ sets s at (big 4 sp.start) → u ≡ sets t (at + 4) (big 4 sp.end) → u ≡ sets s at (span_bytes sp)
span-stored s t u at sp e f = joined (big 4 sp.start) (big 4 sp.end) s t u at 4 (length-big 4 sp.start) e f

length-size : (z : Option ℕ) → length (size_bytes z) ≡ 9
unfolding big
length-size none = refl
length-size (some n) = refl

-- the flag and the number of a size, or zeros
pub size-stored : (s t : List ℕ) (at n : ℕ) (z : Maybe ℕ) → z ≡ Some n → t ≡ sets (set s at 1) (at + 1) (big 8 n) → t ≡ sets s at (size_bytes (size_of z))
size-stored s t at n z h e = rw h (rw add-one at e)

pub no_size_stored : (s t : List ℕ) (at : ℕ) (z : Maybe ℕ) → z ≡ None → t ≡ sets s at (replicate 9 0) → t ≡ sets s at (size_bytes (size_of z))
unfolding big
no_size_stored s t at z h e = rw h e

pub size_fits : (z : Maybe ℕ) (n : ℕ) → z ≡ Some n → n < 18446744073709551616 → OptionFits (NumberFits 8) (size_of z)
unfolding OptionFits
size_fits z n e h = rw e h

pub no_size_fits : (z : Maybe ℕ) → z ≡ None → OptionFits (NumberFits 8) (size_of z)
unfolding OptionFits
no_size_fits z e = rw e tt

pub symbol_stored : (s t u v : List ℕ) (c at code : ℕ) (sym : Symbol) → code ≡ code_of sym.kind → t ≡ set s c code → u ≡ sets t at (size_bytes sym.size) → v ≡ sets u (at + 9) (span_bytes sym.decl_span) → v ≡ sets (set s c (code_of sym.kind)) at (symbol_bytes sym)
unfolding symbol_bytes
symbol_stored s t u v c at code sym k e f g =
    rw (e, k) at (joined (size_bytes sym.size) (span_bytes sym.decl_span) t u v at 9 (length-size sym.size) f g)

-- three bytes, and more behind them
threes : (s t : List ℕ) (at a b c : ℕ) (xs : List ℕ) → t ≡ sets (set (set (set s at a) (at + 1) b) (at + 2) c) (at + 3) xs → t ≡ sets s at (a ∷ b ∷ c ∷ xs)
threes s t at a b c xs e = simp towards_suc at e

pub gate_stored : (s t : List ℕ) (at : ℕ) (g : GateSig) → t ≡ sets (set (set (set s at 1) (at + 1) g.param-count) (at + 2) g.qubit-count) (at + 3) (span_bytes g.decl_span) → t ≡ sets s at (gate_bytes g)
unfolding gate_bytes
gate_stored s t at g = threes s t at 1 g.param-count g.qubit-count (span_bytes g.decl_span)

pub function_stored : (s t : List ℕ) (at n count : ℕ) (ty : ClassicalType) (sp : Span) → n ≡ number_of ty → t ≡ sets (set (set (set s at 1) (at + 1) n) (at + 2) count) (at + 3) (span_bytes sp) → t ≡ sets s at (function_bytes ty sp count [])
unfolding function_bytes
function_stored s t at n count ty sp h e =
    rw (h, ← append-nil (span_bytes sp)) at (threes s t at 1 n count (span_bytes sp) e)

-- the head of a function's entry, and its types
pub function_typed : (s t u : List ℕ) (at count : ℕ) (ty : ClassicalType) (sp : Span) (types : List ℕ) → t ≡ sets s at (function_bytes ty sp count []) → u ≡ sets t (at + 11) types → u ≡ sets s at (function_bytes ty sp count types)
unfolding function_bytes big
function_typed s t u at count ty sp types e f = joined (function_bytes ty sp count []) types s t u at 11 refl e f

-- of the types of a function i are stored
pub record Copying (s : List ℕ) (to : ℕ) (tree : List ℕ) (at count : ℕ) (t : List ℕ) (i : ℕ) : Type 0 where
  pub same : sets t (to + i) (type_bytes tree (at + 3 * i) (count - i)) ≡ sets s to (type_bytes tree at count)

module _ {s : List ℕ} {to : ℕ} {tree : List ℕ} {at count : ℕ} {t : List ℕ} {i : ℕ} (r : Copying s to tree at count t i) where
  pub copying_more : i < count → Copying s to tree at count (set t (to + i) (get_or tree (at + 3 * i) 0)) (i + 1)
  unfolding type_bytes
  copying_more h =
      let e : count - i ≡ suc (count - (i + 1)) = omega arith in
      let f : suc (to + i) ≡ to + (i + 1) = omega arith in
      let g : at + 3 * i + 3 ≡ at + 3 * (i + 1) = omega arith in
      record { same = rw (← f, ← g) (rw e at r.same) }

  pub copying_end : count ≤ i → t ≡ sets s to (type_bytes tree at count)
  unfolding type_bytes
  copying_end h = let e : count - i ≡ 0 = omega arith in rw e at r.same

-- the scratch cleared
pub cleared_by : (s z : List ℕ) → z ≡ replicate (length (take 65536 s)) 0 → 65536 ≤ length s → z ++ drop 65536 s ≡ cleared s
unfolding cleared
cleared_by s z e h = rw (length-take-le 65536 s h) at (ap (λ (l : List ℕ). l ++ drop 65536 s) e)
