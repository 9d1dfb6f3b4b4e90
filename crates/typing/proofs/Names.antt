-- Names and names with an index, for each way out of the code. Assumes nothing.
use Prim.Native.Nat.{ℕ, ◌<◌, ◌≤◌}
use mathlib.Core.Path.{◌≡◌, refl, sym, ap, ◌∙◌}
use mathlib.Core.Bool.{Bool, true, false}
use mathlib.Core.List.{List}
use mathlib.Core.Option.{Option, none, some}
use mathlib.Core.Logic.{◌⊎◌, ⊎_elim}
use native.Mathlib.Omega.{arith}
use borrow.Author.Tests.{lt-ltb, le-ltb}
use Rattle.span.specs.declared.Span.{Span}
use Rattle.ast.specs.Tree.{Text, Expr}
use Rattle.ast.specs.declared.ClassicalType.{ClassicalType}
use Rattle.sema.specs.Symbols.{Symbol as Declared, Symbols, FunctionSig, Table, get}
use Rattle.sema.specs.Messages.{a_bit}
use Rattle.sema.specs.Operands.{fits}
use Rattle.sema.specs.Exprs.{Typing, ident_type, bit_index_type, index_type, check_expr}
use Rattle.context.specs.declared.Sink.{Sink}
use Rattle.context.specs.declared.Symbol.{Symbol as SymbolValue}
use Rattle.std.specs.Prelude.{Option as Maybe, Some, None}
use Rattle.context.specs.declared.SymbolKind.{SymbolKind}
use Rattle.context.specs.declared.Symbol.{Symbol}
use Rattle.context.specs.declared.Typing.{Typing as TypingValue}
use Rattle.context.specs.Values.{kind_of, number_of, symbol_of, found_of}
use Rattle.lines.specs.declared.Message.{Message}
use Rattle.typing.specs.Checks.{Found, has_type}
use Rattle.typing.proofs.Finds.{refused, found-typed}

pub name_below : {x y n : ℕ} → x ≡ y → y < n → x < n
name_below e l = rw e l

-- a name by its kind
module _ {t : List Text} (x : ℕ) (sp : Span) {end : ℕ} {s : Sink} {o : List ℕ} {r : TypingValue} {k : SymbolKind} where
  pub ident_typed : {ty : ClassicalType} → (k ≡ SymbolKind.Classical ty) ⊎ (k ≡ SymbolKind.Const ty) → r ≡ has_type ty end s → Found t (ident_type x sp (kind_of k)) end s o r o
  unfolding ident_type
  ident_typed {ty} d h = ⊎_elim (λ (e : k ≡ SymbolKind.Classical ty). rw e (found-typed h)) (λ (e : k ≡ SymbolKind.Const ty). rw e (found-typed h)) d

  pub ident_bit : k ≡ SymbolKind.Bit → r ≡ has_type ClassicalType.Int end s → Found t (ident_type x sp (kind_of k)) end s o r o
  unfolding ident_type
  ident_bit e h = rw e (found-typed h)

  pub ident-param : k ≡ SymbolKind.GateParam → r ≡ has_type ClassicalType.Float end s → Found t (ident_type x sp (kind_of k)) end s o r o
  unfolding ident_type
  ident-param e h = rw e (found-typed h)

  pub ident_wire : {o' : List ℕ} → (k ≡ SymbolKind.Qubit) ⊎ (k ≡ SymbolKind.GateQubit) → Found t (refused (Message.NotClassical x) sp) end s o r o' → Found t (ident_type x sp (kind_of k)) end s o r o'
  unfolding ident_type
  ident_wire d p = ⊎_elim (λ (e : k ≡ SymbolKind.Qubit). rw e p) (λ (e : k ≡ SymbolKind.GateQubit). rw e p) d

-- a name with an index by its symbol
module _ (x i : ℕ) (sp : Span) (v : Symbol) where
  index-not : (k : SymbolKind) → fits a_bit (kind_of k) ≡ false → index_type x i sp (symbol_of v) (kind_of k) ≡ refused (Message.NotIndexable x) sp
  unfolding index_type fits
  index-not SymbolKind.Qubit e = refl
  index-not SymbolKind.Bit e = let y : ◌≡◌ {A = ℕ} 0 1 = cc in absurd (omega arith)
  index-not (SymbolKind.Classical ty) e = refl
  index-not (SymbolKind.Const ty) e = refl
  index-not SymbolKind.GateParam e = refl
  index-not SymbolKind.GateQubit e = refl

  index_of : (k : SymbolKind) → fits a_bit (kind_of k) ≡ true → index_type x i sp (symbol_of v) (kind_of k) ≡ bit_index_type x i sp (number_of v.size)
  unfolding index_type fits
  index_of SymbolKind.Qubit e = let y : ◌≡◌ {A = ℕ} 0 1 = cc in absurd (omega arith)
  index_of SymbolKind.Bit e = refl
  index_of (SymbolKind.Classical ty) e = let y : ◌≡◌ {A = ℕ} 0 1 = cc in absurd (omega arith)
  index_of (SymbolKind.Const ty) e = let y : ◌≡◌ {A = ℕ} 0 1 = cc in absurd (omega arith)
  index_of SymbolKind.GateParam e = let y : ◌≡◌ {A = ℕ} 0 1 = cc in absurd (omega arith)
  index_of SymbolKind.GateQubit e = let y : ◌≡◌ {A = ℕ} 0 1 = cc in absurd (omega arith)

  module _ {t : List Text} {end : ℕ} {s : Sink} {o : List ℕ} {r : TypingValue} {b : Bool} (is : b ≡ fits a_bit (kind_of v.kind)) where
    pub index-other : {o' : List ℕ} → b ≡ false → Found t (refused (Message.NotIndexable x) sp) end s o r o' → Found t (index_type x i sp (symbol_of v) (kind_of v.kind)) end s o r o'
    index-other e p = rw (index-not v.kind (sym is ∙ e)) p

    pub index_unsized : {o' : List ℕ} → b ≡ true → v.size ≡ None → Found t (refused (Message.CannotIndexBit x) sp) end s o r o' → Found t (index_type x i sp (symbol_of v) (kind_of v.kind)) end s o r o'
    unfolding bit_index_type
    index_unsized e z p = rw (index_of v.kind (sym is ∙ e), z) p

    module _ {n : ℕ} where
      pub index-inside : b ≡ true → v.size ≡ Some n → i < n → r ≡ has_type ClassicalType.Int end s → Found t (index_type x i sp (symbol_of v) (kind_of v.kind)) end s o r o
      unfolding bit_index_type
      index-inside e z l h = rw (index_of v.kind (sym is ∙ e), z, lt-ltb i n l) (found-typed h)

      pub index-beyond : {o' : List ℕ} → b ≡ true → v.size ≡ Some n → n ≤ i → Found t (refused (Message.IndexOutOfBounds i x n) sp) end s o r o' → Found t (index_type x i sp (symbol_of v) (kind_of v.kind)) end s o r o'
      unfolding bit_index_type
      index-beyond e z l p = rw (index_of v.kind (sym is ∙ e), z, le-ltb i n l) p

-- a name that was looked up
module _ (ss : Symbols) (fs : Table FunctionSig) (y : ℕ) (sp : Span) where
  abbrev ident_by : Option Declared → Typing
  ident_by f = elim f [ none ↦ refused (Message.NotDeclared y) sp | some v ↦ ident_type y sp v.kind ]

  abbrev index_by : ℕ → Option Declared → Typing
  index_by j f = elim f [ none ↦ refused (Message.NotDeclared y) sp | some v ↦ index_type y j sp v v.kind ]

  ident_is : (f : Maybe SymbolValue) → found_of f ≡ get ss y → check_expr ss fs (Expr.Ident y sp) ≡ ident_by (found_of f)
  unfolding check_expr
  ident_is f g = ap ident_by (sym g)

  index_is : (j : ℕ) (f : Maybe SymbolValue) → found_of f ≡ get ss y → check_expr ss fs (Expr.Index y j sp) ≡ index_by j (found_of f)
  unfolding check_expr
  index_is j f g = ap (index_by j) (sym g)

module _ (ss : Symbols) (fs : Table FunctionSig) {t : List Text} {x y : ℕ} {sp sp' : Span} {end : ℕ} {s : Sink} {o : List ℕ} {r : TypingValue} {o' : List ℕ} (f : Maybe SymbolValue) (g : found_of f ≡ get ss x) (same : x ≡ y) (at : sp ≡ sp') where
  pub ident-missing : f ≡ None → Found t (refused (Message.NotDeclared x) sp) end s o r o' → Found t (check_expr ss fs (Expr.Ident y sp')) end s o r o'
  ident-missing e p = rw (← same, ← at, ident_is ss fs x sp f g, e) p

  pub index-missing : {i j : ℕ} → i ≡ j → f ≡ None → Found t (refused (Message.NotDeclared x) sp) end s o r o' → Found t (check_expr ss fs (Expr.Index y j sp')) end s o r o'
  index-missing {i = i} h e p = rw (← same, ← at, ← h, index_is ss fs x sp i f g, e) p

  module _ {v : Symbol} (e : f ≡ Some v) where
    pub ident-there : Found t (ident_type x sp (kind_of v.kind)) end s o r o' → Found t (check_expr ss fs (Expr.Ident y sp')) end s o r o'
    ident-there p = rw (← same, ← at, ident_is ss fs x sp f g, e) p

    pub index-there : {i j : ℕ} → i ≡ j → Found t (index_type x i sp (symbol_of v) (kind_of v.kind)) end s o r o' → Found t (check_expr ss fs (Expr.Index y j sp')) end s o r o'
    index-there {i = i} h p = rw (← same, ← at, ← h, index_is ss fs x sp i f g, e) p
