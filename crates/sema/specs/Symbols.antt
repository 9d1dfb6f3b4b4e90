-- Scopes and their symbols, gates and functions, as `SymbolTable` and the maps of `SemaContext` in src/sema.rs.
-- The scopes are listed from the innermost out.
use Rattle.std.specs.Prelude.{ℕ, List, [], ◌∷◌, map, cond, eqb}
use Rattle.std.proofs.Math.Option.{Option, none, some}
use Rattle.span.specs.declared.Span.{Span}
use Rattle.ast.specs.Tree.{TextNumber, Stmt}
use Rattle.ast.specs.declared.ClassicalType.{ClassicalType}
use Rattle.ast.specs.declared.ClassicalQualifier.{ClassicalQualifier}
use Rattle.sema.specs.Messages.{SymbolKind, Qubit, Bit, Classical, Const, GateParam, GateQubit, Diagnostic, error_with_note, already_declared, first_declared}

pub record Symbol : Type 0 where
  pub kind : SymbolKind
  pub size : Option ℕ
  pub decl_span : Span

pub record GateSig : Type 0 where
  pub param-count : ℕ
  pub qubit-count : ℕ
  pub decl_span : Span

pub record FunctionSig : Type 0 where
  pub params : List ClassicalType
  pub return_type : ClassicalType
  pub decl_span : Span

-- a map from names
abbrev pub Table : Type 0 → Type 0
Table A = TextNumber → Option A

abbrev pub empty : {A : Type 0} → Table A
empty x = none

-- what a name has after it was given an entry
unfoldable pub insert : {A : Type 0} → Table A → TextNumber → A → Table A
insert s x a y = cond (eqb x y) (some a) (s y)

abbrev pub Scope : Type 0
Scope = Table Symbol

abbrev pub Symbols : Type 0
Symbols = List Scope

abbrev pub or_else : {A : Type 0} → Option A → Option A → Option A
or_else none b = b
or_else (some a) b = some a

unfoldable pub get : Symbols → TextNumber → Option Symbol
get [] x = none
get (s ∷ ss) x = or_else (s x) (get ss x)

unfoldable pub get_current : Symbols → TextNumber → Option Symbol
get_current [] x = none
get_current (s ∷ ss) x = s x

abbrev pub insert_current : Symbols → TextNumber → Symbol → Symbols
insert_current [] x sym = insert empty x sym ∷ []
insert_current (s ∷ ss) x sym = insert s x sym ∷ ss

-- the first declaration of a scope stays
unfoldable pub declare : Symbols → TextNumber → SymbolKind → Option ℕ → Span → Symbols
declare ss x kind size sp =
    elim (get_current ss x) [ none ↦ insert_current ss x (record { kind = kind; size = size; decl_span = sp }) | some prev ↦ ss ]

-- what `declare` says
unfoldable pub declare_says : Symbols → TextNumber → Span → List Diagnostic
declare_says ss x sp =
    elim (get_current ss x) [ none ↦ [] | some prev ↦ error_with_note (already_declared x) sp (first_declared x) prev.decl_span ∷ [] ]

-- a declaration's kind
unfoldable pub decl_kind : Option ClassicalQualifier → ClassicalType → SymbolKind
decl_kind none ty = Classical ty
decl_kind (some ClassicalQualifier.Const) ty = Const ty
decl_kind (some ClassicalQualifier.Input) ty = Classical ty
decl_kind (some ClassicalQualifier.Output) ty = Classical ty

-- The symbols after a statement. Only declarations add to the scope where they stand; every body has a scope of its own.
unfoldable pub after : Symbols → Stmt → Symbols
after ss (Stmt.Include at path sp) = ss
after ss (Stmt.QubitDecl at x size sp) = declare ss x Qubit size sp
after ss (Stmt.BitDecl at x size sp) = declare ss x Bit size sp
after ss (Stmt.ClassicalDecl at q ty x init sp) = declare ss x (decl_kind q ty) none sp
after ss (Stmt.Assignment at x op value sp) = ss
after ss (Stmt.GateCall at x modifiers params args sp) = ss
after ss (Stmt.GateDef at x params qparams body sp) = ss
after ss (Stmt.FunctionDef at x params return_type body sp) = ss
after ss (Stmt.Measure at qubit target sp) = ss
after ss (Stmt.Reset at target sp) = ss
after ss (Stmt.Barrier at targets sp) = ss
after ss (Stmt.Delay at duration targets sp) = ss
after ss (Stmt.If at condition then_body else_body sp) = ss
after ss (Stmt.For at x ty range body sp) = ss
after ss (Stmt.While at condition body sp) = ss

-- inserted one after the other: the last of a name stays
unfoldable pub insert_all : Scope → List (TextNumber × Symbol) → Scope
insert_all s [] = s
insert_all s (e ∷ es) = insert_all (insert s e.0 e.1) es

abbrev pub plain : SymbolKind → Span → Symbol
plain kind sp = record { kind = kind; size = none; decl_span = sp }

-- the scope that a gate's body begins with: parameters, then qubits
unfoldable pub gate_scope : List TextNumber → List TextNumber → Span → Scope
gate_scope params qparams sp =
    insert_all (insert_all empty (map (λ x. (x, plain GateParam sp)) params)) (map (λ x. (x, plain GateQubit sp)) qparams)

-- the scope of a function's body
unfoldable pub function_scope : List (ClassicalType × TextNumber) → Span → Scope
function_scope params sp = insert_all empty (map (λ p. (p.1, plain (Classical p.0) sp)) params)

-- the scope of a `for` body: the loop variable
unfoldable pub loop_scope : TextNumber → ClassicalType → Span → Scope
loop_scope x ty sp = insert empty x (plain (Classical ty) sp)
