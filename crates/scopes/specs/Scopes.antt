-- What a declaration that was read says, and names given symbols one after the other.
use Rattle.std.specs.Prelude.{ℕ, ◌<◌, ◌≡◌, List, [], ◌∷◌, cond, length, eqb}
use Rattle.std.specs.Prelude.{Option as Maybe, Some, None}
use Rattle.std.proofs.Math.Option.{Option, none, some}
use Rattle.span.specs.declared.Span.{Span}
use Rattle.ast.specs.Tree.{Text, TextNumber, Stmt}
use Rattle.ast.specs.declared.ClassicalType.{ClassicalType}
use Rattle.ast.specs.declared.ClassicalQualifier.{ClassicalQualifier}
use Rattle.tree.specs.Ans.{Ans, next_of, given}
use Rattle.sema.specs.Messages.{SymbolKind, Qubit, Bit, Classical}
use Rattle.sema.specs.Symbols.{Symbol, Symbols, plain, insert_current, declare, after as afterStmt}
use Rattle.context.specs.Values.{kind_of, number_of}
use Rattle.context.specs.View.{stmt_span}
use Rattle.scopes.specs.declared.Declaration.{Declaration}

-- the kind of a register by its case byte: 1 declares qubits, 2 bits
abbrev pub register_kind : ℕ → SymbolKind
register_kind c = cond (eqb c 1) Qubit Bit

-- what a qualifier that was read stands for
abbrev pub qualified_of : Maybe ClassicalQualifier → Option ClassicalQualifier
qualified_of None = none
qualified_of (Some q) = some q

-- The statement that was read declares this: the place past it, a name of the file, the symbols after it, its span.
pub record Declares (t : List Text) (x : Ans Stmt) (r : Declaration) : Type 0 where
  pub next : r.end ≡ next_of x
  pub named : r.name < length t
  pub after : (ss : Symbols) → given ss (λ st. afterStmt ss st) x ≡ declare ss r.name (kind_of r.symbol.kind) (number_of r.symbol.size) r.symbol.decl_span
  pub span : (d : Span) → given d stmt_span x ≡ r.symbol.decl_span

-- the entry of a name, and of a parameter with its type
abbrev pub named : SymbolKind → Span → TextNumber → TextNumber × Symbol
named kind sp x = (x, plain kind sp)

abbrev pub typed : Span → ClassicalType × TextNumber → TextNumber × Symbol
typed sp p = (p.1, plain (Classical p.0) sp)

-- entries into the innermost scope, one after the other
unfoldable pub into : Symbols → List (TextNumber × Symbol) → Symbols
into ss [] = ss
into ss (e ∷ es) = into (insert_current ss e.0 e.1) es
