-- Laws of scopes: which declaration a name finds, and which one stays. No proof uses them; they hold the definitions, and wrong ones are
-- refused by them (must-fail). Assumes nothing.
use Rattle.std.specs.Prelude.{ℕ, ◌≡◌, ◌∷◌}
use Rattle.std.proofs.Math.Option.{Option, none, some}
use Rattle.span.specs.declared.Span.{Span}
use Rattle.ast.specs.Tree.{TextNumber}
use Rattle.sema.specs.Messages.{SymbolKind}
use Rattle.sema.specs.Symbols.{Symbol, Scope, Symbols, get, get_current, insert_current, declare}

-- the innermost scope first, then those around it
module _ (s : Scope) (ss : Symbols) (x : TextNumber) where
  pub get-inner : (sym : Symbol) → get_current (s ∷ ss) x ≡ some sym → get (s ∷ ss) x ≡ some sym
  unfolding get get_current
  get-inner sym e = rw e

  pub get-outer : get_current (s ∷ ss) x ≡ none → get (s ∷ ss) x ≡ get ss x
  unfolding get get_current
  get-outer e = rw e

-- the first declaration of a scope stays
module _ (ss : Symbols) (x : TextNumber) (kind : SymbolKind) (size : Option ℕ) (sp : Span) where
  pub declare-again : (prev : Symbol) → get_current ss x ≡ some prev → declare ss x kind size sp ≡ ss
  unfolding declare
  declare-again prev e = rw (e, declare)

  pub declare-new : get_current ss x ≡ none → declare ss x kind size sp ≡ insert_current ss x (record { kind = kind; size = size; decl_span = sp })
  unfolding declare
  declare-new e = rw (e, declare)
