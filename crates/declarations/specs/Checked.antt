-- What the parts of this crate's walk ask and promise.
use Rattle.std.specs.Prelude.{ℕ, suc, ◌+◌, ◌≤◌, ◌<◌, ◌≡◌, List, [], ◌∷◌, length}
use Rattle.std.proofs.Math.Option.{Option, none}
use Rattle.ast.specs.Tree.{Text, TextNumber, Expr, Stmt}
use Rattle.ast.specs.declared.ClassicalType.{ClassicalType}
use Rattle.tree.specs.Ans.{ok, IsOk}
use Rattle.tree.specs.Read.{option, vec}
use Rattle.tree.specs.Stmts.{held, param, stmt}
use Rattle.tree.specs.Decode.{texts_of}
use Rattle.sema.specs.Symbols.{declare, declare_says, function_scope}
use Rattle.sema.specs.Stmts.{define_function}
use Rattle.accepted.specs.Cases.{blank}
use Rattle.accepted.specs.Parts.{value_or}
use Rattle.context.specs.declared.Sink.{Sink}
use Rattle.context.specs.declared.Symbol.{Symbol}
use Rattle.context.specs.declared.Typing.{Typing}
use Rattle.context.specs.Values.{number_of, kind_of}
use Rattle.context.specs.View.{scopes_of, gates_of, functions_of}
use Rattle.tables.specs.Tables.{Becomes, KeepsScopes, FewParams}
use Rattle.promises.specs.Emitted.{Emitted}
use Rattle.declarations.specs.declared.parts.Function.{Function}
use Rattle.declarations.specs.Says.{defined_says, body_says}

-- the tables and the scopes that a check looks into
pub record Checkable (scratch : List ℕ) (depth : ℕ) : Type 0 where
  pub room : 65536 ≤ length scratch
  pub deep : depth ≤ 9

-- a value that was checked and ends in the tree, and a name that a report on it gives
pub record Valued (tree : List ℕ) (x : ℕ) (t : Typing) : Type 0 where
  pub named : x < length (texts_of tree)
  pub long : 8 ≤ t.next
  pub inside : t.next ≤ length tree

-- the scratch and the listing after a declaration
pub record Declared (t : List Text) (depth x : ℕ) (symbol : Symbol) (s : Sink) (scratch o : List ℕ) (r : Sink) (scratch' o' : List ℕ) : Type 0 where
  pub becomes : Becomes scratch scratch' depth (declare (scopes_of scratch depth) x (kind_of symbol.kind) (number_of symbol.size) symbol.decl_span) (gates_of scratch) (functions_of scratch)
  pub below : (d : ℕ) → d < depth → scopes_of scratch' d ≡ scopes_of scratch d
  pub emitted : Emitted t (declare_says (scopes_of scratch depth) x symbol.decl_span) s o r o'

-- the initializer at a place
abbrev pub init_at : List ℕ → ℕ → Option Expr
init_at tree at = value_or none (option (held (texts_of tree)) tree at)

-- the parameters at a place
abbrev pub params_at : List ℕ → ℕ → List (ClassicalType × TextNumber)
params_at tree at = value_or [] (vec (param (texts_of tree)) tree at)

-- the expression at a place
abbrev pub held_at : List ℕ → ℕ → Expr
held_at tree at = value_or blank (held (texts_of tree) tree at)

-- the function that is defined at a place
pub record FunctionAt (tree : List ℕ) (left at : ℕ) (f : Function) : Type 0 where
  pub is : stmt (texts_of tree) left tree at ≡ ok (Stmt.FunctionDef at f.name (params_at tree f.params) f.return_type (held_at tree f.body) f.span) f.end
  pub named : f.name < length (texts_of tree)
  pub params_are : f.params ≡ at + 3
  pub params : IsOk (vec (param (texts_of tree)) tree f.params)
  pub body : IsOk (held (texts_of tree) tree f.body)

-- the scratch and the listing after the definition of f
pub record Defined (tree : List ℕ) (f : Function) (s : Sink) (scratch o : List ℕ) (r : Sink) (scratch' o' : List ℕ) : Type 0 where
  pub becomes : KeepsScopes scratch scratch' (gates_of scratch) (define_function f.name (params_at tree f.params) f.return_type f.span (functions_of scratch))
  pub few : FewParams (functions_of scratch')
  pub emitted : Emitted (texts_of tree) (defined_says (functions_of scratch f.name) f.name f.span) s o r o'

-- the scratch and the listing after its body
pub record BodyChecked (tree : List ℕ) (depth : ℕ) (f : Function) (s : Sink) (scratch o : List ℕ) (r : Sink) (scratch' o' : List ℕ) : Type 0 where
  pub becomes : Becomes scratch scratch' (suc depth) (function_scope (params_at tree f.params) f.span ∷ scopes_of scratch depth) (gates_of scratch) (functions_of scratch)
  pub emitted : Emitted (texts_of tree) (body_says (function_scope (params_at tree f.params) f.span ∷ scopes_of scratch depth) (functions_of scratch) f.name f.return_type (held_at tree f.body)) s o r o'
