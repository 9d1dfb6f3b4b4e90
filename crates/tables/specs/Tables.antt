-- What the functions of this crate say of the scratch and of what they find in it.
use Rattle.std.specs.Prelude.{ℕ, suc, ◌≤◌, ◌≡◌, List, [], ◌∷◌, ◌++◌, map, length, drop, replicate}
use Rattle.std.proofs.Math.Option.{Option, none, some}
use Rattle.tree.specs.Limits.{vec_limit}
use Rattle.span.specs.declared.Span.{Span}
use Rattle.ast.specs.Tree.{TextNumber}
use Rattle.ast.specs.declared.ClassicalType.{ClassicalType}
use Rattle.sema.specs.Symbols.{Symbol, GateSig, FunctionSig, Table, Symbols, empty, insert, insert_current}
use Rattle.context.specs.declared.FunctionSig.{FunctionSig as FunctionValue}
use Rattle.std.specs.Prelude.{Option as Maybe, Some, None}
use Rattle.context.specs.View.{type_of, scopes_of, gates_of, functions_of}
use Rattle.tables.specs.Entries.{type_bytes}

-- where the tables end
abbrev pub tables_end : ℕ
tables_end = 51200

-- From s the scratch has become t: so many scopes, the gates and the functions that it has. Its length and what lies past the tables stay.
pub record Becomes (s t : List ℕ) (depth : ℕ) (scopes : Symbols) (gates : Table GateSig) (functions : Table FunctionSig) : Type 0 where
  pub scopes_are : scopes_of t depth ≡ scopes
  pub gates_are : gates_of t ≡ gates
  pub functions_are : functions_of t ≡ functions
  pub same_length : length t ≡ length s
  pub same_rest : drop tables_end t ≡ drop tables_end s

-- the scopes stay, as many as there may be
abbrev pub KeepsScopes : List ℕ → List ℕ → Table GateSig → Table FunctionSig → Type 0
KeepsScopes s t gates functions = (depth : ℕ) → depth ≤ 9 → Becomes s t depth (scopes_of s depth) gates functions

-- The four changes: a symbol given in the innermost scope, a scope entered, a gate defined, a function defined.
abbrev pub Inserted : List ℕ → List ℕ → ℕ → TextNumber → Symbol → Type 0
Inserted s t depth x sym = Becomes s t depth (insert_current (scopes_of s depth) x sym) (gates_of s) (functions_of s)

abbrev pub Entered : List ℕ → List ℕ → ℕ → Type 0
Entered s t depth = Becomes s t (suc depth) (empty ∷ scopes_of s depth) (gates_of s) (functions_of s)

abbrev pub GateDefined : List ℕ → List ℕ → TextNumber → GateSig → Type 0
GateDefined s t x g = KeepsScopes s t (insert (gates_of s) x g) (functions_of s)

abbrev pub FunctionDefined : List ℕ → List ℕ → TextNumber → FunctionSig → Type 0
FunctionDefined s t x f = KeepsScopes s t (gates_of s) (insert (functions_of s) x f)

-- and what a walk begins with: one empty scope, no gates, no functions
abbrev pub Begun : List ℕ → List ℕ → Type 0
Begun s t = Becomes s t 1 (empty ∷ []) empty empty

-- a function as it is found: the number of its parameters in place of their types
abbrev pub brief_of : Option FunctionSig → Maybe FunctionValue
brief_of none = None
brief_of (some f) =
    Some (record { param_count = length f.params; return_type = f.return_type; decl_span = f.decl_span })

abbrev pub params_of : Option FunctionSig → List ClassicalType
params_of none = []
params_of (some f) = f.params

-- no function has more parameters: so it is where a walk begins, and after each definition from a tree
pub record FewParams (t : Table FunctionSig) : Type 0 where
  pub few : (x : ℕ) → length (params_of (t x)) ≤ vec_limit

-- the function that stands in the tree with so many parameters from a place on
abbrev pub function_in : List ℕ → ℕ → ℕ → ClassicalType → Span → FunctionSig
function_in tree at count ty sp = record { params = map type_of (type_bytes tree at count); return_type = ty; decl_span = sp }

-- the first 65,536 bytes zero
unfoldable pub cleared : List ℕ → List ℕ
cleared s = replicate 65536 0 ++ drop 65536 s
