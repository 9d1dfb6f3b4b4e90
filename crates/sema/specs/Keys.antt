-- The different keys that the measure statements of a whole tree set. Of a range that holds more than the limit only the first indices
-- are taken, one more than the limit: with these there are too many already.
use Rattle.std.specs.Prelude.{ℕ, zero, suc, ◌-◌, min, List, [], ◌∷◌, ◌++◌, Bool, true, false, ◌&&◌, ◌||◌, eqb}
use Rattle.std.proofs.Math.Option.{Option, none, some}
use Rattle.sema.specs.Constants.{or0}
use Rattle.ast.specs.Tree.{TextNumber, Stmt, Stmts, no_stmt, more_stmt, Else, no_else, some_else, Program}
use Rattle.sema.specs.Limits.{key_limit}
use Rattle.sema.specs.Symbols.{Symbols, empty, get, after, gate_scope, loop_scope}
use Rattle.sema.specs.Marks.{Key, key, size_of}

unfoldable pub same_index : Option ℕ → Option ℕ → Bool
same_index none none = true
same_index none (some j) = false
same_index (some i) none = false
same_index (some i) (some j) = eqb i j

unfoldable pub same_key : Key → Key → Bool
same_key k l = eqb k.name l.name && same_index k.index l.index

unfoldable pub has_key : List Key → Key → Bool
has_key [] k = false
has_key (l ∷ ls) k = same_key l k || has_key ls k

-- a key more, behind the others, if it is not there
unfoldable pub add_key : List Key → Key → List Key
add_key ks k = elim (has_key ks k) [ true ↦ ks | false ↦ ks ++ (k ∷ []) ]

-- so many indices of a name, from i on
unfoldable pub add_indices : List Key → TextNumber → ℕ → ℕ → List Key
add_indices ks x zero i = ks
add_indices ks x (suc n) i = add_indices (add_key ks (key x (some i))) x n (suc i)

unfoldable pub add_range : List Key → TextNumber → ℕ → ℕ → List Key
add_range ks x i n = add_indices ks x (min n (suc key_limit)) i

-- the keys that a measure of an operand sets
unfoldable pub add_measured : List Key → TextNumber → Option ℕ → Option (ℕ × ℕ) → Option ℕ → List Key
add_measured ks x size (some r) index = add_range ks x r.0 (suc r.1 - r.0)
add_measured ks x size none (some i) = add_key ks (key x (some i))
add_measured ks x size none none = add_range (add_key ks (key x none)) x 0 (or0 size)

unfoldable mutual
  pub keys_stmt : Stmt → Symbols → List Key → List Key
  keys_stmt (Stmt.Include at path sp) ss ks = ks
  keys_stmt (Stmt.QubitDecl at x size sp) ss ks = ks
  keys_stmt (Stmt.BitDecl at x size sp) ss ks = ks
  keys_stmt (Stmt.ClassicalDecl at q ty x init sp) ss ks = ks
  keys_stmt (Stmt.Assignment at x op value sp) ss ks = ks
  keys_stmt (Stmt.GateCall at x modifiers params args sp) ss ks = ks
  keys_stmt (Stmt.GateDef at x params qparams body sp) ss ks = keys_stmts body (gate_scope params qparams sp ∷ ss) ks
  keys_stmt (Stmt.FunctionDef at x params return_type body sp) ss ks = ks
  keys_stmt (Stmt.Measure at qubit target sp) ss ks =
      add_measured ks qubit.name (size_of (get ss qubit.name)) qubit.slice qubit.index
  keys_stmt (Stmt.Reset at target sp) ss ks = ks
  keys_stmt (Stmt.Barrier at targets sp) ss ks = ks
  keys_stmt (Stmt.Delay at duration targets sp) ss ks = ks
  keys_stmt (Stmt.If at condition then_body else_body sp) ss ks = keys_else else_body ss (keys_stmts then_body (empty ∷ ss) ks)
  keys_stmt (Stmt.For at x ty range body sp) ss ks = keys_stmts body (loop_scope x ty sp ∷ ss) ks
  keys_stmt (Stmt.While at condition body sp) ss ks = keys_stmts body (empty ∷ ss) ks

  pub keys_stmts : Stmts → Symbols → List Key → List Key
  keys_stmts no_stmt ss ks = ks
  keys_stmts (more_stmt s r) ss ks = keys_stmts r (after ss s) (keys_stmt s ss ks)

  pub keys_else : Else → Symbols → List Key → List Key
  keys_else no_else ss ks = ks
  keys_else (some_else body) ss ks = keys_stmts body (empty ∷ ss) ks

unfoldable pub keys : Program → List Key
keys p = keys_stmts p.statements (empty ∷ []) []
