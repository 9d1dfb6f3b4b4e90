-- The keys that the measure statements of a tree set. Assumes nothing.
use Rattle.std.specs.Prelude.{ℕ, ◌≡◌, ◌⊎◌, length}
use mathlib.Core.List.{List, [], ◌∷◌}
use Rattle.ast.specs.Tree.{Stmt, Stmts, no_stmt, more_stmt, Else, no_else, some_else, Program}
use Rattle.sema.specs.Symbols.{empty, Symbols, after, gate_scope, loop_scope}
use Rattle.sema.specs.Marks.{Key, set, mark_measured}
use Rattle.sema.specs.LawsLists.{Has, Distinct}

-- Some measure statement of the tree sets the key. The symbols are those where the tree stands.
abbrev mutual
  pub SetsStmt : Stmt → Symbols → Key → Type 0
  SetsStmt (Stmt.Include at path sp) ss k = ⊥
  SetsStmt (Stmt.QubitDecl at x size sp) ss k = ⊥
  SetsStmt (Stmt.BitDecl at x size sp) ss k = ⊥
  SetsStmt (Stmt.ClassicalDecl at q ty x init sp) ss k = ⊥
  SetsStmt (Stmt.Assignment at x op value sp) ss k = ⊥
  SetsStmt (Stmt.GateCall at x modifiers params args sp) ss k = ⊥
  SetsStmt (Stmt.GateDef at x params qparams body sp) ss k = Sets body (gate_scope params qparams sp ∷ ss) k
  SetsStmt (Stmt.FunctionDef at x params return_type body sp) ss k = ⊥
  SetsStmt (Stmt.Measure at qubit target sp) ss k = mark_measured ss qubit k ≡ set
  SetsStmt (Stmt.Reset at target sp) ss k = ⊥
  SetsStmt (Stmt.Barrier at targets sp) ss k = ⊥
  SetsStmt (Stmt.Delay at duration targets sp) ss k = ⊥
  SetsStmt (Stmt.If at condition then_body else_body sp) ss k = Sets then_body (empty ∷ ss) k ⊎ SetsElse else_body ss k
  SetsStmt (Stmt.For at x ty range body sp) ss k = Sets body (loop_scope x ty sp ∷ ss) k
  SetsStmt (Stmt.While at condition body sp) ss k = Sets body (empty ∷ ss) k

  pub Sets : Stmts → Symbols → Key → Type 0
  Sets no_stmt ss k = ⊥
  Sets (more_stmt s r) ss k = SetsStmt s ss k ⊎ Sets r (after ss s) k

  pub SetsElse : Else → Symbols → Key → Type 0
  SetsElse no_else ss k = ⊥
  SetsElse (some_else body) ss k = Sets body (empty ∷ ss) k

-- some measure statement of the program sets the key
abbrev pub SetsIn : Program → Key → Type 0
SetsIn p k = Sets p.statements (empty ∷ []) k

module _ (p : Program) where
  -- so many different keys are each set by some measure statement of the program
  pub record SetsMany (n : ℕ) : Type 0 where
    pub list : List Key
    pub count : length list ≡ n
    pub different : Distinct list
    pub are_set : (k : Key) → Has list k → SetsIn p k
