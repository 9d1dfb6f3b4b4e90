-- Where marks stand, and what holds of every context that the analysis meets. Assumes nothing.
use Rattle.std.specs.Prelude.{List, T}
use Rattle.ast.specs.Tree.{Text, Stmt, Stmts, no_stmt, more_stmt, Else, no_else, some_else}
use Rattle.sema.specs.Symbols.{empty, gate_scope, loop_scope}
use Rattle.sema.specs.Marks.{Key, Marks}
use Rattle.sema.specs.Operands.{is_some}
use Rattle.sema.specs.Stmts.{SemaContext, enter, leave, define_gate, analyze_stmt, analyze_stmts}

-- a mark stands only at keys of K
abbrev pub Only : (Key → Type 0) → Marks → Type 0
Only K m = (k : Key) → T (is_some (m k)) → K k

-- P holds of every context that the analysis meets: before each statement, in bodies too, and at the end of each body.
module _ (t : List Text) (P : SemaContext → Type 0) where
  abbrev mutual
    pub MeetsStmt : Stmt → SemaContext → Type 0
    MeetsStmt (Stmt.Include at path sp) c = P c
    MeetsStmt (Stmt.QubitDecl at x size sp) c = P c
    MeetsStmt (Stmt.BitDecl at x size sp) c = P c
    MeetsStmt (Stmt.ClassicalDecl at q ty x init sp) c = P c
    MeetsStmt (Stmt.Assignment at x op value sp) c = P c
    MeetsStmt (Stmt.GateCall at x modifiers params args sp) c = P c
    MeetsStmt (Stmt.GateDef at x params qparams body sp) c = P c × Meets body (enter (gate_scope params qparams sp) (define_gate x params qparams sp c))
    MeetsStmt (Stmt.FunctionDef at x params return_type body sp) c = P c
    MeetsStmt (Stmt.Measure at qubit target sp) c = P c
    MeetsStmt (Stmt.Reset at target sp) c = P c
    MeetsStmt (Stmt.Barrier at targets sp) c = P c
    MeetsStmt (Stmt.Delay at duration targets sp) c = P c
    MeetsStmt (Stmt.If at condition then_body else_body sp) c =
        P c × Meets then_body (enter empty c) × MeetsElse else_body c (analyze_stmts t then_body (enter empty c)).0
    MeetsStmt (Stmt.For at x ty range body sp) c = P c × Meets body (enter (loop_scope x ty sp) c)
    MeetsStmt (Stmt.While at condition body sp) c = P c × Meets body (enter empty c)

    pub Meets : Stmts → SemaContext → Type 0
    Meets no_stmt c = P c
    Meets (more_stmt s r) c = MeetsStmt s c × Meets r (analyze_stmt t s c).0

    pub MeetsElse : Else → SemaContext → SemaContext → Type 0
    MeetsElse no_else c i = Unit {0}
    MeetsElse (some_else body) c i = Meets body (enter empty (leave c i c.measured))
