-- Which statements may come after a statement: how the paths of a tree go through it.
use Rattle.ast.specs.Tree.{Stmt, Stmts, no_stmt, more_stmt, Else, no_else, some_else}
use Rattle.sema.specs.Symbols.{Scope, empty as noSymbols, gate_scope, loop_scope}

-- A statement, and what comes after it of its own: the bodies that it has, each with the scope that the body begins with.
mutual
  pub data Flow : Type 0 where
    -- nothing
    alone : Stmt → Flow
    -- its body, once
    once : Stmt → Scope → Flows → Flow
    -- one of its two arms
    arms : Stmt → Flows → Flows → Flow
    -- its body, as a loop's comes
    loop : Stmt → Scope → Flows → Flow

  pub data Flows : Type 0 where
    no_flow : Flows
    more_flow : Flow → Flows → Flows

-- the statement itself
abbrev pub head : Flow → Stmt
head (alone s) = s
head (once s sc b) = s
head (arms s a b) = s
head (loop s sc b) = s

abbrev mutual
  pub flow : Stmt → Flow
  flow (Stmt.Include at path sp) = alone (Stmt.Include at path sp)
  flow (Stmt.QubitDecl at x size sp) = alone (Stmt.QubitDecl at x size sp)
  flow (Stmt.BitDecl at x size sp) = alone (Stmt.BitDecl at x size sp)
  flow (Stmt.ClassicalDecl at q ty x init sp) = alone (Stmt.ClassicalDecl at q ty x init sp)
  flow (Stmt.Assignment at x op value sp) = alone (Stmt.Assignment at x op value sp)
  flow (Stmt.GateCall at x modifiers params args sp) = alone (Stmt.GateCall at x modifiers params args sp)
  -- "a gate definition, or a function whose body is statements, then its body once"
  flow (Stmt.GateDef at x params qparams body sp) = once (Stmt.GateDef at x params qparams body sp) (gate_scope params qparams sp) (flows body)
  -- the body of a function is an expression
  flow (Stmt.FunctionDef at x params return_type body sp) = alone (Stmt.FunctionDef at x params return_type body sp)
  flow (Stmt.Measure at qubit target sp) = alone (Stmt.Measure at qubit target sp)
  flow (Stmt.Reset at target sp) = alone (Stmt.Reset at target sp)
  flow (Stmt.Barrier at targets sp) = alone (Stmt.Barrier at targets sp)
  flow (Stmt.Delay at duration targets sp) = alone (Stmt.Delay at duration targets sp)
  flow (Stmt.If at condition then_body else_body sp) = flow_else else_body (Stmt.If at condition then_body else_body sp) (flows then_body)
  -- "A loop comes itself, then its body"
  flow (Stmt.For at x ty range body sp) = loop (Stmt.For at x ty range body sp) (loop_scope x ty sp) (flows body)
  flow (Stmt.While at condition body sp) = loop (Stmt.While at condition body sp) noSymbols (flows body)

  -- "Statements of one list all come, in their order"
  pub flows : Stmts → Flows
  flows no_stmt = no_flow
  flows (more_stmt s r) = more_flow (flow s) (flows r)

  -- "An `if` comes itself, then one of its two arms; where it has no `else`, its one arm or nothing."
  pub flow_else : Else → Stmt → Flows → Flow
  flow_else no_else s a = arms s a no_flow
  flow_else (some_else body) s a = arms s a (flows body)
