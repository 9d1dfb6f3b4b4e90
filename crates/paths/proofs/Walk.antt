-- The analysis of every tree agrees with the paths of the tree: one induction over statements. Assumes nothing.
use Prim.Native.Nat.{ℕ, suc, ◌+◌}
use mathlib.Core.Path.{◌≡◌, refl, subst}
use mathlib.Core.List.{List, ◌∷◌, ◌++◌}
use Rattle.ast.specs.Tree.{Text, Stmt, Stmts, no_stmt, more_stmt, Else, no_else, some_else}
use Rattle.ast.specs.declared.ClassicalType.{ClassicalType}
use Rattle.sema.specs.Messages
use Rattle.sema.specs.Messages.{a_qubit, Diagnostic}
use Rattle.sema.specs.Symbols.{Symbols, empty as noSymbols, after, gate_scope, loop_scope}
use Rattle.sema.specs.Marks.{effect, mark, apply}
use Rattle.sema.specs.Stmts.{SemaContext, enter, leave, define_gate, register_widths, gate_call_says, analyze_stmt, analyze_stmts, analyze_else}
use Rattle.paths.specs.Flow.{Flows, no_flow, head, flow, flows, flow_else}
use Rattle.paths.specs.Steps.{step, size, sizes, State, next, steps₁, steps}
use Rattle.paths.specs.Places.{places₁, places}
use Rattle.paths.proofs.Standing.{united, united_turned}
use Rattle.paths.proofs.Part.{part, part_fork, part-turns, part₁}
use Rattle.paths.proofs.Silent.{silent, silent-operand, silent_require, silent-require_numeric, silent-modifiers}
use Rattle.paths.proofs.SilentStmts.{silent-declare, silent_classical, silent-assignment, silent-params, silent_widths, silent-signature, silent-gate, silent_function, silent-measure, silent_range}
use Rattle.paths.proofs.Agrees.{Agrees, agrees_nil, agrees_alone, agrees_uses, agrees_said, agrees_then, agrees_head, agrees_fork, agrees_seq, agrees_turns}

module _ (t : List Text) where
  -- the symbols after a statement go by where it stands
  symbols_else : (e : Else) (s : Stmt) (a : Flows) (c i : SemaContext) → after c.symbols s ≡ c.symbols
      → (analyze_else t e c i).0.symbols ≡ after c.symbols (head (flow_else e s a))
  unfolding analyze_else
  symbols_else no_else s a c i q = rw q
  symbols_else (some_else b) s a c i q = rw q

  symbols-after : (s : Stmt) (c : SemaContext) → (analyze_stmt t s c).0.symbols ≡ after c.symbols (head (flow s))
  unfolding analyze_stmt after
  symbols-after (Stmt.Include at path sp) c = refl
  symbols-after (Stmt.QubitDecl at x n sp) c = refl
  symbols-after (Stmt.BitDecl at x n sp) c = refl
  symbols-after (Stmt.ClassicalDecl at q ty x init sp) c = refl
  symbols-after (Stmt.Assignment at x op value sp) c = refl
  symbols-after (Stmt.GateCall at x ms params args sp) c = refl
  symbols-after (Stmt.GateDef at x params qparams body sp) c = refl
  symbols-after (Stmt.FunctionDef at x params ty body sp) c = refl
  symbols-after (Stmt.Measure at q target sp) c = refl
  symbols-after (Stmt.Reset at target sp) c = refl
  symbols-after (Stmt.Barrier at targets sp) c = refl
  symbols-after (Stmt.Delay at e targets sp) c = refl
  symbols-after (Stmt.If at e a b sp) c = symbols_else b (Stmt.If at e a b sp) (flows a) c (analyze_stmts t a (enter noSymbols c)).0 refl
  symbols-after (Stmt.For at x ty r body sp) c = refl
  symbols-after (Stmt.While at e body sp) c = refl

  mutual
    unfolding analyze_stmt effect mark apply gate_call_says

    walk₁ : (s : Stmt) (c : SemaContext) (n : ℕ)
        → Agrees (λ d. steps₁ (flow s) c.symbols n d) (places₁ (flow s) c.symbols n) c.measured (analyze_stmt t s c).0.measured (analyze_stmt t s c).1
    walk₁ (Stmt.Include at path sp) c n = agrees_alone (Stmt.Include at path sp) c.symbols n sp c.measured (silent refl)
    walk₁ (Stmt.QubitDecl at x z sp) c n = agrees_alone (Stmt.QubitDecl at x z sp) c.symbols n sp c.measured (silent-declare c.symbols x sp)
    walk₁ (Stmt.BitDecl at x z sp) c n = agrees_alone (Stmt.BitDecl at x z sp) c.symbols n sp c.measured (silent-declare c.symbols x sp)
    walk₁ (Stmt.ClassicalDecl at q ty x init sp) c n =
        let s = Stmt.ClassicalDecl at q ty x init sp in
        agrees_alone s c.symbols n sp c.measured (silent_classical c q ty x init sp (after c.symbols s))
    walk₁ (Stmt.Assignment at x op value sp) c n =
        agrees_alone (Stmt.Assignment at x op value sp) c.symbols n sp c.measured (silent-assignment c x op value sp)
    walk₁ (Stmt.GateCall at x ms params args sp) c n =
        agrees_said (silent-signature t c x params ms args sp)
        (agrees_said (silent-modifiers c.symbols c.functions ms)
        (agrees_said (silent-params c params)
        (agrees_then (silent_widths sp (register_widths c.symbols args))
        (agrees_uses (Stmt.GateCall at x ms params args sp) c.symbols n sp c.measured args))))
    walk₁ (Stmt.GateDef at x params qparams body sp) c n =
        let sc = gate_scope params qparams sp in
        agrees_said (silent-gate c x sp)
        (agrees_head (step c.symbols n (Stmt.GateDef at x params qparams body sp)) (λ m. refl) (part (flows body) (sc ∷ c.symbols) (suc n))
        (walk body (enter sc (define_gate x params qparams sp c)) (suc n)))
    walk₁ (Stmt.FunctionDef at x params ty body sp) c n =
        agrees_alone (Stmt.FunctionDef at x params ty body sp) c.symbols n sp c.measured (silent_function c x params ty body sp)
    walk₁ (Stmt.Measure at q target sp) c n = agrees_alone (Stmt.Measure at q target sp) c.symbols n sp c.measured (silent-measure c q target sp)
    walk₁ (Stmt.Reset at target sp) c n = agrees_alone (Stmt.Reset at target sp) c.symbols n sp c.measured (silent-operand c.symbols target a_qubit)
    walk₁ (Stmt.Barrier at targets sp) c n = agrees_uses (Stmt.Barrier at targets sp) c.symbols n sp c.measured targets
    walk₁ (Stmt.Delay at e targets sp) c n =
        agrees_said (silent-require_numeric c.symbols c.functions e Messages.delay_numeric (λ z. silent refl))
        (agrees_uses (Stmt.Delay at e targets sp) c.symbols n sp c.measured targets)
    walk₁ (Stmt.If at e a b sp) c n =
        agrees_said (silent_require c.symbols c.functions e ClassicalType.Bool Messages.if_condition)
        (walk_else b (Stmt.If at e a b sp) (flows a) c (analyze_stmts t a (enter noSymbols c)).0 n (λ m. refl) (walk a (enter noSymbols c) (suc n)))
    walk₁ (Stmt.For at x ty r body sp) c n =
        let sc = loop_scope x ty sp in
        let p = part (flows body) (sc ∷ c.symbols) (suc n) in
        agrees_said (silent_range c ty r sp)
        (agrees_head (step c.symbols n (Stmt.For at x ty r body sp)) (λ m. refl) (part-turns p) (agrees_turns p (walk body (enter sc c) (suc n))))
    walk₁ (Stmt.While at e body sp) c n =
        let p = part (flows body) (noSymbols ∷ c.symbols) (suc n) in
        agrees_said (silent_require c.symbols c.functions e ClassicalType.Bool Messages.while_condition)
        (agrees_head (step c.symbols n (Stmt.While at e body sp)) (λ m. refl) (part-turns p) (agrees_turns p (walk body (enter noSymbols c) (suc n))))

    pub walk : (b : Stmts) (c : SemaContext) (n : ℕ)
        → Agrees (λ d. steps (flows b) c.symbols n d) (places (flows b) c.symbols n) c.measured (analyze_stmts t b c).0.measured (analyze_stmts t b c).1
    walk no_stmt c n = agrees_nil
    walk (more_stmt s r) c n =
        let k = n + size (flow s) in
        let w = (analyze_stmt t s c).0 in
        agrees_seq (part₁ (flow s) c.symbols n) (part (flows r) (after c.symbols (head (flow s))) k) (walk₁ s c n)
        (subst (λ (ss : Symbols). Agrees (λ d. steps (flows r) ss k d) (places (flows r) ss k) w.measured (analyze_stmts t r w).0.measured (analyze_stmts t r w).1)
        (symbols-after s c) (walk r w k))

    -- an `if` whose first arm is a, which the context i ended in
    walk_else : (e : Else) (s : Stmt) (a : Flows) (c i : SemaContext) (n : ℕ) → ((m : State) → next m (step c.symbols n s) ≡ m) → {ds : List Diagnostic}
        → Agrees (λ d. steps a (noSymbols ∷ c.symbols) (suc n) d) (places a (noSymbols ∷ c.symbols) (suc n)) c.measured i.measured ds
        → Agrees (λ d. steps₁ (flow_else e s a) c.symbols n d) (places₁ (flow_else e s a) c.symbols n) c.measured (analyze_else t e c i).0.measured (ds ++ (analyze_else t e c i).1)
    walk_else no_else s a c i n q w =
        let p₁ = part a (noSymbols ∷ c.symbols) (suc n) in
        let p₂ = part no_flow (noSymbols ∷ c.symbols) (suc n + sizes a) in
        agrees_head (step c.symbols n s) q (part_fork p₁ p₂) (agrees_fork p₁ p₂ (united_turned c.measured i.measured) w agrees_nil)
    walk_else (some_else b) s a c i n q w =
        let p₁ = part a (noSymbols ∷ c.symbols) (suc n) in
        let p₂ = part (flows b) (noSymbols ∷ c.symbols) (suc n + sizes a) in
        let v = enter noSymbols (leave c i c.measured) in
        agrees_head (step c.symbols n s) q (part_fork p₁ p₂)
        (agrees_fork p₁ p₂ (united i.measured (analyze_stmts t b v).0.measured) w (walk b v (suc n + sizes a)))
