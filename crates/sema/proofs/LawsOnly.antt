-- Marks stand only at keys that measure statements set, in every context that the analysis meets. Assumes nothing.
use Rattle.std.specs.Prelude.{ℕ, ◌≤◌, ◌≡◌, List, T, length}
use Rattle.std.proofs.Math.Path.{refl}
use Rattle.std.proofs.Common.{sym, subst, ◌∙◌, inl, inr, ⊎_elim, arith}
use Rattle.std.proofs.Math.Option.{Option}
use Rattle.text.proofs.Tests.{or-either}
use Rattle.span.specs.declared.Span.{Span}
use Rattle.ast.specs.Tree.{Text, GateOperand, Stmt, Stmts, no_stmt, more_stmt, Else, no_else, some_else, Program}
use Rattle.sema.specs.Limits.{key_limit}
use Rattle.sema.specs.Symbols.{empty, Symbols, after, gate_scope, loop_scope}
use Rattle.sema.specs.Marks.{Key, Marks, no_marks, Effect, set, clear, keep, mark_measured, clear_measured, effect, mark, apply, unite, after_loop}
use Rattle.sema.specs.Operands.{is_some}
use Rattle.sema.specs.Stmts.{SemaContext, new, enter, leave, define_gate, analyze_stmt, analyze_stmts, analyze_else}
use Rattle.sema.specs.Keys.{keys}
use Rattle.sema.specs.LawsLists.{Has}
use Rattle.sema.proofs.LawsMarks.{reset-or-keep, unite-either}
use Rattle.sema.specs.KeyCount.{SetsStmt, Sets, SetsElse, SetsIn}
use Rattle.sema.proofs.KeyCount.{keys-all}
use Rattle.sema.specs.LawsOnly.{Only, MeetsStmt, Meets, MeetsElse}

pub only_none : (K : Key → Type 0) → Only K no_marks
only_none K k t = absurd t

only-mark : (K : Type 0) (sp : Span) (e : Effect) (o : Option Span) → (e ≡ set → K) → (T (is_some o) → K) → T (is_some (mark sp e o)) → K
unfolding mark
only-mark K sp set o f g t = f refl
only-mark K sp clear o f g t = absurd t
only-mark K sp keep o f g t = g t

pub only-apply : (K : Key → Type 0) (f : Key → Effect) (sp : Span) (m : Marks) → ((k : Key) → f k ≡ set → K k) → Only K m → Only K (apply f sp m)
unfolding apply
only-apply K f sp m s o k t = only-mark (K k) sp (f k) (m k) (s k) (o k) t

pub only-unite : (K : Key → Type 0) (a b : Marks) → Only K a → Only K b → Only K (unite a b)
only-unite K a b f g k t = ⊎_elim (f k) (g k) ((or-either (is_some (a k)) (is_some (b k))).0 (subst T (unite-either a b k) t))

keep-sets-none : keep ≡ set → ⊥
keep-sets-none e = let z : ◌≡◌ {A = ℕ} 0 1 = cc in omega arith

reset-sets-none : (op : GateOperand) (k : Key) → clear_measured op k ≡ set → ⊥
reset-sets-none op k e = ⊎_elim (λ c. let z : ◌≡◌ {A = ℕ} 0 1 = cc in omega arith) (λ c. keep-sets-none (sym c ∙ e)) (reset-or-keep op k)

module _ (t : List Text) where
  symbols_else : (e : Else) (c i : SemaContext) → (analyze_else t e c i).0.symbols ≡ c.symbols
  unfolding analyze_else
  symbols_else no_else c i = refl
  symbols_else (some_else body) c i = refl

  -- the symbols after a statement go by the statement alone
  pub symbols-after : (s : Stmt) (c : SemaContext) → (analyze_stmt t s c).0.symbols ≡ after c.symbols s
  unfolding analyze_stmt after
  symbols-after (Stmt.Include at path sp) c = refl
  symbols-after (Stmt.QubitDecl at x size sp) c = refl
  symbols-after (Stmt.BitDecl at x size sp) c = refl
  symbols-after (Stmt.ClassicalDecl at q ty x init sp) c = refl
  symbols-after (Stmt.Assignment at x op value sp) c = refl
  symbols-after (Stmt.GateCall at x modifiers params args sp) c = refl
  symbols-after (Stmt.GateDef at x params qparams body sp) c = refl
  symbols-after (Stmt.FunctionDef at x params return_type body sp) c = refl
  symbols-after (Stmt.Measure at qubit target sp) c = refl
  symbols-after (Stmt.Reset at target sp) c = refl
  symbols-after (Stmt.Barrier at targets sp) c = refl
  symbols-after (Stmt.Delay at duration targets sp) c = refl
  symbols-after (Stmt.If at condition then_body else_body sp) c = symbols_else else_body c (analyze_stmts t then_body (enter empty c)).0
  symbols-after (Stmt.For at x ty range body sp) c = refl
  symbols-after (Stmt.While at condition body sp) c = refl

  -- the statements after one set keys of K
  sets-after : (K : Key → Type 0) (s : Stmt) (r : Stmts) (c : SemaContext) → ((k : Key) → Sets (more_stmt s r) c.symbols k → K k) → (k : Key) → Sets r (analyze_stmt t s c).0.symbols k → K k
  sets-after K s r c h k m = h k (inr (subst (λ (ss : Symbols). Sets r ss k) (symbols-after s c) m))

module _ (t : List Text) (K : Key → Type 0) where
  -- if K holds the keys that the statements set, and marks stand only at keys of K before them, then also after them
  mutual
    unfolding analyze_stmt analyze_stmts analyze_else effect apply mark after_loop

    pub only-stmt : (s : Stmt) (c : SemaContext) → ((k : Key) → SetsStmt s c.symbols k → K k) → Only K c.measured → Only K (analyze_stmt t s c).0.measured
    only-stmt (Stmt.Include at path sp) c h o = o
    only-stmt (Stmt.QubitDecl at x size sp) c h o = o
    only-stmt (Stmt.BitDecl at x size sp) c h o = o
    only-stmt (Stmt.ClassicalDecl at q ty x init sp) c h o = o
    only-stmt (Stmt.Assignment at x op value sp) c h o = o
    only-stmt (Stmt.GateCall at x modifiers params args sp) c h o = o
    only-stmt (Stmt.GateDef at x params qparams body sp) c h o = only_stmts body (enter (gate_scope params qparams sp) (define_gate x params qparams sp c)) h o
    only-stmt (Stmt.FunctionDef at x params return_type body sp) c h o = o
    only-stmt (Stmt.Measure at qubit target sp) c h o = only-apply K (mark_measured c.symbols qubit) sp c.measured h o
    only-stmt (Stmt.Reset at target sp) c h o =
        only-apply K (clear_measured target) sp c.measured (λ k e. absurd (reset-sets-none target k e)) o
    only-stmt (Stmt.Barrier at targets sp) c h o = o
    only-stmt (Stmt.Delay at duration targets sp) c h o = o
    only-stmt (Stmt.If at condition then_body else_body sp) c h o =
        only_else else_body c (analyze_stmts t then_body (enter empty c)).0 (λ k m. h k (inr m)) o
        (only_stmts then_body (enter empty c) (λ k m. h k (inl m)) o)
    only-stmt (Stmt.For at x ty range body sp) c h o =
        let i = (analyze_stmts t body (enter (loop_scope x ty sp) c)).0 in
        only-unite K c.measured i.measured o (only_stmts body (enter (loop_scope x ty sp) c) h o)
    only-stmt (Stmt.While at condition body sp) c h o =
        let i = (analyze_stmts t body (enter empty c)).0 in
        only-unite K c.measured i.measured o (only_stmts body (enter empty c) h o)

    pub only_stmts : (b : Stmts) (c : SemaContext) → ((k : Key) → Sets b c.symbols k → K k) → Only K c.measured → Only K (analyze_stmts t b c).0.measured
    only_stmts no_stmt c h o = o
    only_stmts (more_stmt s r) c h o = only_stmts r (analyze_stmt t s c).0 (sets-after t K s r c h) (only-stmt s c (λ k m. h k (inl m)) o)

    pub only_else : (e : Else) (c i : SemaContext) → ((k : Key) → SetsElse e c.symbols k → K k) → Only K c.measured → Only K i.measured → Only K (analyze_else t e c i).0.measured
    only_else no_else c i h o a = only-unite K c.measured i.measured o a
    only_else (some_else body) c i h o a =
        let j = enter empty (leave c i c.measured) in
        only-unite K i.measured (analyze_stmts t body j).0.measured a (only_stmts body j h o)

module _ (t : List Text) (K : Key → Type 0) where
  abbrev MarksIn : SemaContext → Type 0
  MarksIn c = Only K c.measured

  mutual
    meets-stmt : (s : Stmt) (c : SemaContext) → ((k : Key) → SetsStmt s c.symbols k → K k) → Only K c.measured → MeetsStmt t MarksIn s c
    meets-stmt (Stmt.Include at path sp) c h o = o
    meets-stmt (Stmt.QubitDecl at x size sp) c h o = o
    meets-stmt (Stmt.BitDecl at x size sp) c h o = o
    meets-stmt (Stmt.ClassicalDecl at q ty x init sp) c h o = o
    meets-stmt (Stmt.Assignment at x op value sp) c h o = o
    meets-stmt (Stmt.GateCall at x modifiers params args sp) c h o = o
    meets-stmt (Stmt.GateDef at x params qparams body sp) c h o = (o, meets body (enter (gate_scope params qparams sp) (define_gate x params qparams sp c)) h o)
    meets-stmt (Stmt.FunctionDef at x params return_type body sp) c h o = o
    meets-stmt (Stmt.Measure at qubit target sp) c h o = o
    meets-stmt (Stmt.Reset at target sp) c h o = o
    meets-stmt (Stmt.Barrier at targets sp) c h o = o
    meets-stmt (Stmt.Delay at duration targets sp) c h o = o
    meets-stmt (Stmt.If at condition then_body else_body sp) c h o = (
      o,
      meets then_body (enter empty c) (λ k m. h k (inl m)) o,
      meets_else else_body c (analyze_stmts t then_body (enter empty c)).0 (λ k m. h k (inr m)) o,
    )
    meets-stmt (Stmt.For at x ty range body sp) c h o = (o, meets body (enter (loop_scope x ty sp) c) h o)
    meets-stmt (Stmt.While at condition body sp) c h o = (o, meets body (enter empty c) h o)

    -- marks stand only at keys of K in every context met
    pub meets : (b : Stmts) (c : SemaContext) → ((k : Key) → Sets b c.symbols k → K k) → Only K c.measured → Meets t MarksIn b c
    meets no_stmt c h o = o
    meets (more_stmt s r) c h o = (
      meets-stmt s c (λ k m. h k (inl m)) o,
      meets r (analyze_stmt t s c).0 (sets-after t K s r c h) (only-stmt t K s c (λ k m. h k (inl m)) o),
    )

    meets_else : (e : Else) (c i : SemaContext) → ((k : Key) → SetsElse e c.symbols k → K k) → Only K c.measured → MeetsElse t MarksIn e c i
    meets_else no_else c i h o = tt
    meets_else (some_else body) c i h o = meets body (enter empty (leave c i c.measured)) h o

-- In the analysis of a program marks stand only at keys that some measure statement of it sets,
pub marks-set : (p : Program) → Meets p.texts (λ c. Only (SetsIn p) c.measured) p.statements new
marks-set p = meets p.texts (SetsIn p) p.statements new (λ k s. s) (only_none (SetsIn p))

-- and if these are no more than the limit, only at keys of the list.
pub marks_in_keys : (p : Program) → length (keys p) ≤ key_limit → Meets p.texts (λ c. Only (Has (keys p)) c.measured) p.statements new
marks_in_keys p l = meets p.texts (Has (keys p)) p.statements new (keys-all p l) (only_none (Has (keys p)))
