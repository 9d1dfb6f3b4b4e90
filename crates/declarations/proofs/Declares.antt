-- A statement that changes the scratch and leaves the marks; declarations of qubits and bits. Assumes nothing.
use Prim.Native.Nat.{ℕ, zero, suc, ◌-◌, ◌<◌}
use mathlib.Core.Path.{◌≡◌, refl, sym, ap, ◌∙◌}
use mathlib.Core.List.{List, [], ◌∷◌}
use mathlib.Core.Option.{Option, none, some}
use mathlib.Core.Bool.{Bool, true, false, cond}
use native.Mathlib.Omega.{arith}
use lib.ListN.{get_or}
use lib.Dec.{eqb}
use borrow.Author.Tests.{eqb-true, eq-eqb}
use Rattle.span.specs.declared.Span.{Span}
use Rattle.ast.specs.Tree.{Text, Stmt}
use Rattle.tree.specs.Ans.{Ans, ok, IsOk, next_of, given}
use Rattle.tree.specs.Stmts.{stmt}
use Rattle.tree.specs.Decode.{texts_of}
use Rattle.sema.specs.Messages
use Rattle.sema.specs.Symbols.{Symbol, Symbols, GateSig, FunctionSig, Table, insert, get_current, declare, declare_says, after}
use Rattle.sema.specs.Marks.{Key, effect}
use Rattle.sema.specs.Stmts.{analyze_stmt}
use Rattle.accepted.specs.Parts.{next_is, given_is}
use Rattle.accepted.specs.Stmts.{qubit_decl_is, bit_decl_is}
use Rattle.context.specs.declared.Sink.{Sink}
use Rattle.context.specs.declared.Symbol.{Symbol as SymbolValue}
use Rattle.std.specs.Prelude.{Option as Maybe}
use Rattle.context.specs.declared.State.{State}
use Rattle.context.specs.Values.{number_of, kind_of, found_of}
use Rattle.context.specs.View.{scopes_of, gates_of, functions_of, marks_of, context_of, stmt_span}
use Rattle.tables.specs.Tables.{Becomes, FewParams}
use Rattle.tables.specs.Laws.{few-after}
use Rattle.promises.specs.Emitted.{Emitted, emitted_as}
use Rattle.promises.specs.Walks.{state_of, Ready, StmtWalked}
use Rattle.promises.specs.WalkLaws.{marks-kept, context_is, stmt-walked}
use Rattle.declarations.specs.Says.{declared_says}
use Rattle.declarations.specs.Checked.{Declared}

-- the statement was read as S, which keeps the marks, and the scratch has become what the analysis says
module _ (tree : List ℕ) (ks : List Key) (left : ℕ) (st : State) {S : Stmt} {k : ℕ} (e : stmt (texts_of tree) left tree st.at ≡ ok S k) where
  pub changed_walked : {s o : List ℕ} {ss : Symbols} {gs : Table GateSig} {fs : Table FunctionSig} {r : Sink} {s' o' : List ℕ} (end : ℕ) → end ≡ k → Ready tree s st
      → (analyze_stmt (texts_of tree) S (context_of tree ks s (9 - left) st.marks)).0 ≡ record { symbols = ss; gates = gs; functions = fs; measured = marks_of tree ks st.marks }
      → Becomes s s' (9 - left) ss gs fs → ((d : ℕ) → d < 9 - left → scopes_of s' d ≡ scopes_of s d) → FewParams (functions_of s')
      → Emitted (texts_of tree) (analyze_stmt (texts_of tree) S (context_of tree ks s (9 - left) st.marks)).1 st.sink o r o'
      → StmtWalked tree ks left st s o (state_of end r st.marks) s' o'
  changed_walked end a h g b l f m =
      stmt-walked tree ks left st e (record {
        at = a;
        goes = context_is b.scopes_are b.gates_are b.functions_are refl ∙ sym g;
        emitted = m;
        below = l;
        same_length = b.same_length;
        same_rest = b.same_rest;
        few = f;
        placed = h.placed;
      })

-- what a declaration says goes by the symbol that the scope had
says_by : (f : Option Symbol) (ss : Symbols) (x : ℕ) (sp : Span) → f ≡ get_current ss x → declared_says f x sp ≡ declare_says ss x sp
unfolding declared_says declare_says
says_by f ss x sp e = ap (λ o. declared_says o x sp) e ∙ by (get_current ss x)
  where
    by : (o : Option Symbol) → declared_says o x sp ≡ elim o [ none ↦ [] | some prev ↦ Messages.error_with_note (Messages.already_declared x) sp (Messages.first_declared x) prev.decl_span ∷ [] ]
    by none = refl
    by (some prev) = refl

pub declared : {t : List Text} {depth x : ℕ} {symbol : SymbolValue} {s : Sink} {scratch o : List ℕ} {r : Sink} {scratch' o' : List ℕ} (f : Maybe SymbolValue) → found_of f ≡ get_current (scopes_of scratch depth) x
    → Becomes scratch scratch' depth (declare (scopes_of scratch depth) x (kind_of symbol.kind) (number_of symbol.size) symbol.decl_span) (gates_of scratch) (functions_of scratch)
    → ((d : ℕ) → d < depth → scopes_of scratch' d ≡ scopes_of scratch d)
    → Emitted t (declared_says (found_of f) x symbol.decl_span) s o r o'
    → Declared t depth x symbol s scratch o r scratch' o'
declared f e b l h = record { becomes = b; below = l; emitted = emitted_as h (says_by _ _ _ _ e) }

-- two declarations that do the same have one name
same_name : (x y : ℕ) (k l : Messages.SymbolKind) (m n : Option ℕ) (sp sq : Span) → declare [] x k m sp ≡ declare [] y l n sq → y ≡ x
unfolding declare get_current insert
same_name x y k l m n sp sq e = by (eqb y x) refl (rw (eq-eqb x x refl) at (ap (λ ss. get_current ss x) e))
  where
    by : (b : Bool) → eqb y x ≡ b → ◌≡◌ {A = Option Symbol} (some (record { kind = k; size = m; decl_span = sp })) (cond b (some (record { kind = l; size = n; decl_span = sq })) none) → y ≡ x
    by true f g = eqb-true y x f
    by false f g = let z : ◌≡◌ {A = ℕ} 0 1 = cc in absurd (omega arith)

-- the statement read declares x with this symbol, and the symbol's span is its own
abbrev pub Declares : Ans Stmt → ℕ → SymbolValue → Type 0
Declares X x symbol = (ss : Symbols) → given ss (λ st. after ss st) X ≡ declare ss x (kind_of symbol.kind) (number_of symbol.size) symbol.decl_span

abbrev pub Spans : Ans Stmt → SymbolValue → Type 0
Spans X symbol = given symbol.decl_span stmt_span X ≡ symbol.decl_span

-- the statement X was read as S and declares x with this symbol
module _ {X : Ans Stmt} (x : ℕ) (symbol : SymbolValue) (declares : Declares X x symbol) (spanned : Spans X symbol) {S : Stmt} {k : ℕ} (is : X ≡ ok S k) where
  pub after_is : (ss : Symbols) → declare ss x (kind_of symbol.kind) (number_of symbol.size) symbol.decl_span ≡ after ss S
  after_is ss = sym (declares ss) ∙ given_is is ss (λ st. after ss st)

  pub name_is : (y : ℕ) (l : Messages.SymbolKind) (n : Option ℕ) (sq : Span) → after [] S ≡ declare [] y l n sq → x ≡ y
  name_is y l n sq e = sym (same_name x y _ l _ n _ sq (after_is [] ∙ e))

  pub span_is : symbol.decl_span ≡ stmt_span S
  span_is = sym spanned ∙ given_is is _ stmt_span

  -- and says what the name says
  pub says_is : (ss : Symbols) (y : ℕ) (l : Messages.SymbolKind) (n : Option ℕ) (sq : Span) → after [] S ≡ declare [] y l n sq → declare_says ss x symbol.decl_span ≡ declare_says ss y (stmt_span S)
  says_is ss y l n sq e = rw (name_is y l n sq e, span_is)

pub functions_as : {s s' : List ℕ} {depth : ℕ} {ss : Symbols} {gs : Table GateSig} {fs fs' : Table FunctionSig} → fs ≡ fs' → Becomes s s' depth ss gs fs → Becomes s s' depth ss gs fs'
functions_as e b = rw (← e) b

pub becomes_as : {s s' : List ℕ} {depth : ℕ} {ss ss' : Symbols} {gs : Table GateSig} {fs : Table FunctionSig} → ss ≡ ss' → Becomes s s' depth ss gs fs → Becomes s s' depth ss' gs fs
becomes_as e b = rw (← e) b

module _ (tree : List ℕ) (ks : List Key) (left : ℕ) (st : State) (h : IsOk (stmt (texts_of tree) left tree st.at)) {s o : List ℕ} {r : Sink} {s' o' : List ℕ} (x : ℕ) (symbol : SymbolValue) (ready : Ready tree s st)
    (end : ℕ) (next : end ≡ next_of (stmt (texts_of tree) left tree st.at))
    (declares : Declares (stmt (texts_of tree) left tree st.at) x symbol)
    (spanned : Spans (stmt (texts_of tree) left tree st.at) symbol)
    (d : Declared (texts_of tree) (9 - left) x symbol st.sink s o r s' o') where
  registers : (b : ℕ) → get_or tree st.at 0 ≡ b → 0 < b → b < 3 → StmtWalked tree ks left st s o (state_of end r st.marks) s' o'
  unfolding analyze_stmt after effect
  registers zero e l u = absurd (omega arith)
  registers (suc zero) e l u =
      let is = qubit_decl_is (texts_of tree) left tree st.at h e _ refl in
      changed_walked tree ks left st is end (next ∙ next_is is) ready (context_is refl refl refl (marks-kept _ _)) (becomes_as (after_is x symbol declares spanned is _) d.becomes) d.below (few-after d.becomes ready.few)
      (emitted_as d.emitted (says_is x symbol declares spanned is _ _ _ _ _ refl))
  registers (suc (suc zero)) e l u =
      let is = bit_decl_is (texts_of tree) left tree st.at h e _ refl in
      changed_walked tree ks left st is end (next ∙ next_is is) ready (context_is refl refl refl (marks-kept _ _)) (becomes_as (after_is x symbol declares spanned is _) d.becomes) d.below (few-after d.becomes ready.few)
      (emitted_as d.emitted (says_is x symbol declares spanned is _ _ _ _ _ refl))
  registers (suc (suc (suc b))) e l u = absurd (omega arith)

  pub register-walked : 0 < get_or tree st.at 0 → get_or tree st.at 0 < 3 → StmtWalked tree ks left st s o (state_of end r st.marks) s' o'
  register-walked l u = registers (get_or tree st.at 0) refl l u
