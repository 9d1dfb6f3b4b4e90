-- How a function shows that it walked a statement. Assumes nothing.
use Rattle.std.specs.Prelude.{ℕ, ◌-◌, ◌≡◌, refl, List}
use Rattle.std.proofs.Common.{sym}
use Rattle.span.specs.declared.Span.{Span}
use Rattle.ast.specs.Tree.{Text, Stmt}
use Rattle.tree.specs.Ans.{ok}
use Rattle.tree.specs.Stmts.{stmt}
use Rattle.tree.specs.Decode.{texts_of}
use Rattle.sema.specs.Symbols.{Symbols, GateSig, FunctionSig, Table}
use Rattle.sema.specs.Marks.{Marks, Key, keep, mark, apply}
use Rattle.sema.specs.Stmts.{SemaContext, analyze_stmt}
use Rattle.context.specs.declared.Sink.{Sink}
use Rattle.context.specs.declared.State.{State}
use Rattle.context.specs.View.{Placed, context_of}
use Rattle.accepted.specs.Parts.{next_is, given_is}
use Rattle.promises.specs.Emitted.{Emitted}
use Rattle.promises.specs.Walks.{state_of, Ready, Passable, Walk, Walked, walk_stmt, StmtWalked}

-- a statement that does nothing to any mark leaves the marks
pub marks-kept : (sp : Span) (m : Marks) → apply (λ (k : Key). keep) sp m ≡ m
unfolding apply mark
marks-kept sp m = refl

-- contexts whose parts are the same
pub context_is : {ss ss' : Symbols} {gs gs' : Table GateSig} {fs fs' : Table FunctionSig} {m m' : Marks} → ss ≡ ss' → gs ≡ gs' → fs ≡ fs' → m ≡ m'
    → ◌≡◌ {A = SemaContext} (record { symbols = ss; gates = gs; functions = fs; measured = m }) (record { symbols = ss'; gates = gs'; functions = fs'; measured = m' })
context_is a b c d = λ i. record { symbols = a i; gates = b i; functions = c i; measured = d i }

-- the walk by another name
module _ {tree : List ℕ} {t : List Text} {ks : List Key} {depth : ℕ} {w v : Walk} {end k : ℕ} {st : State} {s o : List ℕ} {r : State} {s' o' : List ℕ} where
  pub walked_as : w ≡ v → end ≡ k → Walked tree t ks depth w end st s o r s' o' → Walked tree t ks depth v k st s o r s' o'
  walked_as e f h = rw (← e, ← f) h

-- a statement that was read as S and ends at `end`
module _ (tree : List ℕ) (ks : List Key) (left : ℕ) (st : State) {S : Stmt} {end : ℕ} (e : stmt (texts_of tree) left tree st.at ≡ ok S end) where
  walk_is : walk_stmt (texts_of tree) (stmt (texts_of tree) left tree st.at) ≡ analyze_stmt (texts_of tree) S
  walk_is = given_is e _ _

  pub stmt-walked : {s o : List ℕ} {r : State} {s' o' : List ℕ} → Walked tree (texts_of tree) ks (9 - left) (analyze_stmt (texts_of tree) S) end st s o r s' o' → StmtWalked tree ks left st s o r s' o'
  stmt-walked h = walked_as (sym walk_is) (sym (next_is e)) h

  -- where the scratch stays as it is
  pub same-walked : {s o : List ℕ} {r : State} {o' : List ℕ} → Ready tree s st → r.at ≡ end
      → context_of tree ks s (9 - left) r.marks ≡ (analyze_stmt (texts_of tree) S (context_of tree ks s (9 - left) st.marks)).0
      → Emitted (texts_of tree) (analyze_stmt (texts_of tree) S (context_of tree ks s (9 - left) st.marks)).1 st.sink o r.sink o'
      → Placed tree r.marks → StmtWalked tree ks left st s o r s o'
  same-walked h a g m p =
      walked_as (sym walk_is) (sym (next_is e))
      (record { at = a; goes = g; emitted = m; below = λ d l. refl; same_length = refl; same_rest = refl; few = h.few; placed = p })

-- marks that are placed make the state of a statement that leaves them ready
pub passed-ready : {tree s : List ℕ} {at : ℕ} {sink : Sink} {marks : List ℕ} → Passable tree s → Placed tree marks → Ready tree s (state_of at sink marks)
passed-ready p placed = record { room = p.room; few = p.few; placed = placed }
