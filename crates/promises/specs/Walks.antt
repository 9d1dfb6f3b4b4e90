-- What the walk over statements asks and promises. Assumes nothing.
use Rattle.std.specs.Prelude.{ℕ, ◌-◌, ◌≤◌, ◌<◌, ◌≡◌, true, List, [], length, drop}
use Rattle.ast.specs.Tree.{Text, Stmt, Stmts}
use Rattle.tree.specs.Limits.{file_limit}
use Rattle.tree.specs.Ans.{Ans, ok, next_of, given}
use Rattle.tree.specs.Stmts.{body, stmt}
use Rattle.tree.specs.Decode.{texts_of}
use Rattle.sema.specs.Messages.{Diagnostic}
use Rattle.sema.specs.Symbols.{Symbols}
use Rattle.sema.specs.Marks.{Key}
use Rattle.sema.specs.Keys.{has_key}
use Rattle.sema.specs.KeyCount.{SetsStmt}
use Rattle.sema.specs.Stmts.{SemaContext, analyze_stmt, analyze_stmts}
use Rattle.context.specs.declared.After.{After}
use Rattle.context.specs.declared.Key.{Key as KeyValue}
use Rattle.sema.specs.Limits.{key_limit}
use Rattle.context.specs.declared.Sink.{Sink}
use Rattle.context.specs.declared.State.{State}
use Rattle.context.specs.View.{Placed, keys_of, scopes_of, functions_of, context_of}
use Rattle.tables.specs.Tables.{tables_end, FewParams}
use Rattle.sheet.specs.Sheet.{Distinct}
use Rattle.promises.specs.Emitted.{Emitted}

-- a state from its parts, where it plays no part how many keys there are
abbrev pub state_of : ℕ → Sink → List ℕ → State
state_of at sink marks = record { at = at; sink = sink; keys = 0; marks = marks }

-- what holds before every statement of a walk, whatever the scratch, the listing and the marks
pub record Walkable (tree : List ℕ) (keys : List KeyValue) : Type 0 where
  pub small : length tree ≤ file_limit
  pub few : length keys ≤ key_limit
  pub distinct : Distinct (keys_of keys)

-- what holds of the scratch and of the state
pub record Ready (tree scratch : List ℕ) (st : State) : Type 0 where
  pub room : 65536 ≤ length scratch
  pub few : FewParams (functions_of scratch)
  pub placed : Placed tree st.marks

-- what a statement asks that leaves the marks, whatever they are
pub record Passable (tree scratch : List ℕ) : Type 0 where
  pub small : length tree ≤ file_limit
  pub room : 65536 ≤ length scratch
  pub few : FewParams (functions_of scratch)

-- every key that the statement that was read sets is there
pub record StmtKeyed (ks : List Key) (ss : Symbols) (x : Ans Stmt) : Type 0 where
  pub each : (st : Stmt) (n : ℕ) → x ≡ ok st n → (k : Key) → SetsStmt st ss k → has_key ks k ≡ true

-- what the analysis makes of the statement, or of the statements of a body, that was read
abbrev pub Walk : Type 0
Walk = SemaContext → SemaContext × List Diagnostic

abbrev pub stay : Walk
stay c = (c, [])

abbrev pub walk_stmt : List Text → Ans Stmt → Walk
walk_stmt t x = given stay (analyze_stmt t) x

abbrev pub walk_body : List Text → Ans Stmts → Walk
walk_body t x = given stay (analyze_stmts t) x

-- From the state st, over so many scopes of the scratch s and the buffer o, the walk has come to r, s' and o'.
pub record Walked (tree : List ℕ) (t : List Text) (ks : List Key) (depth : ℕ) (walk : Walk) (end : ℕ) (st : State) (s o : List ℕ) (r : State) (s' o' : List ℕ) : Type 0 where
  pub at : r.at ≡ end
  pub goes : context_of tree ks s' depth r.marks ≡ (walk (context_of tree ks s depth st.marks)).0
  pub emitted : Emitted t (walk (context_of tree ks s depth st.marks)).1 st.sink o r.sink o'
  pub below : (d : ℕ) → d < depth → scopes_of s' d ≡ scopes_of s d
  pub same_length : length s' ≡ length s
  pub same_rest : drop tables_end s' ≡ drop tables_end s
  pub few : FewParams (functions_of s')
  pub placed : Placed tree r.marks

-- So of one statement, and of a body, whose statements have so many levels left.
abbrev pub StmtWalked : List ℕ → List Key → ℕ → State → List ℕ → List ℕ → State → List ℕ → List ℕ → Type 0
StmtWalked tree ks left st s o r s' o' =
    Walked tree (texts_of tree) ks (9 - left) (walk_stmt (texts_of tree) (stmt (texts_of tree) left tree st.at))
    (next_of (stmt (texts_of tree) left tree st.at)) st s o r s' o'

abbrev pub BodyWalked : List ℕ → List Key → ℕ → State → List ℕ → List ℕ → State → List ℕ → List ℕ → Type 0
BodyWalked tree ks left st s o r s' o' =
    Walked tree (texts_of tree) ks (9 - left) (walk_body (texts_of tree) (body (stmt (texts_of tree) left) tree st.at))
    (next_of (body (stmt (texts_of tree) left) tree st.at)) st s o r s' o'

-- So of one statement that leaves the marks, whatever they and the keys are.
abbrev pub StmtPassed : List ℕ → ℕ → ℕ → Sink → List ℕ → List ℕ → After → List ℕ → List ℕ → Type 0
StmtPassed tree left at sink s o r s' o' =
    (ks : List Key) (marks : List ℕ) → Placed tree marks → StmtWalked tree ks left (state_of at sink marks) s o (state_of r.next r.sink marks) s' o'
