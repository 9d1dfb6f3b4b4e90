-- What the walk asks, and what it promises of an index that grows: the keys of what was read are in it, numbered as they were met. Assumes nothing.
use Rattle.std.specs.Prelude.{ℕ, ◌-◌, ◌≤◌, ◌≡◌, List, length, drop, Option, Some, None, take}
use Rattle.ast.specs.Tree.{Stmt, Stmts, Else}
use Rattle.tree.specs.Ans.{Ans, given, IsOk}
use Rattle.tree.specs.Stmts.{body, stmt}
use Rattle.tree.specs.Decode.{texts_of}
use Rattle.sema.specs.Symbols.{Symbols}
use Rattle.sema.specs.Marks.{Key}
use Rattle.sema.specs.Keys.{keys_stmt, keys_stmts, keys_else}
use Rattle.context.specs.declared.State.{State}
use Rattle.context.specs.View.{scopes_of, keys_in}
use Rattle.tables.specs.Tables.{tables_end}
use Rattle.sheet.specs.Sheet.{Indexed, Grown}
use Rattle.context.specs.declared.Key.{Key as KeyValue}
use Rattle.sheet.specs.Behind.{Blank}
use Rattle.promises.specs.Walks.{Walkable, Ready, StmtWalked, BodyWalked}

-- the keys of what was read, added to others
abbrev pub stmt_keys : Ans Stmt → Symbols → List Key → List Key
stmt_keys x ss ks = given ks (λ st. keys_stmt st ss ks) x

abbrev pub body_keys : Ans Stmts → Symbols → List Key → List Key
body_keys x ss ks = given ks (λ b. keys_stmts b ss ks) x

abbrev pub else_keys : Ans Else → Symbols → List Key → List Key
else_keys x ss ks = given ks (λ e. keys_else e ss ks) x

-- what the walk asks of a statement, or of a body, that was read with so many levels left
pub record Asked {A : Type 0} (x : Ans A) (tree : List ℕ) (index : List KeyValue) (left : ℕ) (st : State) (s : List ℕ) : Type 0 where
  pub indexed : Indexed index st.keys
  pub walkable : Walkable tree (take st.keys index)
  pub ready : Ready tree s st
  pub accepted : IsOk x
  pub shallow : left ≤ 8
  pub blank : Blank st.keys st.marks

abbrev pub StmtAsked : List ℕ → List KeyValue → ℕ → State → List ℕ → Type 0
StmtAsked tree index left st s = Asked (stmt (texts_of tree) left tree st.at) tree index left st s

abbrev pub BodyAsked : List ℕ → List KeyValue → ℕ → State → List ℕ → Type 0
BodyAsked tree index left st s = Asked (body (stmt (texts_of tree) left) tree st.at) tree index left st s

-- how many keys there are, where the walk came to a state
abbrev pub count_of : Option State → Option ℕ
count_of (Some r) = Some r.keys
count_of None = None

-- of the state to which it came: what was walked over, and a sheet that is blank behind the keys
abbrev pub Reached : (State → Type 0) → Option State → Type 0
Reached W (Some r) = W r × Blank r.keys r.marks
Reached W None = Unit {0}

-- The index i has become i', with the keys ks, and the scratch s has become s'. Where the keys are not too many, all of it was walked over,
-- and the sheet is blank behind them. Where they are, the walk has stopped: then there is no state, and nothing is said of the listing and the
-- tables, since the answer is refusal 7 whatever they are.
pub record Went (i i' : List KeyValue) (ks : List Key) (s s' : List ℕ) (r : Option State) (W : State → Type 0) : Type 0 where
  pub grown : Grown i' (count_of r) ks
  pub index-length : length i' ≡ length i
  pub scratch-length : length s' ≡ length s
  pub scratch-rest : drop tables_end s' ≡ drop tables_end s
  pub reached : Reached W r

-- So of one statement, and of a body, whose statements have so many levels left.
abbrev pub StmtWent : List ℕ → ℕ → State → List KeyValue → List ℕ → List ℕ → Option State → List KeyValue → List ℕ → List ℕ → Type 0
StmtWent tree left st i s o r i' s' o' =
    Went i i' (stmt_keys (stmt (texts_of tree) left tree st.at) (scopes_of s (9 - left)) (keys_in i st.keys)) s s' r (λ x. StmtWalked tree (keys_in i' x.keys) left st s o x s' o')

abbrev pub BodyWent : List ℕ → ℕ → State → List KeyValue → List ℕ → List ℕ → Option State → List KeyValue → List ℕ → List ℕ → Type 0
BodyWent tree left st i s o r i' s' o' =
    Went i i' (body_keys (body (stmt (texts_of tree) left) tree st.at) (scopes_of s (9 - left)) (keys_in i st.keys)) s s' r (λ x. BodyWalked tree (keys_in i' x.keys) left st s o x s' o')
