-- Bodies: what the walk over one asks, and what a loop makes of it. Assumes nothing.
use Prim.Native.Nat.{ℕ, ◌+◌, ◌-◌, ◌*◌, ◌≤◌, ◌<◌}
use mathlib.Core.Path.{◌≡◌, refl, sym, ap, subst, ◌∙◌}
use mathlib.Core.List.{List, ◌∷◌, ◌++◌}
use native.Mathlib.Omega.{arith}
use lib.ListN.{length}
use Rattle.ast.specs.Tree.{Stmt, no_stmt}
use Rattle.tree.specs.Ans.{Ans, ok, next_of, IsOk}
use Rattle.tree.specs.Stmts.{body, stmt}
use Rattle.tree.specs.Decode.{texts_of}
use Rattle.sema.specs.Messages.{Diagnostic}
use Rattle.sema.specs.Symbols.{Symbols, Scope, Table, GateSig}
use Rattle.sema.specs.Marks.{Key, unite, after_loop}
use Rattle.sema.specs.Keys.{keys_stmts}
use Rattle.sema.specs.Stmts.{SemaContext, leave, analyze_stmt, analyze_stmts}
use Rattle.context.specs.declared.State.{State}
use Rattle.context.specs.declared.Key.{Key as KeyValue}
use Rattle.std.specs.Prelude.{Option, Some, None}
use Rattle.context.specs.View.{Placed, keys_in, scopes_of, marks_of, context_of}
use Rattle.accepted.specs.Parts.{value_or, given_ok, end_in}
use Rattle.sheet.specs.Behind.{Blank}
use Rattle.accepted.specs.Bodies.{body_in, stmt-end}
use Rattle.promises.specs.Went.{body_keys, stmt_keys, Asked, StmtAsked, BodyAsked, Went, StmtWent, BodyWent}
use Rattle.promises.specs.WentLaws.{went_as, went_over, body_longer, blank_longer}
use Rattle.promises.specs.WalkLaws.{context_is, stmt-walked}
use Rattle.bodies.specs.Opened.{Opened}
use Rattle.walk.specs.Bodies.{looped, LoopAsked, LoopWalked, LoopWent}
use Rattle.walk.proofs.Enclosed.{level, inner, opened-ready, enclosed, ended-marks, body-walked}

-- what was read, whose keys are these, holds a body at a place further on, which begins with this scope
pub record Holds (tree : List ℕ) (left at : ℕ) (keys_of : Symbols → List Key → List Key) (scope : Scope) (place : ℕ) : Type 0 where
  pub some : 0 < left
  pub further : at < place
  pub held : IsOk (body (stmt (texts_of tree) (left - 1)) tree place)
  pub keys : (ss : Symbols) (ks : List Key) → keys_of ss ks ≡ keys_stmts (value_or no_stmt (body (stmt (texts_of tree) (left - 1)) tree place)) (scope ∷ ss) ks

-- the body opened
module _ {tree : List ℕ} {left : ℕ} {keys_of : Symbols → List Key → List Key} {scope : Scope} {place : ℕ} {st : State} (H : Holds tree left st.at keys_of scope place)
    {gates : Table GateSig} {ds : List Diagnostic} {s o : List ℕ} {i : State} {s' o' : List ℕ} (p : Opened (texts_of tree) (9 - left) scope gates ds place st s o i s' o') where
  -- fewer bytes remain
  held-falls : i.at < length tree × (st.at < i.at)
  held-falls = (rw p.at (let n = body_in _ _ _ H.held in omega arith), rw p.at H.further)

  module _ {index : List KeyValue} {A : Type 0} {x : Ans A} (a : Asked x tree index left st s) where
    -- what the walk over it asks
    pub held-asked : BodyAsked tree index (left - 1) i s'
    held-asked = record { indexed = rw p.keys a.indexed; walkable = rw p.keys a.walkable; ready = opened-ready p a.ready; accepted = rw p.at H.held; shallow = omega (arith, a.shallow); blank = rw (p.keys, p.marks) a.blank }

    -- and it falls below the measure of what holds it
    pub held_below : {t : ℕ} → 2 * (length tree - st.at) ≡ t → (2 * (length tree - i.at) < t) × BodyAsked tree index (left - 1) i s'
    held_below e = (omega (arith, held-falls.0, held-falls.1), held-asked)

    -- its keys are those of what holds it
    held-keys : body_keys (body (stmt (texts_of tree) (left - 1)) tree i.at) (scopes_of s' (9 - (left - 1))) (keys_in index i.keys) ≡ keys_of (scopes_of s (9 - left)) (keys_in index st.keys)
    held-keys =
        rw (p.at, p.keys, level left H.some a.shallow, p.becomes.scopes_are)
        (given_ok no_stmt _ (λ b. keys_stmts b (scope ∷ scopes_of s (9 - left)) (keys_in index st.keys)) (body (stmt (texts_of tree) (left - 1)) tree place) H.held ∙ sym (H.keys (scopes_of s (9 - left)) (keys_in index st.keys)))

    -- what holds it was walked over, or the walk has stopped
    pub held_went : {index' : List KeyValue} {s'' : List ℕ} {r : Option State} {X : State → Type 0} → Went index index' (body_keys (body (stmt (texts_of tree) (left - 1)) tree i.at) (scopes_of s' (9 - (left - 1))) (keys_in index i.keys)) s' s'' r X
        → Went index index' (keys_of (scopes_of s (9 - left)) (keys_in index st.keys)) s s'' r X
    held_went g =
        record {
          grown = rw held-keys at g.grown;
          index-length = g.index-length;
          scratch-length = g.scratch-length ∙ p.becomes.same_length;
          scratch-rest = g.scratch-rest ∙ p.becomes.same_rest;
          reached = g.reached;
        }

    pub held_over : {index' : List KeyValue} {s'' : List ℕ} {W : State → Type 0} → Went index index' (body_keys (body (stmt (texts_of tree) (left - 1)) tree i.at) (scopes_of s' (9 - (left - 1))) (keys_in index i.keys)) s' s'' None W
        → (X : State → Type 0) → Went index index' (keys_of (scopes_of s (9 - left)) (keys_in index st.keys)) s s'' None X
    held_over g X = held_went (went_over g _ (omega arith) X)

-- a statement that ends in a body and a span
module _ {tree : List ℕ} {index : List KeyValue} {left : ℕ} {st : State} {S : Stmt} {scope : Scope} {place : ℕ} (is : stmt (texts_of tree) left tree st.at ≡ ok S (next_of (body (stmt (texts_of tree) (left - 1)) tree place) + 8))
    (H : Holds tree left st.at (stmt_keys (stmt (texts_of tree) left tree st.at)) scope place)
    {gates : Table GateSig} {ds : List Diagnostic} {s o : List ℕ} {i : State} {s' o' : List ℕ} (p : Opened (texts_of tree) (9 - left) scope gates ds place st s o i s' o') (a : StmtAsked tree index left st s) where
  -- there is room for the span
  pub span-room : next_of (body (stmt (texts_of tree) (left - 1)) tree i.at) + 8 ≤ length tree
  span-room = rw p.at (end_in is (stmt-end (texts_of tree) left tree st.at a.accepted))

  pub loop-below : {t : ℕ} → 2 * (length tree - st.at) ≡ t → (2 * (length tree - i.at) + 1 < t) × LoopAsked tree index (left - 1) i s'
  loop-below e = (omega (arith, (held-falls H p).0, (held-falls H p).1), (held-asked H p a, span-room))

  -- what the analysis makes of the body
  abbrev body_walk : List Key → SemaContext × List Diagnostic
  body_walk ks = analyze_stmts (texts_of tree) (value_or no_stmt (body (stmt (texts_of tree) (left - 1)) tree place)) (inner tree ks p)

  -- a loop was walked over with its body, or the walk has stopped
  pub loop_went : {index' : List KeyValue} (w : Option State) {s'' o'' : List ℕ} → LoopWent tree (left - 1) i index s' o' w index' s'' o''
      → ((ks : List Key) → analyze_stmt (texts_of tree) S (context_of tree ks s (9 - left) st.marks)
      ≡ (leave (context_of tree ks s (9 - left) st.marks) (body_walk ks).0 (after_loop (marks_of tree ks st.marks) (body_walk ks).0.measured), ds ++ (body_walk ks).1))
      → StmtWent tree left st index s o w index' s'' o''
  loop_went None g e = held_over H p a g _
  loop_went {index' = index'} (Some w) g e =
      let ks = keys_in index' w.keys in
      held_went H p a
      (went_as g w refl
      (λ v.
      let u = body-walked tree (keys_in index' w.keys) left H.some a.shallow place i p.at H.held looped (λ n. n + 8) v in
      stmt-walked tree (keys_in index' w.keys) left st is (enclosed tree ks p _ u _ _ _ w (e ks) (ended-marks tree ks p _ u) v.placed u.at refl))
      (λ b. b))

-- the marks of two ways united
abbrev pub United : List ℕ → List ℕ → List ℕ → Type 0
United a b b' =
    ((tree : List ℕ) → Placed tree a → Placed tree b → Placed tree b')
    × (((tree : List ℕ) (ks : List Key) → marks_of tree ks b' ≡ unite (marks_of tree ks a) (marks_of tree ks b))
    × ((n : ℕ) → Blank n a → Blank n b → Blank n b'))

-- the body of a loop was walked over
module _ {tree : List ℕ} {index : List KeyValue} {left : ℕ} {st : State} {s : List ℕ} (a : LoopAsked tree index left st s) {o : List ℕ} {w : State} {index' : List KeyValue} {s' o' : List ℕ} (g : BodyWent tree left st index s o (Some w) index' s' o') where
  -- entry and exit are united
  pub looped_went : (r : State) → r.at ≡ w.at + 8 → r.sink ≡ w.sink → r.keys ≡ w.keys → United st.marks w.marks r.marks → LoopWent tree left st index s o (Some r) index' s' o'
  unfolding after_loop
  looped_went r x y k u =
      let ks = keys_in index' w.keys in
      went_as g r k
      (λ b.
      subst (λ (n : ℕ). LoopWalked tree (keys_in index' n) left st s o r s' o') (sym k)
      (record {
        at = x ∙ ap (λ (n : ℕ). n + 8) b.at;
        goes = context_is (ap (λ (c : SemaContext). c.symbols) b.goes) (ap (λ (c : SemaContext). c.gates) b.goes) (ap (λ (c : SemaContext). c.functions) b.goes) (u.1.0 tree ks ∙ ap (λ (c : SemaContext). unite (marks_of tree ks st.marks) c.measured) b.goes);
        emitted = rw y b.emitted;
        below = b.below;
        same_length = b.same_length;
        same_rest = b.same_rest;
        few = b.few;
        placed = u.0 tree a.0.ready.placed b.placed;
      }))
      (λ b. u.1.1 w.keys (blank_longer _ _ a.0.indexed (body_longer _ _ _) g.grown.0 a.0.blank) b)
