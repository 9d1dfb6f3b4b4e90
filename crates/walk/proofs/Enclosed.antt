-- A statement with a body: what is before the body, and the body, make the walk over the statement. Assumes nothing.
use Prim.Native.Nat.{ℕ, suc, ◌-◌, ◌≤◌, ◌<◌}
use mathlib.Core.Path.{◌≡◌, refl, sym, ap, subst, ◌∙◌}
use mathlib.Core.List.{List, ◌∷◌, ◌++◌}
use native.Mathlib.Omega.{arith}
use Rattle.ast.specs.Tree.{Text, no_stmt, Else, no_else, some_else}
use Rattle.tree.specs.Ans.{next_of, IsOk}
use Rattle.tree.specs.Stmts.{body, stmt}
use Rattle.tree.specs.Decode.{texts_of}
use Rattle.sema.specs.Messages.{Diagnostic}
use Rattle.sema.specs.Symbols.{Scope, Table, GateSig}
use Rattle.sema.specs.Marks.{Key, Marks}
use Rattle.sema.specs.Stmts.{SemaContext, leave, analyze_stmts, analyze_else}
use Rattle.context.specs.declared.After.{After}
use Rattle.context.specs.declared.State.{State}
use Rattle.context.specs.View.{Placed, scopes_of, functions_of, marks_of, context_of}
use Rattle.tables.specs.Laws.{few-after}
use Rattle.accepted.specs.Parts.{value_or, given_ok}
use Rattle.scopes.specs.Laws.{entered_below}
use Rattle.promises.specs.Emitted.{emitted_then, emitted_as}
use Rattle.promises.specs.Walks.{state_of, Ready, Walk, Walked, walk_body}
use Rattle.promises.specs.WalkLaws.{context_is, walked_as}
use Rattle.bodies.specs.Opened.{Opened}
use Rattle.walk.specs.Bodies.{moved_to}

pub level : (left : ℕ) → 0 < left → left ≤ 8 → 9 - (left - 1) ≡ suc (9 - left)
level left a b = omega arith

-- the body opened, whatever the marks, and the state moved there
pub opened_moved : {t : List Text} {depth : ℕ} {scope : Scope} {gates : Table GateSig} {ds : List Diagnostic} {place : ℕ} (st : State) (a : After) {s o s' o' : List ℕ}
    → ((marks : List ℕ) → Opened t depth scope gates ds place (state_of st.at st.sink marks) s o (state_of a.next a.sink marks) s' o')
    → (r : State) → r ≡ moved_to st a → Opened t depth scope gates ds place st s o r s' o'
opened_moved st a o r e = let p = o st.marks in rw e (record { at = p.at; keys = refl; marks = refl; emitted = p.emitted; becomes = p.becomes })

-- the body opened
module _ {t : List Text} {depth : ℕ} {scope : Scope} {gates : Table GateSig} {ds : List Diagnostic} {place : ℕ} {st : State} {s o : List ℕ} {i : State} {s' o' : List ℕ} (p : Opened t depth scope gates ds place st s o i s' o') where
  pub opened-below : (d : ℕ) → d ≤ depth → scopes_of s' d ≡ scopes_of s d
  opened-below = entered_below p.becomes

  pub opened-ready : {tree : List ℕ} → Ready tree s st → Ready tree s' i
  opened-ready r = record { room = omega (arith, p.becomes.same_length, r.room); few = few-after p.becomes r.few; placed = rw p.marks r.placed }

module _ (tree : List ℕ) {t : List Text} (ks : List Key) {depth : ℕ} {scope : Scope} {gates : Table GateSig} {ds : List Diagnostic} {place : ℕ} {st : State} {s o : List ℕ} {i : State} {s' o' : List ℕ} (p : Opened t depth scope gates ds place st s o i s' o') where
  abbrev pub inner : SemaContext
  inner = record { symbols = scope ∷ scopes_of s depth; gates = gates; functions = functions_of s; measured = marks_of tree ks st.marks }

  pub opened_context : context_of tree ks s' (suc depth) i.marks ≡ inner
  opened_context = context_is p.becomes.scopes_are p.becomes.gates_are p.becomes.functions_are (ap (marks_of tree ks) p.marks)

  -- and walked: the walk over the whole, whose marks in the end are those of r
  module _ (within : Walk) {end'' : ℕ} {w : State} {s'' o'' : List ℕ} (b : Walked tree t ks (suc depth) within end'' i s' o' w s'' o'') where
    pub ended_context : context_of tree ks s'' (suc depth) w.marks ≡ (within inner).0
    ended_context = b.goes ∙ ap (λ x. (within x).0) opened_context

    -- the marks of the body's end
    pub ended-marks : marks_of tree ks w.marks ≡ (within inner).0.measured
    ended-marks = ap (λ (x : SemaContext). x.measured) ended_context

    pub enclosed : (walk : Walk) (M : Marks) (end : ℕ) (r : State)
        → walk (context_of tree ks s depth st.marks) ≡ (leave (context_of tree ks s depth st.marks) (within inner).0 M, ds ++ (within inner).1)
        → marks_of tree ks r.marks ≡ M → Placed tree r.marks → r.at ≡ end → r.sink ≡ w.sink
        → Walked tree t ks depth walk end st s o r s'' o''
    enclosed walk M end r e m q a k =
        let d = emitted_as b.emitted (ap (λ x. (within x).1) opened_context) in
        record {
          at = a;
          goes =
              context_is (b.below depth (omega arith) ∙ opened-below p depth (omega arith)) (ap (λ (x : SemaContext). x.gates) ended_context) (ap (λ (x : SemaContext). x.functions) ended_context) m
              ∙ sym (ap (λ x. x.0) e);
          emitted = rw k (emitted_as (emitted_then p.emitted d) (sym (ap (λ x. x.1) e)));
          below = λ x l. b.below x (omega arith) ∙ opened-below p x (omega arith);
          same_length = b.same_length ∙ p.becomes.same_length;
          same_rest = b.same_rest ∙ p.becomes.same_rest;
          few = b.few;
          placed = q;
        }

-- a body that was walked, by the statements that were read and the depth of its statement; what is made of it, and of its end, follows
module _ (tree : List ℕ) (ks : List Key) (left : ℕ) (a : 0 < left) (l : left ≤ 8) (place : ℕ) (i : State) (e : i.at ≡ place) (h : IsOk (body (stmt (texts_of tree) (left - 1)) tree place)) where
  pub body-walked : (f : Walk → Walk) (g : ℕ → ℕ) {s o : List ℕ} {r : State} {s' o' : List ℕ}
      → Walked tree (texts_of tree) ks (9 - (left - 1)) (f (walk_body (texts_of tree) (body (stmt (texts_of tree) (left - 1)) tree i.at))) (g (next_of (body (stmt (texts_of tree) (left - 1)) tree i.at))) i s o r s' o'
      → Walked tree (texts_of tree) ks (suc (9 - left)) (f (analyze_stmts (texts_of tree) (value_or no_stmt (body (stmt (texts_of tree) (left - 1)) tree place)))) (g (next_of (body (stmt (texts_of tree) (left - 1)) tree place))) i s o r s' o'
  body-walked f g {s = s} {o = o} {r = r} {s' = s'} {o' = o'} w =
      let t = texts_of tree in
      let x = body (stmt t (left - 1)) tree in
      subst (λ (d : ℕ). Walked tree t ks d (f (analyze_stmts t (value_or no_stmt (x place)))) (g (next_of (x place))) i s o r s' o') (level left a l)
      (walked_as (ap f (ap (λ (k : ℕ). walk_body t (x k)) e ∙ given_ok no_stmt _ (analyze_stmts t) (x place) h)) (ap (λ (k : ℕ). g (next_of (x k))) e) w)

-- an `else` goes by the symbols and the marks of its entry
pub else_same : (t : List Text) (E : Else) (c c' i : SemaContext) → c.symbols ≡ c'.symbols → c.measured ≡ c'.measured → analyze_else t E c i ≡ analyze_else t E c' i
unfolding analyze_else
else_same t no_else c c' i e f = rw (e, f)
else_same t (some_else b) c c' i e f = rw (e, f)
