-- The statements that end in a body and a span, and the `else` of an `if`: what each asks of its parts, and what they make together. Assumes nothing.
use Prim.Native.Nat.{ℕ, suc, ◌+◌, ◌-◌, ◌*◌, ◌≤◌, ◌<◌}
use mathlib.Core.Path.{◌≡◌, refl, sym, ap, subst, ◌∙◌}
use mathlib.Core.List.{List, []}
use native.Mathlib.Omega.{arith}
use lib.ListN.{length, get_or}
use Rattle.span.specs.declared.Span.{Span}
use mathlib.Core.Option.{Option, none, some}
use Rattle.ast.specs.Tree.{Expr, ForRange, Stmt, Stmts, no_stmt, no_else, some_else}
use Rattle.ast.specs.declared.ClassicalType.{ClassicalType}
use Rattle.tree.specs.Ans.{ok, next_of, IsOk}
use Rattle.tree.specs.Stmts.{body, stmt, else_body, held, for_range}
use Rattle.tree.specs.Decode.{texts_of}
use Rattle.sema.specs.Messages
use Rattle.sema.specs.Symbols.{empty, gate_scope, loop_scope}
use Rattle.sema.specs.Marks.{Key, unite}
use Rattle.sema.specs.Keys.{keys_stmt, keys_else}
use Rattle.sema.specs.Exprs.{require_type}
use Rattle.sema.specs.Stmts.{SemaContext, analyze_stmt, analyze_stmts, analyze_else, gate_says, range_says, step_says}
use Rattle.context.specs.declared.State.{State}
use Rattle.context.specs.declared.Key.{Key as KeyValue}
use Rattle.std.specs.Prelude.{Option as Maybe, Some, None}
use Rattle.context.specs.View.{span_at, type_of, number_at, keys_in, scopes_of, functions_of, marks_of, context_of}
use Rattle.accepted.specs.Cases.{blank, blank_range}
use Rattle.accepted.specs.Parts.{value_or, given_is, given_ok, next_is}
use Rattle.accepted.specs.Bodies.{stmt-left, else_none, else_body_lem, else_some}
use Rattle.accepted.specs.Stmts.{gate_def-body, gate_def_is, for_loop_range, for_loop-body, for_loop_is, while_loop-condition, while_loop-body, while_loop_is}
use Rattle.promises.specs.Emitted.{emitted-none, emitted_as}
use Rattle.promises.specs.Typings.{plain_context}
use Rattle.promises.specs.Walks.{Walk, StmtWalked}
use Rattle.promises.specs.Went.{stmt_keys, else_keys, StmtAsked, BodyAsked, StmtWent, BodyWent}
use Rattle.promises.specs.WentLaws.{went_as, body_longer, blank_longer}
use Rattle.promises.specs.WalkLaws.{context_is, stmt-walked}
use Rattle.tables.specs.Tables.{Entered}
use Rattle.bodies.specs.Opened.{gate_body, gate_span, gate_params, gate_qparams, for_body, for_span, GateOpened, ConditionOpened, ForOpened}
use Rattle.walk.specs.Bodies.{entry_of, else_start, walk_else, LoopAsked, ElseAsked, LoopWent, ElseOpened, ElseWalked, ElseWent}
use Rattle.walk.proofs.Enclosed.{enclosed, ended-marks, body-walked}
use Rattle.walk.proofs.Held.{Holds, United, held_below, held_went, held_over, span-room, loop-below, loop_went}
use Rattle.walk.proofs.Further.{gate-further, for_further, while-further}

-- the range of a `for` is checked by the symbols and the functions alone
step_same : (c : SemaContext) (e : Option Expr) → step_says (plain_context c.symbols c.functions) e ≡ step_says c e
unfolding step_says
step_same c none = refl
step_same c (some e) = refl

range_same : (c : SemaContext) (ty : ClassicalType) (range : ForRange) (sp : Span) → range_says (plain_context c.symbols c.functions) ty range sp ≡ range_says c ty range sp
unfolding range_says
range_same c ty range sp = rw (step_same c range.step)

module _ (tree : List ℕ) (left at : ℕ) (h : IsOk (stmt (texts_of tree) left tree at)) where
  -- the statements behind a place
  abbrev rest_at : ℕ → Stmts
  rest_at place = value_or no_stmt (body (stmt (texts_of tree) (left - 1)) tree place)

  module _ (b : get_or tree at 0 ≡ 6) where
    pub gate_is : stmt (texts_of tree) left tree at
        ≡ ok (Stmt.GateDef at (number_at 2 tree (at + 1)) (gate_params tree left at) (gate_qparams tree left at) (rest_at (gate_body tree left at)) (gate_span tree left at)) (next_of (body (stmt (texts_of tree) (left - 1)) tree (gate_body tree left at)) + 8)
    gate_is = gate_def_is (texts_of tree) left tree at h b _ refl _ refl _ refl

    pub gate-holds : Holds tree left at (stmt_keys (stmt (texts_of tree) left tree at)) (gate_scope (gate_params tree left at) (gate_qparams tree left at) (gate_span tree left at)) (gate_body tree left at)
    unfolding keys_stmt
    gate-holds = record { some = stmt-left (texts_of tree) left tree at h; further = gate-further tree left at h b; held = gate_def-body (texts_of tree) left tree at h b _ refl _ refl; keys = λ ss ks. given_is gate_is ks (λ st. keys_stmt st ss ks) }

  module _ (b : get_or tree at 0 ≡ 13) where
    pub for_is : stmt (texts_of tree) left tree at
        ≡ ok (Stmt.For at (number_at 2 tree (at + 1)) (type_of (get_or tree (at + 3) 0)) (value_or blank_range (for_range (texts_of tree) tree (at + 4))) (rest_at (for_body tree left at)) (for_span tree left at)) (next_of (body (stmt (texts_of tree) (left - 1)) tree (for_body tree left at)) + 8)
    for_is = for_loop_is (texts_of tree) left tree at h b _ refl _ refl

    pub for_holds : Holds tree left at (stmt_keys (stmt (texts_of tree) left tree at)) (loop_scope (number_at 2 tree (at + 1)) (type_of (get_or tree (at + 3) 0)) (for_span tree left at)) (for_body tree left at)
    unfolding keys_stmt
    for_holds = record { some = stmt-left (texts_of tree) left tree at h; further = for_further tree left at h b; held = for_loop-body (texts_of tree) left tree at h b _ refl; keys = λ ss ks. given_is for_is ks (λ st. keys_stmt st ss ks) }

  module _ (b : get_or tree at 0 ≡ 14) where
    pub while_is : stmt (texts_of tree) left tree at
        ≡ ok (Stmt.While at (value_or blank (held (texts_of tree) tree (at + 1))) (rest_at (next_of (held (texts_of tree) tree (at + 1)))) (span_at tree (next_of (body (stmt (texts_of tree) (left - 1)) tree (next_of (held (texts_of tree) tree (at + 1))))))) (next_of (body (stmt (texts_of tree) (left - 1)) tree (next_of (held (texts_of tree) tree (at + 1)))) + 8)
    while_is = while_loop_is (texts_of tree) left tree at h b _ refl _ refl

    pub while-holds : Holds tree left at (stmt_keys (stmt (texts_of tree) left tree at)) empty (next_of (held (texts_of tree) tree (at + 1)))
    unfolding keys_stmt
    while-holds = record { some = stmt-left (texts_of tree) left tree at h; further = while-further tree left at h b; held = while_loop-body (texts_of tree) left tree at h b _ refl; keys = λ ss ks. given_is while_is ks (λ st. keys_stmt st ss ks) }

module _ {tree : List ℕ} {index : List KeyValue} {left : ℕ} {st : State} {s : List ℕ} (a : StmtAsked tree index left st s) where
  -- a gate definition, its body opened
  module _ (b : get_or tree st.at 0 ≡ 6) {o : List ℕ} {i : State} {s' o' : List ℕ} (p : GateOpened tree left st s o i s' o') where
    pub gate-below : {t : ℕ} → 2 * (length tree - st.at) ≡ t → (2 * (length tree - i.at) < t) × BodyAsked tree index (left - 1) i s'
    gate-below = held_below (gate-holds tree left st.at a.accepted b) p a

    pub gate-over : {index' : List KeyValue} {s'' o'' : List ℕ} → BodyWent tree (left - 1) i index s' o' None index' s'' o'' → StmtWent tree left st index s o None index' s'' o''
    gate-over g = held_over (gate-holds tree left st.at a.accepted b) p a g _

    module _ {w : State} {index' : List KeyValue} {s'' o'' : List ℕ} (g : BodyWent tree (left - 1) i index s' o' (Some w) index' s'' o'') where
      pub gate-room : w.at + 8 ≤ length tree
      gate-room = rw g.reached.0.at (span-room (gate_is tree left st.at a.accepted b) (gate-holds tree left st.at a.accepted b) p a)

      pub gate_went : (r : State) → r.at ≡ w.at + 8 → r.sink ≡ w.sink → r.keys ≡ w.keys → r.marks ≡ w.marks → StmtWent tree left st index s o (Some r) index' s'' o''
      unfolding analyze_stmt gate_says
      gate_went r x y k z =
          let H = gate-holds tree left st.at a.accepted b in
          held_went H p a
          (went_as g r k
          (λ v.
          let u = body-walked tree (keys_in index' w.keys) left H.some a.shallow _ i p.at H.held (λ x. x) (λ n. n) v in
          subst (λ (n : ℕ). StmtWalked tree (keys_in index' n) left st s o r s'' o'') (sym k)
          (stmt-walked tree (keys_in index' w.keys) left st (gate_is tree left st.at a.accepted b)
          (enclosed tree (keys_in index' w.keys) p _ u _ _ _ r refl (ap (marks_of tree (keys_in index' w.keys)) z ∙ ended-marks tree (keys_in index' w.keys) p _ u) (rw z v.placed) (x ∙ ap (λ (n : ℕ). n + 8) u.at) y)))
          (λ x. rw z x))

  -- a `for`
  module _ (b : get_or tree st.at 0 ≡ 13) {o : List ℕ} {i : State} {s' o' : List ℕ} (p : ForOpened tree left st s o i s' o') where
    pub for_below : {t : ℕ} → 2 * (length tree - st.at) ≡ t → (2 * (length tree - i.at) + 1 < t) × LoopAsked tree index (left - 1) i s'
    for_below = loop-below (for_is tree left st.at a.accepted b) (for_holds tree left st.at a.accepted b) p a

    pub for_went : (w : Maybe State) {index' : List KeyValue} {s'' o'' : List ℕ} → LoopWent tree (left - 1) i index s' o' w index' s'' o'' → StmtWent tree left st index s o w index' s'' o''
    unfolding analyze_stmt
    for_went w g =
        let ty = type_of (get_or tree (st.at + 3) 0) in
        let e = given_ok blank_range [] (λ range. range_says (plain_context (scopes_of s (9 - left)) (functions_of s)) ty range (for_span tree left st.at)) (for_range (texts_of tree) tree (st.at + 4)) (for_loop_range (texts_of tree) left tree st.at a.accepted b) in
        loop_went (for_is tree left st.at a.accepted b) (for_holds tree left st.at a.accepted b) p a w g
        (λ ks. rw (e, range_same (context_of tree ks s (9 - left) st.marks) ty (value_or blank_range (for_range (texts_of tree) tree (st.at + 4))) (for_span tree left st.at)))

  -- a `while`
  module _ (b : get_or tree st.at 0 ≡ 14) {o : List ℕ} {i : State} {s' o' : List ℕ} (p : ConditionOpened Messages.while_condition tree left st s o i s' o') where
    pub while-below : {t : ℕ} → 2 * (length tree - st.at) ≡ t → (2 * (length tree - i.at) + 1 < t) × LoopAsked tree index (left - 1) i s'
    while-below = loop-below (while_is tree left st.at a.accepted b) (while-holds tree left st.at a.accepted b) p a

    pub while_went : (w : Maybe State) {index' : List KeyValue} {s'' o'' : List ℕ} → LoopWent tree (left - 1) i index s' o' w index' s'' o'' → StmtWent tree left st index s o w index' s'' o''
    unfolding analyze_stmt
    while_went w g =
        let e = given_ok blank [] (λ e. require_type (scopes_of s (9 - left)) (functions_of s) e ClassicalType.Bool Messages.while_condition) (held (texts_of tree) tree (st.at + 1)) (while_loop-condition (texts_of tree) left tree st.at a.accepted b) in
        loop_went (while_is tree left st.at a.accepted b) (while-holds tree left st.at a.accepted b) p a w g (λ ks. rw e)

-- An `else`, after a `then` body.
module _ {tree : List ℕ} {index : List KeyValue} {left : ℕ} {entry : List ℕ} {t : State} {s : List ℕ} (a : ElseAsked tree index left entry t s) where
  abbrev h : IsOk (else_body (stmt (texts_of tree) (left - 1)) tree t.at)
  h = a.asked.accepted

  -- the context in which the `then` body ended
  abbrev ended : List Key → SemaContext
  ended ks = context_of tree ks s (suc (9 - left)) t.marks

  -- there is none: entry and exit are united, and there is no key
  pub none_went : get_or tree t.at 0 ≡ 0 → {o : List ℕ} (r : State) → r.at ≡ t.at + 9 → r.sink ≡ t.sink → r.keys ≡ t.keys → United entry t.marks r.marks → ElseWent tree left entry t index s o (Some r) index s o
  unfolding analyze_else keys_else
  none_went b {o = o} r x y k u =
      let e = else_none (stmt (texts_of tree) (left - 1)) tree t.at h b in
      let ks = keys_in index t.keys in
      let c = context_of tree ks s (9 - left) entry in
      let g : walk_else (texts_of tree) (ended ks) (else_body (stmt (texts_of tree) (left - 1)) tree t.at) c ≡ analyze_else (texts_of tree) no_else c (ended ks) = given_is e _ _ in
      record {
        grown = (rw (k, given_is e ks (λ q. keys_else q (scopes_of s (9 - left)) ks)) refl, rw k a.asked.indexed.few);
        index-length = refl;
        scratch-length = refl;
        scratch-rest = refl;
        reached = (
          subst (λ (n : ℕ). ElseWalked tree (keys_in index n) left entry t s o r s o) (sym k)
              (record {
                at = omega (arith, x, next_is e);
                goes = context_is refl refl refl (u.1.0 tree ks) ∙ sym (ap (λ q. q.0) g);
                emitted = emitted_as (rw y emitted-none) (sym (ap (λ q. q.1) g));
                below = λ n l. refl;
                same_length = refl;
                same_rest = refl;
                few = a.asked.ready.few;
                placed = u.0 tree a.asked.ready.placed a.placed;
              }),
          rw k (u.1.1 t.keys a.asked.blank a.blank),
        );
      }

  -- there is one: its body is opened, and its scope entered
  module _ (b : get_or tree t.at 0 ≡ 0 → ⊥) {s' : List ℕ} (e : Entered s s' (9 - left)) where
    some_is : else_body (stmt (texts_of tree) (left - 1)) tree t.at ≡ ok (some_else (value_or no_stmt (body (stmt (texts_of tree) (left - 1)) tree (t.at + 1)))) (next_of (body (stmt (texts_of tree) (left - 1)) tree (t.at + 1)))
    some_is = else_some (stmt (texts_of tree) (left - 1)) tree t.at h b _ refl

    some_holds : Holds tree left t.at (else_keys (else_body (stmt (texts_of tree) (left - 1)) tree t.at)) empty (t.at + 1)
    unfolding keys_else
    some_holds = record { some = a.some; further = omega arith; held = else_body_lem (stmt (texts_of tree) (left - 1)) tree t.at h b; keys = λ ss ks. given_is some_is ks (λ x. keys_else x ss ks) }

    some-opened : (o : List ℕ) → ElseOpened (texts_of tree) left (entry_of t entry) s o (else_start t entry) s' o
    some-opened o = record { at = refl; keys = refl; marks = refl; emitted = emitted-none; becomes = e }

    pub some_below : {n : ℕ} → 2 * (length tree - t.at) ≡ n → (2 * (length tree - (t.at + 1)) < n) × BodyAsked tree index (left - 1) (else_start t entry) s'
    some_below = held_below some_holds (some-opened []) a.asked

    pub some-over : {o : List ℕ} {index' : List KeyValue} {s'' o'' : List ℕ} → BodyWent tree (left - 1) (else_start t entry) index s' o None index' s'' o'' → ElseWent tree left entry t index s o None index' s'' o''
    some-over {o} g = held_over some_holds (some-opened o) a.asked g _

    module _ {o : List ℕ} {w : State} {index' : List KeyValue} {s'' o'' : List ℕ} (g : BodyWent tree (left - 1) (else_start t entry) index s' o (Some w) index' s'' o'') where
      pub some-room : w.at + 8 ≤ length tree
      some-room = omega (arith, g.reached.0.at, next_is some_is, a.room)

      pub some_went : (r : State) → r.at ≡ w.at + 8 → r.sink ≡ w.sink → r.keys ≡ w.keys → United t.marks w.marks r.marks → ElseWent tree left entry t index s o (Some r) index' s'' o''
      unfolding analyze_else
      some_went r x y k u =
          let ks = keys_in index' w.keys in
          held_went some_holds (some-opened o) a.asked
          (went_as g r k
          (λ v.
          let q = body-walked tree (keys_in index' w.keys) left a.some a.asked.shallow _ (else_start t entry) refl some_holds.held (λ x. x) (λ n. n) v in
          let B : Walk = analyze_stmts (texts_of tree) (value_or no_stmt (body (stmt (texts_of tree) (left - 1)) tree (t.at + 1))) in
          subst (λ (n : ℕ). ElseWalked tree (keys_in index' n) left entry t s o r s'' o'') (sym k)
          (enclosed tree ks (some-opened o) B q _ _ _ r (given_is some_is _ (λ x. analyze_else (texts_of tree) x (context_of tree ks s (9 - left) entry) (ended ks)))
          (u.1.0 tree ks ∙ ap (unite (marks_of tree ks t.marks)) (ended-marks tree ks (some-opened o) B q)) (u.0 tree a.placed v.placed) (x ∙ ap (λ (n : ℕ). n + 8) (q.at ∙ sym (next_is some_is))) y))
          (λ b. u.1.1 w.keys (blank_longer _ _ a.asked.indexed (body_longer _ _ _) g.grown.0 a.blank) b))
