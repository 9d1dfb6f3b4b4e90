-- An `if`: its condition, its `then` body and its `else` make the walk over it. Assumes nothing.
use Prim.Native.Nat.{ℕ, suc, ◌+◌, ◌-◌, ◌*◌, ◌≤◌, ◌<◌}
use mathlib.Core.Path.{◌≡◌, refl, sym, ap, ◌∙◌}
use mathlib.Core.List.{List, [], ◌∷◌}
use native.Mathlib.Omega.{arith}
use lib.ListN.{length, get_or}
use Rattle.ast.specs.Tree.{Text, Expr, Stmt, Stmts, no_stmt, Else, no_else}
use Rattle.ast.specs.declared.ClassicalType.{ClassicalType}
use Rattle.tree.specs.Ans.{ok, next_of, IsOk}
use Rattle.tree.specs.Stmts.{body, stmt, else_body, held}
use Rattle.tree.specs.Decode.{texts_of}
use Rattle.sema.specs.Messages
use Rattle.sema.specs.Symbols.{Symbols, empty}
use Rattle.sema.specs.Marks.{Key}
use Rattle.sema.specs.Limits.{key_limit}
use Rattle.sema.specs.Keys.{keys_stmt, keys_stmts, keys_else}
use Rattle.sema.specs.Exprs.{require_type}
use Rattle.sema.specs.Stmts.{SemaContext, enter, analyze_stmt, analyze_stmts, analyze_else}
use Rattle.context.specs.declared.State.{State}
use Rattle.context.specs.declared.Key.{Key as KeyValue}
use Rattle.std.specs.Prelude.{Option, Some, None}
use Rattle.context.specs.View.{span_at, keys_in, scopes_of, functions_of, context_of}
use Rattle.accepted.specs.Cases.{blank}
use Rattle.accepted.specs.Parts.{value_or, given_is, given_ok}
use Rattle.accepted.specs.Bodies.{stmt-left, body_forward, else_in}
use Rattle.accepted.specs.Stmts.{branch-condition, branch-body, branch_else, branch_is, branch-inside}
use Rattle.promises.specs.Emitted.{emitted_then, emitted_as}
use Rattle.sheet.specs.Behind.{Blank}
use Rattle.promises.specs.Walks.{Walked, StmtWalked, BodyWalked}
use Rattle.promises.specs.Went.{stmt_keys, else_keys, StmtAsked, BodyAsked, Went, StmtWent, BodyWent}
use Rattle.promises.specs.WentLaws.{indexed_longer, Longer, longer_as, longer_length, stmts_longer, other_longer, else_longer, walked_longer, blank-keys, blank_longer, walkable_longer, went_over}
use Rattle.promises.specs.WalkLaws.{stmt-walked}
use Rattle.bodies.specs.Opened.{ConditionOpened}
use Rattle.walk.specs.Bodies.{walk_else, ElseAsked, ElseWalked, ElseWent}
use Rattle.walk.proofs.Enclosed.{opened_context, opened-below, ended_context, body-walked, else_same}
use Rattle.walk.proofs.Held.{Holds, held_below, held_went}
use Rattle.walk.proofs.Further.{if-further}

module _ {tree : List ℕ} {index : List KeyValue} {left : ℕ} {st : State} {s : List ℕ} (a : StmtAsked tree index left st s) (b : get_or tree st.at 0 ≡ 12) where
  abbrev t : List Text
  t = texts_of tree

  abbrev h : IsOk (stmt t left tree st.at)
  h = a.accepted

  left-some : 0 < left
  left-some = stmt-left t left tree st.at h

  -- where the `then` body stands, and where the `else`
  abbrev then_at : ℕ
  then_at = next_of (held t tree (st.at + 1))

  abbrev else_at : ℕ
  else_at = next_of (body (stmt t (left - 1)) tree then_at)

  abbrev condition : Expr
  condition = value_or blank (held t tree (st.at + 1))

  abbrev then_rest : Stmts
  then_rest = value_or no_stmt (body (stmt t (left - 1)) tree then_at)

  abbrev else_rest : Else
  else_rest = value_or no_else (else_body (stmt t (left - 1)) tree else_at)

  if_is : stmt t left tree st.at
      ≡ ok (Stmt.If st.at condition then_rest else_rest (span_at tree (next_of (else_body (stmt t (left - 1)) tree else_at)))) (next_of (else_body (stmt t (left - 1)) tree else_at) + 8)
  if_is = branch_is t left tree st.at h b _ refl _ refl _ refl

  if-body : IsOk (body (stmt t (left - 1)) tree then_at)
  if-body = branch-body t left tree st.at h b _ refl

  if_else : IsOk (else_body (stmt t (left - 1)) tree else_at)
  if_else = branch_else t left tree st.at h b _ refl _ refl

  -- the keys of the `then` body alone
  abbrev then_keys : Symbols → List Key → List Key
  then_keys ss ks = keys_stmts then_rest (empty ∷ ss) ks

  then-holds : Holds tree left st.at then_keys empty then_at
  then-holds = record { some = left-some; further = if-further tree left st.at h b; held = if-body; keys = λ ss ks. refl }

  if-keys : (ss : Symbols) (ks : List Key) → stmt_keys (stmt t left tree st.at) ss ks ≡ keys_else else_rest ss (then_keys ss ks)
  unfolding keys_stmt
  if-keys ss ks = given_is if_is ks (λ a. keys_stmt a ss ks)

  -- its condition checked, and its `then` body opened
  module _ {o : List ℕ} {i : State} {s' o' : List ℕ} (p : ConditionOpened Messages.if_condition tree left st s o i s' o') where
    pub then-below : {n : ℕ} → 2 * (length tree - st.at) ≡ n → (2 * (length tree - i.at) < n) × BodyAsked tree index (left - 1) i s'
    then-below = held_below then-holds p a

    -- of the `then` body
    then_went : {w : Option State} {index₁ : List KeyValue} {s'' o'' : List ℕ} → BodyWent tree (left - 1) i index s' o' w index₁ s'' o''
        → Went index index₁ (then_keys (scopes_of s (9 - left)) (keys_in index st.keys)) s s'' w (λ x. BodyWalked tree (keys_in index₁ x.keys) (left - 1) i s' o' x s'' o'')
    then_went v = held_went then-holds p a v

    -- the walk has stopped in it
    pub then-over : {index₁ : List KeyValue} {s'' o'' : List ℕ} → BodyWent tree (left - 1) i index s' o' None index₁ s'' o'' → StmtWent tree left st index s o None index₁ s'' o''
    then-over v =
        let ss = scopes_of s (9 - left) in
        went_over (then_went v) _ (rw (if-keys ss (keys_in index st.keys)) (longer_length (other_longer ss _ else_rest))) _

    module _ {w : State} {index₁ : List KeyValue} {s'' o'' : List ℕ} (v : BodyWent tree (left - 1) i index s' o' (Some w) index₁ s'' o'') where
      few : w.keys ≤ key_limit
      few = v.grown.1

      added : keys_in index₁ w.keys ≡ then_keys (scopes_of s (9 - left)) (keys_in index st.keys)
      added = (then_went v).grown.0

      walked_then : Walked tree t (keys_in index₁ w.keys) (suc (9 - left)) (analyze_stmts t then_rest) else_at i s' o' w s'' o''
      walked_then = body-walked tree (keys_in index₁ w.keys) left left-some a.shallow _ i p.at if-body (λ x. x) (λ n. n) v.reached.0

      -- the scopes of the `if` are as they were
      then_scopes : scopes_of s'' (9 - left) ≡ scopes_of s (9 - left)
      then_scopes = walked_then.below (9 - left) (omega arith) ∙ opened-below p (9 - left) (omega arith)

      else_at_lem : w.at ≡ else_at
      else_at_lem = walked_then.at

      -- the sheet of the entry is blank behind the keys of the `then` body as well
      entry_blank : Blank w.keys st.marks
      entry_blank = blank_longer index index₁ a.indexed (stmts_longer (empty ∷ scopes_of s (9 - left)) (keys_in index st.keys) then_rest) added a.blank

      -- what the `else` asks
      pub else_below : {n : ℕ} → 2 * (length tree - st.at) ≡ n → (2 * (length tree - w.at) < n) × ElseAsked tree index₁ left st.marks w s''
      else_below e =
          let held : IsOk (else_body (stmt t (left - 1)) tree w.at) = rw else_at_lem if_else in (
            omega (arith, else_at_lem, if-further tree left st.at h b, body_forward _ _ _ _ if-body, else_in _ _ _ held),
            record {
              some = left-some;
              asked = record {
                indexed = indexed_longer a.indexed v.index-length few;
                walkable = walkable_longer _ _ _ _ a.walkable (stmts_longer (empty ∷ scopes_of s (9 - left)) (keys_in index st.keys) then_rest) added few;
                ready = record { room = omega (arith, v.scratch-length, p.becomes.same_length, a.ready.room); few = walked_then.few; placed = a.ready.placed };
                accepted = held;
                shallow = a.shallow;
                blank = entry_blank;
              };
              placed = walked_then.placed;
              blank = v.reached.1;
              room = let n = branch-inside t left tree st.at h b _ refl _ refl _ refl in rw else_at_lem n;
            },
          )

      -- the keys of the `else` are those of the `if`
      else_keys_lem : else_keys (else_body (stmt t (left - 1)) tree w.at) (scopes_of s'' (9 - left)) (keys_in index₁ w.keys) ≡ stmt_keys (stmt t left tree st.at) (scopes_of s (9 - left)) (keys_in index st.keys)
      else_keys_lem =
          rw (else_at_lem, then_scopes, added)
          (given_ok no_else _ (λ e. keys_else e (scopes_of s (9 - left)) (then_keys (scopes_of s (9 - left)) (keys_in index st.keys))) (else_body (stmt t (left - 1)) tree else_at) if_else ∙ sym (if-keys (scopes_of s (9 - left)) (keys_in index st.keys)))

      -- the walk has stopped in the `else`
      else_over : {index₂ : List KeyValue} {s''' o''' : List ℕ} → ElseWent tree left st.marks w index₁ s'' o'' None index₂ s''' o''' → StmtWent tree left st index s o None index₂ s''' o'''
      else_over g =
          record {
            grown = rw else_keys_lem at g.grown;
            index-length = g.index-length ∙ v.index-length;
            scratch-length = g.scratch-length ∙ (then_went v).scratch-length;
            scratch-rest = g.scratch-rest ∙ (then_went v).scratch-rest;
            reached = tt;
          }

      module _ {f : State} {index₂ : List KeyValue} {s''' o''' : List ℕ} (g : ElseWent tree left st.marks w index₁ s'' o'' (Some f) index₂ s''' o''') where
        few₂ : f.keys ≤ key_limit
        few₂ = g.grown.1

        abbrev ks : List Key
        ks = keys_in index₂ f.keys

        walked_else : ElseWalked tree ks left st.marks w s'' o'' f s''' o'''
        walked_else = g.reached.0

        -- the `then` body, with the keys of the `else` as well
        after_longer : Longer (keys_in index₁ w.keys) ks
        after_longer = longer_as (sym g.grown.0) (else_longer (scopes_of s'' (9 - left)) (keys_in index₁ w.keys) (else_body (stmt t (left - 1)) tree w.at))

        then-again : Walked tree t ks (suc (9 - left)) (analyze_stmts t then_rest) else_at i s' o' w s'' o''
        then-again = walked_longer after_longer (blank-keys (indexed_longer a.indexed v.index-length few) (rw p.marks entry_blank)) (blank-keys (indexed_longer a.indexed v.index-length few) v.reached.1) walked_then

        abbrev c : SemaContext
        c = context_of tree ks s (9 - left) st.marks

        -- what the analysis makes of the `else`
        else_walk : walk_else t (context_of tree ks s'' (suc (9 - left)) w.marks) (else_body (stmt t (left - 1)) tree w.at) (context_of tree ks s'' (9 - left) st.marks) ≡ analyze_else t else_rest c (analyze_stmts t then_rest (enter empty c)).0
        else_walk =
            rw (else_at_lem, given_ok no_else (context_of tree ks s'' (9 - left) st.marks, []) (λ g. analyze_else t g (context_of tree ks s'' (9 - left) st.marks) (context_of tree ks s'' (suc (9 - left)) w.marks)) (else_body (stmt t (left - 1)) tree else_at) if_else)
            (else_same t else_rest (context_of tree ks s'' (9 - left) st.marks) c (context_of tree ks s'' (suc (9 - left)) w.marks) then_scopes refl
            ∙ ap (analyze_else t else_rest c) (ended_context tree ks p (analyze_stmts t then_rest) then-again))

        if-walked : StmtWalked tree (keys_in index₂ f.keys) left st s o f s''' o'''
        unfolding analyze_stmt
        if-walked =
            let q = walked_else in
            let g = given_ok blank [] (λ e. require_type (scopes_of s (9 - left)) (functions_of s) e ClassicalType.Bool Messages.if_condition) (held t tree (st.at + 1)) (branch-condition t left tree st.at h b) in
            let u = emitted_as then-again.emitted (ap (λ x. (analyze_stmts t then_rest x).1) (opened_context tree ks p)) in
            let n = emitted_as q.emitted (ap (λ x. x.1) else_walk) in
            stmt-walked tree (keys_in index₂ f.keys) left st if_is
            (record {
              at = q.at ∙ ap (λ (k : ℕ). next_of (else_body (stmt t (left - 1)) tree k) + 8) else_at_lem;
              goes = q.goes ∙ ap (λ x. x.0) else_walk;
              emitted = emitted_then (emitted_as p.emitted g) (emitted_then u n);
              below = λ k j. q.below k j ∙ walked_then.below k (omega arith) ∙ opened-below p k (omega arith);
              same_length = q.same_length ∙ walked_then.same_length ∙ p.becomes.same_length;
              same_rest = q.same_rest ∙ walked_then.same_rest ∙ p.becomes.same_rest;
              few = q.few;
              placed = q.placed;
            })

        else_went : StmtWent tree left st index s o (Some f) index₂ s''' o'''
        else_went =
            record {
              grown = (rw else_keys_lem at g.grown.0, few₂);
              index-length = g.index-length ∙ v.index-length;
              scratch-length = g.scratch-length ∙ (then_went v).scratch-length;
              scratch-rest = g.scratch-rest ∙ (then_went v).scratch-rest;
              reached = (if-walked, g.reached.1);
            }

      -- the `if` was walked over, or the walk has stopped
      pub if_went : (r : Option State) {index₂ : List KeyValue} {s''' o''' : List ℕ} → ElseWent tree left st.marks w index₁ s'' o'' r index₂ s''' o''' → StmtWent tree left st index s o r index₂ s''' o'''
      if_went None g = else_over g
      if_went (Some f) g = else_went g
