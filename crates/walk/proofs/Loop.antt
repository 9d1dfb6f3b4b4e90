-- The loop over the statements of a body: what remains of the walk. Assumes nothing.
use Prim.Native.Nat.{ℕ, ◌+◌, ◌-◌, ◌≤◌, ◌<◌}
use mathlib.Core.Path.{◌≡◌, refl, sym, ap, ◌∙◌}
use mathlib.Core.List.{List, [], ◌++◌}
use native.Mathlib.Omega.{arith}
use lib.ListN.{length, take, drop}
use Rattle.ast.specs.Tree.{Text, Stmt, Stmts, no_stmt, more_stmt}
use Rattle.tree.specs.Ans.{ok, next_of, IsOk}
use Rattle.tree.specs.Read.{repeat}
use Rattle.tree.specs.Stmts.{body, stmt}
use Rattle.tree.specs.Decode.{texts_of}
use Rattle.sema.specs.Symbols.{after}
use Rattle.sema.specs.Keys.{keys_stmt, keys_stmts}
use Rattle.sema.specs.Stmts.{SemaContext, analyze_stmt, analyze_stmts}
use Rattle.context.specs.declared.Sink.{Sink}
use Rattle.context.specs.declared.State.{State}
use Rattle.context.specs.declared.Key.{Key as KeyValue}
use Rattle.std.specs.Prelude.{Some, None}
use Rattle.context.specs.Sink.{written_of, emit}
use Rattle.context.specs.View.{number_at, keys_in, scopes_of, context_of}
use Rattle.tables.specs.Tables.{tables_end}
use Rattle.lines.specs.EmitLaws.{emit-append, emit-none}
use Rattle.accepted.specs.Cases.{blank_stmt}
use Rattle.accepted.specs.Parts.{value_or, value_is, given_is, given_ok, next_is}
use Rattle.accepted.specs.Fields.{repeat-none, repeat-first, repeat-rest, repeat_is}
use Rattle.accepted.specs.Bodies.{stmt_forward, body_is, body-held}
use Rattle.sheet.specs.Sheet.{Indexed}
use Rattle.sheet.specs.Behind.{Blank}
use Rattle.promises.specs.Walks.{Walkable, Ready, walk_stmt, walk_body}
use Rattle.promises.specs.Went.{stmt_keys, body_keys, StmtAsked, BodyAsked, StmtWent, BodyWent}
use Rattle.promises.specs.WentLaws.{indexed_longer, longer_as, longer_length, stmt_longer, stmts_longer, marks_longer, blank-keys, blank_longer, walkable_longer, went_over}
use Rattle.sema.proofs.LawsOnly.{symbols-after}

-- n statements of the body at a place remain from r on, with the keys so far in the index i; what the walk makes of them is what it makes of
-- the whole from st on, and so of their keys
pub record Going (tree : List ℕ) (left at : ℕ) (st : State) (i₀ : List KeyValue) (s o : List ℕ) (n : ℕ) (r : State) (i : List KeyValue) (s' o' : List ℕ) : Type 0 where
  pub past : st.at ≤ r.at
  pub rest : IsOk (repeat no_stmt more_stmt (stmt (texts_of tree) left) n tree r.at)
  pub ends : next_of (body (stmt (texts_of tree) left) tree at) ≡ next_of (repeat no_stmt more_stmt (stmt (texts_of tree) left) n tree r.at)
  pub walks : (walk_body (texts_of tree) (repeat no_stmt more_stmt (stmt (texts_of tree) left) n tree r.at) (context_of tree (keys_in i r.keys) s' (9 - left) r.marks)).0
      ≡ (walk_body (texts_of tree) (body (stmt (texts_of tree) left) tree at) (context_of tree (keys_in i r.keys) s (9 - left) st.marks)).0
  pub says : emit (texts_of tree) (walk_body (texts_of tree) (repeat no_stmt more_stmt (stmt (texts_of tree) left) n tree r.at) (context_of tree (keys_in i r.keys) s' (9 - left) r.marks)).1 (written_of r.sink o')
      ≡ emit (texts_of tree) (walk_body (texts_of tree) (body (stmt (texts_of tree) left) tree at) (context_of tree (keys_in i r.keys) s (9 - left) st.marks)).1 (written_of st.sink o)
  pub keys : body_keys (body (stmt (texts_of tree) left) tree at) (scopes_of s (9 - left)) (keys_in i₀ st.keys)
      ≡ keys_stmts (value_or no_stmt (repeat no_stmt more_stmt (stmt (texts_of tree) left) n tree r.at)) (scopes_of s' (9 - left)) (keys_in i r.keys)
  pub indexed : Indexed i r.keys
  pub walkable : Walkable tree (take r.keys i)
  pub index-length : length i ≡ length i₀
  pub behind : Blank r.keys r.marks
  pub entry_behind : Blank r.keys st.marks
  pub ready : Ready tree s' r
  pub below : (d : ℕ) → d < 9 - left → scopes_of s' d ≡ scopes_of s d
  pub same_length : length s' ≡ length s
  pub same_rest : drop tables_end s' ≡ drop tables_end s

-- a state whose place and listing are kept beside it
abbrev pub beside : State → ℕ → Sink → State
beside s at sink = record { at = at; sink = sink; keys = s.keys; marks = s.marks }

-- one statement, under other names
pub stepped_as : {tree : List ℕ} (left : ℕ) {st : State} {i : List KeyValue} {s o : List ℕ} {r : State} {i' : List KeyValue} {s' o' : List ℕ} {i'' : List KeyValue} {s'' o'' : List ℕ} → StmtWent tree left st i s o (Some r) i' s' o' → i'' ≡ i' → s'' ≡ s' → o'' ≡ o'
    → (x : State) (at : ℕ) (sink : Sink) → x.keys ≡ r.keys → x.marks ≡ r.marks → at ≡ r.at → sink ≡ r.sink → StmtWent tree left st i s o (Some (beside x at sink)) i'' s'' o''
stepped_as left v a b c x at sink e f g h = rw (a, b, c, e, f, g, h) v

-- one statement more
module _ (tree : List ℕ) (left n k : ℕ) (h : IsOk (repeat no_stmt more_stmt (stmt (texts_of tree) left) n tree k)) (l : 0 < n) (m : ℕ) (e : m ≡ next_of (stmt (texts_of tree) left tree k)) where
  abbrev t : List Text
  t = texts_of tree

  abbrev S : Stmt
  S = value_or blank_stmt (stmt t left tree k)

  abbrev R : Stmts
  R = value_or no_stmt (repeat no_stmt more_stmt (stmt t left) (n - 1) tree m)

  more_is : repeat no_stmt more_stmt (stmt t left) n tree k ≡ ok (more_stmt S R) (next_of (repeat no_stmt more_stmt (stmt t left) (n - 1) tree m))
  more_is = repeat_is tree k no_stmt more_stmt (stmt t left) n h l m e blank_stmt

  first_walk : (c : SemaContext) → walk_stmt t (stmt t left tree k) c ≡ analyze_stmt t S c
  first_walk c = ap (λ w. w c) (given_ok blank_stmt _ (analyze_stmt t) (stmt t left tree k) (repeat-first tree k no_stmt more_stmt (stmt t left) n h l))

  rest-walk : (c : SemaContext) → walk_body t (repeat no_stmt more_stmt (stmt t left) (n - 1) tree m) c ≡ analyze_stmts t R c
  rest-walk c = ap (λ w. w c) (given_ok no_stmt _ (analyze_stmts t) (repeat no_stmt more_stmt (stmt t left) (n - 1) tree m) (repeat-rest tree k no_stmt more_stmt (stmt t left) n h l m e))

  whole-walk : (c : SemaContext) → walk_body t (repeat no_stmt more_stmt (stmt t left) n tree k) c ≡ ((analyze_stmts t R (analyze_stmt t S c).0).0, (analyze_stmt t S c).1 ++ (analyze_stmts t R (analyze_stmt t S c).0).1)
  unfolding analyze_stmts
  whole-walk c = ap (λ w. w c) (given_is more_is _ (analyze_stmts t))

-- before the first statement
pub going_start : {tree : List ℕ} {index : List KeyValue} {left : ℕ} {st : State} {s : List ℕ} → BodyAsked tree index left st s → {o : List ℕ} (n : ℕ) → n ≡ number_at 2 tree st.at
    → (r : State) → r.at ≡ st.at + 2 → r.sink ≡ st.sink → r.keys ≡ st.keys → r.marks ≡ st.marks → Going tree left st.at r index s o n r index s o
going_start {tree = tree} {index = index} {left = left} {st = st} {s = s} a n e r x y k z =
    let g = body_is (stmt (texts_of tree) left) tree st.at a.accepted in
    let b : Blank r.keys r.marks = rw (k, z) a.blank in
    record {
      past = omega arith;
      rest = rw (e, x) (body-held (stmt (texts_of tree) left) tree st.at a.accepted);
      ends = rw (e, x) (ap next_of g);
      walks = rw (e, x, g);
      says = rw (e, x, g);
      keys = given_ok no_stmt _ (λ v. keys_stmts v (scopes_of s (9 - left)) (keys_in index r.keys)) (body (stmt (texts_of tree) left) tree st.at) a.accepted ∙ rw (e, x, g);
      indexed = rw k a.indexed;
      walkable = rw k a.walkable;
      index-length = refl;
      behind = b;
      entry_behind = b;
      ready = record { room = a.ready.room; few = a.ready.few; placed = rw z a.ready.placed };
      below = λ d l. refl;
      same_length = refl;
      same_rest = refl;
    }

-- where one more was walked over
pub going_next : {tree : List ℕ} {left at : ℕ} {r₀ : State} {i₀ : List KeyValue} {s o : List ℕ} (n k : ℕ) {r : State} {i : List KeyValue} {s' o' : List ℕ} → Going tree left at r₀ i₀ s o (n - k - 1) r i s' o' → Going tree left at r₀ i₀ s o (n - (k + 1)) r i s' o'
going_next n k g = let e : n - (k + 1) ≡ n - k - 1 = omega arith in rw e g

module _ {tree : List ℕ} {left at : ℕ} {r₀ : State} {i₀ : List KeyValue} {s o : List ℕ} {n : ℕ} {r : State} {i : List KeyValue} {s' o' : List ℕ} (g : Going tree left at r₀ i₀ s o n r i s' o') where
  module _ (l : 0 < n) where
    -- the first of the remaining statements
    pub going_stmt : IsOk (stmt (texts_of tree) left tree r.at)
    going_stmt = repeat-first tree r.at no_stmt more_stmt (stmt (texts_of tree) left) n g.rest l

    pub going_asked : left ≤ 8 → StmtAsked tree i left r s'
    going_asked d = record { indexed = g.indexed; walkable = g.walkable; ready = g.ready; accepted = going_stmt; shallow = d; blank = g.behind }

    abbrev one : Stmt
    one = value_or blank_stmt (stmt (texts_of tree) left tree r.at)

    one-keys : stmt_keys (stmt (texts_of tree) left tree r.at) (scopes_of s' (9 - left)) (keys_in i r.keys) ≡ keys_stmt one (scopes_of s' (9 - left)) (keys_in i r.keys)
    one-keys = given_ok blank_stmt _ (λ a. keys_stmt a (scopes_of s' (9 - left)) (keys_in i r.keys)) (stmt (texts_of tree) left tree r.at) going_stmt

    rest_keys : (m : ℕ) → m ≡ next_of (stmt (texts_of tree) left tree r.at) → body_keys (body (stmt (texts_of tree) left) tree at) (scopes_of s (9 - left)) (keys_in i₀ r₀.keys)
        ≡ keys_stmts (value_or no_stmt (repeat no_stmt more_stmt (stmt (texts_of tree) left) (n - 1) tree m)) (after (scopes_of s' (9 - left)) one) (keys_stmt one (scopes_of s' (9 - left)) (keys_in i r.keys))
    unfolding keys_stmts
    rest_keys m e = g.keys ∙ ap (λ b. keys_stmts b (scopes_of s' (9 - left)) (keys_in i r.keys)) (value_is (more_is tree left n r.at g.rest l m e) no_stmt)

    -- too many keys
    pub going_over : {i'' : List KeyValue} {s'' o'' : List ℕ} → StmtWent tree left r i s' o' None i'' s'' o'' → (st : State) → st.at ≡ at → r₀.keys ≡ st.keys → BodyWent tree left st i₀ s o None i'' s'' o''
    going_over v st x y =
        let ls = stmt_keys (stmt (texts_of tree) left tree r.at) (scopes_of s' (9 - left)) (keys_in i r.keys) in
        let f : length ls ≤ length (body_keys (body (stmt (texts_of tree) left) tree at) (scopes_of s (9 - left)) (keys_in i₀ r₀.keys)) =
        rw (rest_keys _ refl, one-keys) (longer_length (stmts_longer _ _ _)) in
        let q = went_over v _ f (λ z. Unit) in
        rw (x, ← y)
        (record {
          grown = q.grown;
          index-length = v.index-length ∙ g.index-length;
          scratch-length = v.scratch-length ∙ g.same_length;
          scratch-rest = v.scratch-rest ∙ g.same_rest;
          reached = tt;
        })

    module _ {r'' : State} {i'' : List KeyValue} {s'' o'' : List ℕ} (v : StmtWent tree left r i s' o' (Some r'') i'' s'' o'') where
      pub going_more : Going tree left at r₀ i₀ s o (n - 1) r'' i'' s'' o''
      going_more =
          let t = texts_of tree in
          let few = v.grown.1 in
          let added = v.grown.0 in
          let w = v.reached.0 in
          let G = longer_as (sym added) (stmt_longer (scopes_of s' (9 - left)) (keys_in i r.keys) (stmt t left tree r.at)) in
          let mr = marks_longer G tree r.marks (blank-keys g.indexed g.behind) in
          let ms = marks_longer G tree r₀.marks (blank-keys g.indexed g.entry_behind) in
          let c = context_of tree (keys_in i'' r''.keys) s' (9 - left) r.marks in
          let j = more_is tree left n r.at g.rest l r''.at w.at in
          let f = first_walk tree left n r.at g.rest l r''.at w.at c in
          let x = whole-walk tree left n r.at g.rest l r''.at w.at c in
          let q = rest-walk tree left n r.at g.rest l r''.at w.at in
          let R'' : Stmts = value_or no_stmt (repeat no_stmt more_stmt (stmt t left) (n - 1) tree r''.at) in
          let c'' : context_of tree (keys_in i'' r''.keys) s'' (9 - left) r''.marks ≡ (analyze_stmt t one c).0 = w.goes ∙ ap (λ p. p.0) f in
          let d : (walk_body t (repeat no_stmt more_stmt (stmt t left) (n - 1) tree r''.at) (context_of tree (keys_in i'' r''.keys) s'' (9 - left) r''.marks)).1 ≡ (analyze_stmts t R'' (analyze_stmt t one c).0).1 = ap (λ p. p.1) (q _) ∙ ap (λ (y : SemaContext). (analyze_stmts t R'' y).1) c'' in
          let ss : scopes_of s'' (9 - left) ≡ after (scopes_of s' (9 - left)) one = ap (λ (y : SemaContext). y.symbols) c'' ∙ symbols-after t _ c in
          record {
            past = omega (arith, g.past, w.at, stmt_forward t left tree r.at going_stmt);
            rest = repeat-rest tree r.at no_stmt more_stmt (stmt t left) n g.rest l r''.at w.at;
            ends = g.ends ∙ next_is j;
            walks = ap (λ p. p.0) (q _) ∙ ap (λ (y : SemaContext). (analyze_stmts t R'' y).0) c'' ∙ sym (ap (λ p. p.0) x) ∙ rw (mr, ms) g.walks;
            says =
                ap (λ y. emit t y (written_of r''.sink o'')) d
                ∙ ap (emit t (analyze_stmts t R'' (analyze_stmt t one c).0).1) (w.emitted.says ∙ ap (λ y. emit t y (written_of r.sink o')) (ap (λ p. p.1) f))
                ∙ sym (emit-append t (analyze_stmt t one c).1 (analyze_stmts t R'' (analyze_stmt t one c).0).1 (written_of r.sink o'))
                ∙ ap (λ y. emit t y (written_of r.sink o')) (sym (ap (λ p. p.1) x))
                ∙ rw (mr, ms) g.says;
            keys = rest_keys r''.at w.at ∙ rw (ss, added ∙ one-keys);
            indexed = indexed_longer g.indexed v.index-length few;
            walkable = walkable_longer _ _ _ _ g.walkable (stmt_longer (scopes_of s' (9 - left)) (keys_in i r.keys) (stmt t left tree r.at)) added few;
            index-length = v.index-length ∙ g.index-length;
            behind = v.reached.1;
            entry_behind = blank_longer i i'' g.indexed (stmt_longer (scopes_of s' (9 - left)) (keys_in i r.keys) (stmt t left tree r.at)) added g.entry_behind;
            ready = record { room = omega (arith, w.same_length, g.ready.room); few = w.few; placed = w.placed };
            below = λ d k. w.below d k ∙ g.below d k;
            same_length = w.same_length ∙ g.same_length;
            same_rest = w.same_rest ∙ g.same_rest;
          }

  -- none remains
  pub going_end : n ≤ 0 → (st : State) → st.at ≡ at → r₀.sink ≡ st.sink → r₀.keys ≡ st.keys → r₀.marks ≡ st.marks → BodyWent tree left st i₀ s o (Some r) i s' o'
  unfolding analyze_stmts keys_stmts
  going_end l st x y z k =
      let t = texts_of tree in
      let c = context_of tree (keys_in i r.keys) s' (9 - left) r.marks in
      let e = repeat-none tree r.at no_stmt more_stmt (stmt t left) n l in
      let w : walk_body t (repeat no_stmt more_stmt (stmt t left) n tree r.at) c ≡ (c, []) = ap (λ w. w c) (given_is e _ (analyze_stmts t)) in
      let f : body_keys (body (stmt t left) tree at) (scopes_of s (9 - left)) (keys_in i₀ r₀.keys) ≡ keys_in i r.keys = g.keys ∙ ap (λ b. keys_stmts b (scopes_of s' (9 - left)) (keys_in i r.keys)) (value_is e no_stmt) in
      rw (x, ← z)
      (record {
        grown = (rw f refl, g.indexed.few);
        index-length = g.index-length;
        scratch-length = g.same_length;
        scratch-rest = g.same_rest;
        reached = (
          rw (← y, ← k)
              (record {
                at = sym (g.ends ∙ next_is e);
                goes = sym (ap (λ p. p.0) w) ∙ g.walks;
                emitted = record { says = sym (emit-none t (written_of r.sink o')) ∙ ap (λ a. emit t a (written_of r.sink o')) (sym (ap (λ p. p.1) w)) ∙ g.says };
                below = g.below;
                same_length = g.same_length;
                same_rest = g.same_rest;
                few = g.ready.few;
                placed = g.ready.placed;
              }),
          g.behind,
        );
      })
