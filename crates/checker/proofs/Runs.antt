-- One run of the walk over a whole program, and what it tells. Assumes nothing.
use Prim.Native.Nat.{ℕ, ◌+◌, ◌≤◌}
use mathlib.Core.Path.{◌≡◌, sym, ap, ◌∙◌}
use mathlib.Core.List.{List, [], ◌∷◌, ◌++◌}
use native.Mathlib.Omega.{arith}
use lib.ListN.{length, drop, take}
use lib.Seq.{drop-drop, sets, sets-eq, take_at}
use Rattle.ast.specs.Tree.{Program, no_stmt}
use Rattle.tree.specs.Ans.{IsOk, next_of}
use Rattle.tree.specs.Texts.{texts}
use Rattle.tree.specs.Stmts.{body, stmt}
use Rattle.tree.specs.Decode.{texts_of, decode}
use Rattle.sema.specs.Limits.{key_limit, diagnostic_limit}
use Rattle.sema.specs.Symbols.{empty}
use Rattle.sema.specs.Marks.{Key, no_marks}
use Rattle.sema.specs.Keys.{keys_stmts, keys}
use Rattle.sema.specs.Stmts.{analyze, analyze_stmts, new}
use Rattle.context.specs.declared.State.{State}
use Rattle.context.specs.declared.Key.{Key as KeyValue}
use Rattle.context.specs.Sink.{Written, written_of, emit}
use Rattle.context.specs.View.{scopes_of, keys_in, marks_of, context_of}
use Rattle.lines.specs.EmitLaws.{all_bytes, empty as nothing, emit-from, emit-over, emit-few}
use Rattle.tables.specs.Tables.{tables_end, Begun}
use Rattle.sheet.specs.Sheet.{Grown}
use Rattle.sheet.specs.Table.{keys-few}
use Rattle.context.specs.declared.Sink.{Sink}
use Rattle.refusal.specs.declared.Refused.{Refused}
use Rattle.refusal.specs.declared.Refusal.TheVariants.{ManyKeys}
use Rattle.std.specs.Prelude.{Option, Some, None}
use Rattle.std.specs.Option.{ok_or}
use Rattle.accepted.specs.Parts.{value_or, given_ok}
use Rattle.promises.specs.Walks.{BodyWalked, walk_body}
use Rattle.promises.specs.Went.{count_of, body_keys, BodyWent}
use Rattle.claims.specs.Claim.{program_of}
use Rattle.verdict.specs.Verdict.{Learnt}
use Rattle.checker.specs.Check.{SameRest, Ran, Told}
use Rattle.checker.proofs.Programs.{program_is, program-body, new_context}

-- what lies past the bytes of a call, by what lies past the tables
rest-past : (s s' : List ℕ) → drop tables_end s' ≡ drop tables_end s → drop 65536 s' ≡ drop 65536 s
rest-past s s' e = sym (drop-drop 14336 tables_end s') ∙ ap (drop 14336) e ∙ drop-drop 14336 tables_end s

-- from one empty scope and no keys, the keys of the whole program
keys-added : (tree : List ℕ) (i i' : List KeyValue) (s o s' o' : List ℕ) (st : State) (r : Option State) → BodyWent tree 8 st i s o r i' s' o' → st.keys ≡ 0 → scopes_of s 1 ≡ empty ∷ [] → IsOk (body (stmt (texts_of tree) 8) tree st.at)
    → (p : Program) → p.statements ≡ value_or no_stmt (body (stmt (texts_of tree) 8) tree st.at) → Grown i' (count_of r) (keys p)
unfolding keys
keys-added tree i i' s o s' o' st r w z e h p q =
    let x = body (stmt (texts_of tree) 8) tree st.at in
    let n : keys_in i st.keys ≡ [] = rw z in
    let f : body_keys x (scopes_of s 1) (keys_in i st.keys) ≡ body_keys x (empty ∷ []) [] = rw (n, e) in
    let g : body_keys x (empty ∷ []) [] ≡ keys_stmts (value_or no_stmt x) (empty ∷ []) [] = given_ok no_stmt [] (λ b. keys_stmts b (empty ∷ []) []) x h in
    rw (f ∙ g, ← q) at w.grown

-- the diagnostics of a whole program, where all of it was walked over
said : (tree : List ℕ) (ks : List Key) (s o : List ℕ) (at n : ℕ) (st r : State) (s' o' : List ℕ) → IsOk (decode tree) → at ≡ next_of (texts tree 0) → st.at ≡ at → written_of st.sink o ≡ nothing o n → ((ks : List Key) → marks_of tree ks st.marks ≡ no_marks)
    → {u : List ℕ} → Begun s u → BodyWalked tree ks 8 st u o r s' o' → written_of r.sink o' ≡ emit (program_of tree).texts (analyze (program_of tree)) (nothing o n)
unfolding analyze
said tree ks s o at n st r s' o' h e a b m {u = u} l w =
    let t = texts_of tree in
    let x = body (stmt t 8) tree at in
    let c : context_of tree ks u 1 st.marks ≡ new = new_context tree ks st.marks l (m ks) in
    let g : (walk_body t x (context_of tree ks u 1 st.marks)).1 ≡ (analyze_stmts t (value_or no_stmt x) new).1 =
    ap (λ f. (f (context_of tree ks u 1 st.marks)).1) (given_ok no_stmt _ (analyze_stmts t) x (program-body tree h at e)) ∙ ap (λ f. (analyze_stmts t (value_or no_stmt x) f).1) c in
    rw (program_is tree h at e) (rw (a, g, b) at w.emitted.says)

-- a run of the walk, and the index for another
module _ (tree : List ℕ) (i : List KeyValue) (s o : List ℕ) (at n : ℕ) (st : State) (i' : List KeyValue) (s' o' : List ℕ) (h : IsOk (decode tree)) (e : at ≡ next_of (texts tree 0)) (a : st.at ≡ at) (b : written_of st.sink o ≡ nothing o n) (z : st.keys ≡ 0) (m : (ks : List Key) → marks_of tree ks st.marks ≡ no_marks)
    {u : List ℕ} (l : Begun s u) where
  grown : (r : Option State) → BodyWent tree 8 st i u o r i' s' o' → Grown i' (count_of r) (keys (program_of tree))
  grown r w = keys-added tree i i' u o s' o' st r w z l.scopes_are (rw a (program-body tree h at e)) (program_of tree) (rw a (ap (λ (p : Program). p.statements) (program_is tree h at e)))

  same : (r : Option State) → BodyWent tree 8 st i u o r i' s' o' → SameRest s s'
  same r w = record { same_length = w.scratch-length ∙ l.same_length; same_rest = rest-past s s' (w.scratch-rest ∙ l.same_rest) }

  pub ran-over : BodyWent tree 8 st i u o None i' s' o' → Ran (program_of tree) n s o None s' o'
  ran-over w = record { said = grown None w; scratch = same None w }

  pub ran : (r : State) → BodyWent tree 8 st i u o (Some r) i' s' o' → Ran (program_of tree) n s o (Some r.sink) s' o'
  ran r w =
      let k = grown (Some r) w in
      record {
        said = (omega (arith, ap length k.0, keys-few i' r.keys, k.1), said tree (keys_in i' r.keys) s o at n st r s' o' h e a b m l w.reached.0);
        scratch = same (Some r) w;
      }

-- what the first run tells of the diagnostics
module _ (p : Program) where
  learnt : (s o : List ℕ) (r : Sink) (s' o' : List ℕ) → Ran p 0 s o (Some r) s' o' → Learnt p r
  learnt s o r s' o' w =
      let t = p.texts in
      let ds = analyze p in
      let e : written_of r o' ≡ emit t ds (nothing o 0) = w.said.1 in
      record {
        over = λ h. let g = emit-over t ds o 0 h in rw (← e) at g;
        few = λ h. let g = emit-few t ds o 0 h in rw (← e) at g;
        errors = λ h. ap (λ (x : Written). x.errors) (e ∙ emit-from t ds o 0 (omega arith));
        warnings = λ h. ap (λ (x : Written). x.warnings) (e ∙ emit-from t ds o 0 (omega arith));
        bytes = λ h. ap (λ (x : Written). x.n) (e ∙ emit-from t ds o 0 (omega arith)) ∙ omega arith;
      }

  -- what a run writes behind the first line
  writes : (n : ℕ) (s o : List ℕ) (r : Sink) (s' o' : List ℕ) → Ran p n s o (Some r) s' o' → length (analyze p) ≤ 256 → o' ≡ sets o n (all_bytes p.texts (analyze p))
  writes n s o r s' o' w h = ap (λ (x : Written). x.out) (w.said.1 ∙ emit-from p.texts (analyze p) o n (omega arith))

  -- so the second, where the keys are few
  pub written : length (keys p) ≤ key_limit → (n : ℕ) (s o : List ℕ) (r : Option Sink) (s' o' : List ℕ) → Ran p n s o r s' o' → length (analyze p) ≤ 256 → o' ≡ sets o n (all_bytes p.texts (analyze p))
  written few n s o None s' o' w h = let m = w.said in absurd (omega arith)
  written few n s o (Some r) s' o' w h = writes n s o r s' o' w h

  -- and what the first keeps in a stage that has room
  staged : (s o : List ℕ) (r : Sink) (s' o' : List ℕ) → Ran p 0 s o (Some r) s' o' → length o' ≡ length o → length (analyze p) ≤ diagnostic_limit → r.n ≤ length o' → take r.n o' ≡ all_bytes p.texts (analyze p)
  staged s o r s' o' w e f g =
      let xs = all_bytes p.texts (analyze p) in
      let b : r.n ≡ length xs = (learnt s o r s' o' w).bytes f in
      let a : o' ≡ xs ++ drop (0 + length xs) o = writes 0 s o r s' o' w f ∙ sets-eq xs o 0 (omega (arith, b)) in
      rw a (take_at xs (drop (0 + length xs) o) r.n (sym b))

  pub told : (s o : List ℕ) (r : Option Sink) (s' o' : List ℕ) → Ran p 0 s o r s' o' → length o' ≡ length o → (x : Refused) → x ≡ record { refusal = ManyKeys; place = 0 } → Told p (ok_or r x) o'
  told s o None s' o' w e x f = (w.said, f)
  told s o (Some r) s' o' w e x f = record { few = w.said.0; learnt = learnt s o r s' o' w; staged = staged s o r s' o' w e }

  -- of a value that is worked out from what the run gave, and is equal to it
  pub told_as : (s o : List ℕ) (r : Option Sink) (s' o' : List ℕ) → Ran p 0 s o r s' o' → length o' ≡ length o → (x : Refused) → x ≡ record { refusal = ManyKeys; place = 0 } → (q : Option Sink) → q ≡ r → Told p (ok_or q x) o'
  told_as s o r s' o' w e x f q g = rw g (told s o r s' o' w e x f)
