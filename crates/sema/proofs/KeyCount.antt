-- The list `keys` of a tree against the keys that its measure statements set: the list is longer than the limit exactly where more
-- different keys than the limit are set. Assumes nothing.
use Rattle.std.specs.Prelude.{suc, ◌≤◌, ◌<◌, ◌↔◌, length, take}
use Rattle.std.proofs.Common.{⊎_elim, arith, length-take}
use mathlib.Core.List.Memᴰ
use mathlib.Core.List.{List, [], ◌∷◌}
use Rattle.std.proofs.Math.Decide.{dec_le}
use Rattle.ast.specs.Tree.{Stmt, Stmts, no_stmt, more_stmt, Else, no_else, some_else, Program}
use Rattle.sema.specs.Limits.{key_limit}
use Rattle.sema.specs.Symbols.{empty, Symbols, get, after, gate_scope, loop_scope}
use Rattle.sema.specs.Marks.{Key, size_of}
use Rattle.sema.specs.Keys.{keys_stmt, keys_stmts, keys_else, keys}
use Rattle.sema.specs.LawsLists.{Has, Distinct, has-take, distinct-take, pigeonhole}
use Rattle.sema.proofs.LawsMarks.{measure-sets}
use Rattle.sema.specs.LawsKeys.{Grown}
use Rattle.sema.proofs.LawsKeys.{grown-none, grown_as, grown-both, add_measured_lem}
use Rattle.sema.specs.KeyCount.{SetsStmt, Sets, SetsElse, SetsIn, SetsMany}

mutual
  unfolding keys_stmt keys_stmts keys_else

  pub grown-stmt : (s : Stmt) (ss : Symbols) (ks : List Key) → Grown key_limit (SetsStmt s ss) ks (keys_stmt s ss ks)
  grown-stmt (Stmt.Include at path sp) ss ks = grown-none key_limit ks
  grown-stmt (Stmt.QubitDecl at x size sp) ss ks = grown-none key_limit ks
  grown-stmt (Stmt.BitDecl at x size sp) ss ks = grown-none key_limit ks
  grown-stmt (Stmt.ClassicalDecl at q ty x init sp) ss ks = grown-none key_limit ks
  grown-stmt (Stmt.Assignment at x op value sp) ss ks = grown-none key_limit ks
  grown-stmt (Stmt.GateCall at x modifiers params args sp) ss ks = grown-none key_limit ks
  grown-stmt (Stmt.GateDef at x params qparams body sp) ss ks = grown_stmts body (gate_scope params qparams sp ∷ ss) ks
  grown-stmt (Stmt.FunctionDef at x params return_type body sp) ss ks = grown-none key_limit ks
  grown-stmt (Stmt.Measure at qubit target sp) ss ks =
      grown_as key_limit (λ k. let e = measure-sets ss qubit k in (e.1, e.0))
      (add_measured_lem ks qubit.name (size_of (get ss qubit.name)) qubit.slice qubit.index)
  grown-stmt (Stmt.Reset at target sp) ss ks = grown-none key_limit ks
  grown-stmt (Stmt.Barrier at targets sp) ss ks = grown-none key_limit ks
  grown-stmt (Stmt.Delay at duration targets sp) ss ks = grown-none key_limit ks
  grown-stmt (Stmt.If at condition then_body else_body sp) ss ks =
      grown-both key_limit (grown_stmts then_body (empty ∷ ss) ks) (grown_else else_body ss (keys_stmts then_body (empty ∷ ss) ks))
  grown-stmt (Stmt.For at x ty range body sp) ss ks = grown_stmts body (loop_scope x ty sp ∷ ss) ks
  grown-stmt (Stmt.While at condition body sp) ss ks = grown_stmts body (empty ∷ ss) ks

  pub grown_stmts : (b : Stmts) (ss : Symbols) (ks : List Key) → Grown key_limit (Sets b ss) ks (keys_stmts b ss ks)
  grown_stmts no_stmt ss ks = grown-none key_limit ks
  grown_stmts (more_stmt s r) ss ks = grown-both key_limit (grown-stmt s ss ks) (grown_stmts r (after ss s) (keys_stmt s ss ks))

  pub grown_else : (e : Else) (ss : Symbols) (ks : List Key) → Grown key_limit (SetsElse e ss) ks (keys_else e ss ks)
  grown_else no_else ss ks = grown-none key_limit ks
  grown_else (some_else body) ss ks = grown_stmts body (empty ∷ ss) ks

module _ (p : Program) where
  grown : Grown key_limit (SetsIn p) [] (keys p)
  unfolding keys
  grown = grown_stmts p.statements (empty ∷ []) []

  -- each key of the list is set by some measure statement
  pub keys-set : (k : Key) → Has (keys p) k → SetsIn p k
  keys-set k h = ⊎_elim (λ m. absurd (Memᴰ.not-nil m)) (λ s. s) (grown.only k h)

  -- no key is in the list twice
  pub keys-distinct : Distinct (keys p)
  keys-distinct = grown.distinct tt

  -- a list within the limit holds every key that some measure statement sets
  pub keys-all : length (keys p) ≤ key_limit → (k : Key) → SetsIn p k → Has (keys p) k
  keys-all l k s = ⊎_elim (λ m. m) (λ o. absurd (omega arith)) (grown.all k s)

  -- The list is longer than the limit exactly where measure statements of the tree set more different keys than the limit.
  pub keys-count : (key_limit < length (keys p)) ↔ SetsMany p (suc key_limit)
  keys-count = (many, back)
    where
      many : key_limit < length (keys p) → SetsMany p (suc key_limit)
      many l =
          record {
            list = take (suc key_limit) (keys p);
            count = let e = length-take (suc key_limit) (keys p) in omega arith;
            different = distinct-take (suc key_limit) (keys p) keys-distinct;
            are_set = λ k h. keys-set k (has-take (suc key_limit) (keys p) h);
          }

      over : SetsMany p (suc key_limit) → length (keys p) ≤ key_limit → ⊥
      over m l =
          let c = m.count in
          let q = pigeonhole m.list (keys p) m.different (λ k h. keys-all l k (m.are_set k h)) in
          omega arith

      back : SetsMany p (suc key_limit) → key_limit < length (keys p)
      back m = elim (dec_le (length (keys p)) key_limit) [ yes l ↦ absurd (over m l) | no n ↦ omega arith ]
