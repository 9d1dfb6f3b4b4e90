-- Laws of an index that grows: what was walked over with fewer keys was so with more, and what a later part asks. Assumes nothing.
use Rattle.std.specs.Prelude.{ℕ, ◌≤◌, ◌≡◌, List, [], ◌++◌, length, take, Some, None}
use Rattle.std.proofs.Common.{sym, ap, ◌∙◌, append-nil, arith, length-append, length-take}
use Rattle.ast.specs.Tree.{Text, Stmt, Stmts, Else}
use Rattle.tree.specs.Ans.{Ans, ok, refused, given}
use Rattle.sema.specs.Limits.{key_limit}
use Rattle.sema.specs.Symbols.{Symbols}
use Rattle.sema.specs.Marks.{Key}
use Rattle.sema.specs.Keys.{keys_stmt, keys_stmts, keys_else}
use Rattle.sema.proofs.KeyCount.{grown-stmt, grown_stmts, grown_else}
use Rattle.sema.specs.LawsKeys.{Grown}
use Rattle.context.specs.declared.State.{State}
use Rattle.context.specs.View.{keys_in, marks_of}
use Rattle.sheet.specs.Sheet.{Indexed, Distinct}
use Rattle.context.specs.declared.Key.{Key as KeyValue}
use Rattle.sheet.specs.Table.{length-keys, keys-few}
use Rattle.sheet.specs.Different.{distinct-said, distinct_tested}
use Rattle.sheet.specs.Behind.{Blank, blank-more, marks-more}
use Rattle.promises.specs.Walks.{Walkable, Walk, Walked}
use Rattle.promises.specs.Went.{stmt_keys, body_keys, else_keys, Went}

-- keys, and some more behind them
pub record Longer (ks ls : List Key) : Type 0 where
  pub distinct : Distinct ks → Distinct ls
  pub more : List Key
  pub is : ls ≡ ks ++ more

longer_none : (ks : List Key) → Longer ks ks
longer_none ks = record { distinct = λ d. d; more = []; is = sym (append-nil ks) }

longer_of : {P : Key → Type 0} {ks ls : List Key} → Grown key_limit P ks ls → Longer ks ls
longer_of {ks = ks} {ls = ls} g = record { distinct = λ d. distinct_tested ls (g.distinct (distinct-said ks d)); more = g.behind.0; is = g.behind.1 }

pub longer_as : {ks ls ms : List Key} → ls ≡ ms → Longer ks ls → Longer ks ms
longer_as e g = rw (← e) g

pub longer_length : {ks ls : List Key} → Longer ks ls → length ks ≤ length ls
longer_length {ks} g = rw (g.is, length-append ks g.more) (omega arith)

-- the keys of what was read
given_longer : {A : Type 0} (f : A → List Key) (ks : List Key) → ((a : A) → Longer ks (f a)) → (x : Ans A) → Longer ks (given ks f x)
unfolding given
given_longer f ks h (ok a n) = h a
given_longer f ks h (refused n p) = longer_none ks

module _ (ss : Symbols) (ks : List Key) where
  pub stmt_longer : (x : Ans Stmt) → Longer ks (stmt_keys x ss ks)
  stmt_longer = given_longer (λ a. keys_stmt a ss ks) ks (λ a. longer_of (grown-stmt a ss ks))

  pub stmts_longer : (b : Stmts) → Longer ks (keys_stmts b ss ks)
  stmts_longer b = longer_of (grown_stmts b ss ks)

  pub body_longer : (x : Ans Stmts) → Longer ks (body_keys x ss ks)
  body_longer = given_longer (λ a. keys_stmts a ss ks) ks stmts_longer

  pub other_longer : (e : Else) → Longer ks (keys_else e ss ks)
  other_longer e = longer_of (grown_else e ss ks)

  pub else_longer : (x : Ans Else) → Longer ks (else_keys x ss ks)
  else_longer = given_longer (λ a. keys_else a ss ks) ks other_longer

-- marks are the same under more keys, where the sheet is blank behind those there were
pub marks_longer : {ks ls : List Key} → Longer ks ls → (tree sheet : List ℕ) → Blank (length ks) sheet → marks_of tree ls sheet ≡ marks_of tree ks sheet
marks_longer {ks} g tree sheet b = rw g.is (marks-more tree ks g.more sheet b)

-- and so is what was walked over
pub walked_longer : {tree : List ℕ} {t : List Text} {ks ls : List Key} {depth : ℕ} {walk : Walk} {end : ℕ} {st : State} {s o : List ℕ} {r : State} {s' o' : List ℕ} → Longer ks ls → Blank (length ks) st.marks → Blank (length ks) r.marks
    → Walked tree t ks depth walk end st s o r s' o' → Walked tree t ls depth walk end st s o r s' o'
walked_longer {tree} {st = st} {r = r} g a b w =
    let e = marks_longer g tree st.marks a in
    let f = marks_longer g tree r.marks b in
    record { at = w.at; goes = rw (e, f) w.goes; emitted = rw e w.emitted; below = w.below; same_length = w.same_length; same_rest = w.same_rest; few = w.few; placed = w.placed }

-- under another state with the same place, listing and marks
pub walked_at : {tree : List ℕ} {t : List Text} {ks : List Key} {depth : ℕ} {walk : Walk} {end : ℕ} {st : State} {s o : List ℕ} {r : State} {s' o' : List ℕ} → Walked tree t ks depth walk end st s o r s' o'
    → (x y : State) → x.sink ≡ st.sink → x.marks ≡ st.marks → y.at ≡ r.at → y.sink ≡ r.sink → y.marks ≡ r.marks → Walked tree t ks depth walk end x s o y s' o'
walked_at w x y a b c d e = record { at = c ∙ w.at; goes = rw (b, e) w.goes; emitted = rw (a, b, d) w.emitted; below = w.below; same_length = w.same_length; same_rest = w.same_rest; few = w.few; placed = rw e w.placed }

-- the keys of an index are so many
pub blank-keys : {i : List KeyValue} {n : ℕ} {sheet : List ℕ} → Indexed i n → Blank n sheet → Blank (length (keys_in i n)) sheet
blank-keys t b = rw (length-keys t) b

-- what later parts ask of the index
pub indexed_longer : {i i' : List KeyValue} {n m : ℕ} → Indexed i n → length i' ≡ length i → m ≤ key_limit → Indexed i' m
indexed_longer t l f = record { size = l ∙ t.size; few = f }

pub walkable_longer : {tree : List ℕ} (i i' : List KeyValue) (n m : ℕ) {ls : List Key} → Walkable tree (take n i) → Longer (keys_in i n) ls → keys_in i' m ≡ ls → m ≤ key_limit → Walkable tree (take m i')
walkable_longer i i' n m w g a f =
    record { small = w.small; few = omega (arith, length-take m i'); distinct = rw a (g.distinct w.distinct) }

-- too many keys stay too many: the walk has stopped
pub went_over : {i i' : List KeyValue} {ks : List Key} {s s' : List ℕ} {W : State → Type 0} → Went i i' ks s s' None W → (ls : List Key) → length ks ≤ length ls → (X : State → Type 0) → Went i i' ls s s' None X
went_over {i} {i'} {ks} w ls l X =
    record {
      grown = omega (arith, w.grown);
      index-length = w.index-length;
      scratch-length = w.scratch-length;
      scratch-rest = w.scratch-rest;
      reached = tt;
    }

-- what else holds of the state r, where the walk did not stop
pub went_as : {i i' : List KeyValue} {ks : List Key} {s s' : List ℕ} {w : State} {W : State → Type 0} → Went i i' ks s s' (Some w) W → (r : State) → r.keys ≡ w.keys → {X : State → Type 0} → (W w → X r) → (Blank w.keys w.marks → Blank w.keys r.marks) → Went i i' ks s s' (Some r) X
went_as g r f walks blank =
    record {
      grown = rw f g.grown;
      index-length = g.index-length;
      scratch-length = g.scratch-length;
      scratch-rest = g.scratch-rest;
      reached = (walks g.reached.0, rw f (blank g.reached.1));
    }

-- a sheet that was blank behind the keys is so behind more
pub blank_longer : (i i' : List KeyValue) {n m : ℕ} {ls : List Key} {sheet : List ℕ} → Indexed i n → Longer (keys_in i n) ls → keys_in i' m ≡ ls → Blank n sheet → Blank m sheet
blank_longer i i' {n} {m} {ls} t g a b =
    let e : length (keys_in i' m) ≡ length ls = ap length a in
    blank-more (omega (arith, length-keys t, keys-few i' m, longer_length g, e)) b
