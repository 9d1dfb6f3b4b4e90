-- A Vec of names or parameters given symbols in the innermost scope, one after the other. Assumes nothing.
use Prim.Native.Nat.{ℕ, suc, ◌-◌, ◌≤◌, ◌<◌, ◌+◌}
use mathlib.Core.Path.{◌≡◌, refl, sym, ◌∙◌}
use mathlib.Core.List.{List, [], ◌∷◌, map}
use native.Mathlib.Numerals.{add-one}
use native.Mathlib.Omega.{arith}
use lib.ListN.{length, get_or}
use Rattle.span.specs.declared.Span.{Span}
use Rattle.ast.specs.Tree.{Text, TextNumber}
use Rattle.ast.specs.declared.ClassicalType.{ClassicalType}
use Rattle.tree.specs.Ans.{Reader, ok, IsOk}
use Rattle.tree.specs.Read.{repeat, vec}
use Rattle.tree.specs.Texts.{is_name}
use Rattle.tree.specs.Exprs.{name}
use Rattle.tree.specs.Stmts.{param}
use Rattle.sema.specs.Messages.{Classical, GateParam, GateQubit}
use Rattle.sema.specs.Symbols.{Symbol, Symbols, Scope, empty, plain, insert, insert_all, gate_scope, function_scope, loop_scope}
use Rattle.context.specs.View.{number_at, type_of, scopes_of, gates_of, functions_of}
use Rattle.tables.specs.Tables.{Becomes, Inserted, Entered}
use Rattle.accepted.specs.Parts.{value_or, next_is, value_is}
use Rattle.accepted.specs.Fields.{text_in, text-below, text_is, counted_in, counted_is, counted-held, repeat-none, repeat-first, repeat-rest, repeat_is}
use Rattle.accepted.specs.Operands.{param-named, param_is}
use Rattle.accepted.specs.Spanned.{Named}
use Rattle.scopes.specs.Scopes.{named, typed, into}

-- one change after another
pub then : {s u v : List ℕ} {depth : ℕ} {before : Symbols} {d : ℕ} {after : Symbols}
    → Becomes s u depth before (gates_of s) (functions_of s) → Becomes u v d after (gates_of u) (functions_of u) → Becomes s v d after (gates_of s) (functions_of s)
then a b = record {
  scopes_are = b.scopes_are;
  gates_are = b.gates_are ∙ a.gates_are;
  functions_are = b.functions_are ∙ a.functions_are;
  same_length = b.same_length ∙ a.same_length;
  same_rest = b.same_rest ∙ a.same_rest;
}

-- n values from k on remain; once their entries are made too, those of the whole Vec at `at` are
pub record Filling {A : Type 0} (p : Reader A) (f : A → TextNumber × Symbol) (tree s : List ℕ) (depth at : ℕ) (u : List ℕ) (n k : ℕ) : Type 0 where
  pub rest : IsOk (repeat [] ◌∷◌ p n tree k)
  pub becomes : Becomes s u depth (scopes_of u depth) (gates_of s) (functions_of s)
  pub same : into (scopes_of u depth) (map f (value_or [] (repeat [] ◌∷◌ p n tree k))) ≡ into (scopes_of s depth) (map f (value_or [] (vec p tree at)))

module _ {A : Type 0} {p : Reader A} {f : A → TextNumber × Symbol} {tree s : List ℕ} {depth at : ℕ} where
  filling_start : (n : ℕ) → IsOk (vec p tree at) → n ≡ get_or tree at 0 → Filling p f tree s depth at s n (at + 1)
  filling_start n h e = rw e (record {
    rest = counted-held tree at [] ◌∷◌ p h;
    becomes = record { scopes_are = refl; gates_are = refl; functions_are = refl; same_length = refl; same_rest = refl };
    same = rw (counted_is tree at [] ◌∷◌ p h);
  })

  -- none of n entries are made yet
  pub filling_none : (n : ℕ) → IsOk (vec p tree at) → n ≡ get_or tree at 0 → Filling p f tree s depth at s (n - 0) (at + 1)
  filling_none n h e = filling_start (n - 0) h (omega (arith, e))

  -- i of n entries are made
  module _ {u : List ℕ} {n i k : ℕ} (r : Filling p f tree s depth at u (n - i) k) where
    pub filling_first : i < n → IsOk (p tree k)
    filling_first l = repeat-first tree k [] ◌∷◌ p (n - i) r.rest (omega arith)

    pub filling_step : i < n → {a : A} {m : ℕ} → p tree k ≡ ok a m → {v : List ℕ} → Inserted u v depth (f a).0 (f a).1 → Filling p f tree s depth at v (n - (i + 1)) m
    unfolding into
    filling_step l {a = a} {m = m} e b =
        let some : 0 < n - i = omega arith in
        let fewer : n - (i + 1) ≡ n - i - 1 = omega arith in
        let all = value_is (repeat_is tree k [] ◌∷◌ p (n - i) r.rest some m (sym (next_is e)) a) [] in
        rw fewer (record {
          rest = repeat-rest tree k [] ◌∷◌ p (n - i) r.rest some m (sym (next_is e));
          becomes = then r.becomes (record { scopes_are = refl; gates_are = b.gates_are; functions_are = b.functions_are; same_length = b.same_length; same_rest = b.same_rest });
          same = rw b.scopes_are (rw (all, value_is e a) at r.same);
        })

    pub filling_done : n ≤ i → Becomes s u depth (into (scopes_of s depth) (map f (value_or [] (vec p tree at)))) (gates_of s) (functions_of s)
    unfolding into
    filling_done l = rw (← r.same, value_is (repeat-none tree k [] ◌∷◌ p (n - i) (omega arith)) []) r.becomes

-- into a scope that was entered
into-head : (c : Scope) (ss : Symbols) (es : List (TextNumber × Symbol)) → into (c ∷ ss) es ≡ insert_all c es ∷ ss
unfolding into insert_all
into-head c ss [] = refl
into-head c ss (e ∷ es) = into-head (insert c e.0 e.1) ss es

module _ {s u v : List ℕ} {depth : ℕ} (a : Entered s u depth) where
  pub gate-entered : {w : List ℕ} (params qparams : List TextNumber) (sp : Span)
      → Becomes u v (depth + 1) (into (scopes_of u (depth + 1)) (map (named GateParam sp) params)) (gates_of u) (functions_of u)
      → Becomes v w (depth + 1) (into (scopes_of v (depth + 1)) (map (named GateQubit sp) qparams)) (gates_of v) (functions_of v)
      → Becomes s w (suc depth) (gate_scope params qparams sp ∷ scopes_of s depth) (gates_of s) (functions_of s)
  unfolding gate_scope
  gate-entered params qparams sp b d =
      let first : scopes_of v (suc depth) ≡ insert_all empty (map (named GateParam sp) params) ∷ scopes_of s depth =
      rw add-one at b.scopes_are ∙ rw a.scopes_are (into-head _ _ _) in
      let all = then a (then b (rw add-one at d)) in
      rw (first, into-head _ _ _) at all

  pub function_entered : (params : List (ClassicalType × TextNumber)) (sp : Span)
      → Becomes u v (depth + 1) (into (scopes_of u (depth + 1)) (map (typed sp) params)) (gates_of u) (functions_of u)
      → Becomes s v (suc depth) (function_scope params sp ∷ scopes_of s depth) (gates_of s) (functions_of s)
  unfolding function_scope
  function_entered params sp b =
      let all = then a (rw add-one at b) in
      rw (a.scopes_are, into-head _ _ _) at all

  pub loop-entered : (x : ℕ) (ty : ClassicalType) (sp : Span) → Inserted u v (depth + 1) x (plain (Classical ty) sp)
      → Becomes s v (suc depth) (loop_scope x ty sp ∷ scopes_of s depth) (gates_of s) (functions_of s)
  unfolding loop_scope
  loop-entered x ty sp i =
      let all = then a (rw add-one at i) in
      rw a.scopes_are at all

-- the values as the code reads them
pub name-read : (t : List Text) (tree : List ℕ) (k : ℕ) → IsOk (name t tree k) → (x : ℕ) → x ≡ number_at 2 tree k → name t tree k ≡ ok x (k + 2)
name-read t tree k h x e = rw e (text_is tree k t is_name h)

pub param-read : (t : List Text) (tree : List ℕ) (k : ℕ) → IsOk (param t tree k) → (ty : ClassicalType) → ty ≡ type_of (get_or tree k 0) → (x : ℕ) → x ≡ number_at 2 tree (k + 1) → param t tree k ≡ ok (ty, x) (k + 3)
param-read t tree k h ty e x f = rw (e, f) (param_is t tree k h)

-- the next value of a Vec, where it stands
module _ (t : List Text) (tree : List ℕ) (k n i : ℕ) where
  module _ (h : IsOk (repeat [] ◌∷◌ (name t) (n - i) tree k)) (l : i < n) where
    next_name : IsOk (name t tree k)
    next_name = repeat-first tree k [] ◌∷◌ (name t) (n - i) h (omega arith)

    pub next-name_in : k + 2 ≤ length tree
    next-name_in = text_in tree k t is_name next_name

    pub next-name-below : number_at 2 tree k < length t
    next-name-below = text-below tree k t is_name next_name

  module _ (h : IsOk (repeat [] ◌∷◌ (param t) (n - i) tree k)) (l : i < n) where
    next_param : Named t tree k
    next_param = param-named t tree k (repeat-first tree k [] ◌∷◌ (param t) (n - i) h (omega arith))

    pub next-param_in : k + 3 ≤ length tree
    next-param_in = next_param.inside

    pub next-param-below : number_at 2 tree (k + 1) < length t
    next-param-below = next_param.below

pub ruleset names = (counted_in, next-name_in, next-name-below)

pub ruleset params = (counted_in, next-param_in, next-param-below)
