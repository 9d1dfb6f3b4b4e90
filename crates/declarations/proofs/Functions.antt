-- Function definitions. Assumes nothing.
use Prim.Native.Nat.{ℕ, suc, ◌+◌, ◌-◌, ◌*◌, ◌≤◌, ◌<◌}
use mathlib.Core.Path.{◌≡◌, refl, sym, ap, ◌∙◌}
use mathlib.Core.List.{List, [], ◌∷◌, ◌++◌, map}
use mathlib.Core.Option.{Option, none, some}
use native.Mathlib.Omega.{arith}
use native.Mathlib.Numerals.{add-one}
use lib.ListN.{length, get_or}
use Rattle.span.specs.declared.Span.{Span}
use Rattle.ast.specs.Tree.{Text, TextNumber, Expr}
use Rattle.ast.specs.declared.ClassicalType.{ClassicalType}
use Rattle.tree.specs.Ans.{IsOk, next_of}
use Rattle.tree.specs.Read.{vec}
use Rattle.tree.specs.Stmts.{held, param, stmt}
use Rattle.tree.specs.Decode.{texts_of}
use Rattle.sema.specs.Messages
use Rattle.sema.specs.Messages.{error, error_with_note}
use Rattle.sema.specs.Symbols.{FunctionSig, Table, Symbols, insert, function_scope}
use Rattle.sema.specs.Exprs.{mismatch}
use Rattle.sema.specs.Stmts.{SemaContext, define_function, function_says, analyze_stmt}
use Rattle.accepted.specs.Parts.{ok_is}
use Rattle.accepted.specs.Fields.{counted_in, counted-few, counted_is}
use Rattle.accepted.specs.Stmts.{function_def-named, function_def-params, function_def-body, function_def-inside, function_def_is}
use Rattle.accepted.specs.Exprs.{expr_in}
use Rattle.accepted.specs.Bodies.{stmt-left}
use Rattle.sema.specs.Marks.{Key}
use Rattle.context.specs.declared.Sink.{Sink}
use Rattle.context.specs.declared.Typing.{Typing}
use Rattle.context.specs.declared.FunctionSig.{FunctionSig as FunctionValue}
use Rattle.std.specs.Prelude.{Option as Maybe, Some, None}
use Rattle.context.specs.declared.State.{State}
use Rattle.context.specs.Values.{typed_of}
use Rattle.context.specs.View.{number_at, span_at, type_of, scopes_of, gates_of, functions_of}
use Rattle.tables.specs.Tables.{Becomes, FunctionDefined, FewParams, brief_of, function_in}
use Rattle.tables.specs.Laws.{scopes_below, scopes_fewer, few-defined, few-after}
use Rattle.tables.specs.Params.{ParamsRead, params-read, function_read}
use Rattle.promises.specs.Emitted.{Emitted, emitted_then, emitted_as}
use Rattle.promises.specs.Typings.{TypingOf}
use Rattle.promises.specs.Walks.{state_of, Ready, StmtWalked}
use Rattle.declarations.specs.declared.parts.Function.{Function}
use Rattle.declarations.specs.Says.{defined_says, body_says}
use Rattle.declarations.specs.Checked.{params_at, FunctionAt, Defined, BodyChecked}
use Rattle.declarations.proofs.Sayings.{silent}
use Rattle.declarations.proofs.Declares.{changed_walked, functions_as}
use Rattle.declarations.proofs.Targets.{checked-mismatch}

-- the parts of a definition
pub function_at : (tree : List ℕ) (left at : ℕ) → IsOk (stmt (texts_of tree) left tree at) → get_or tree at 0 ≡ 7 → (k : ℕ) → k ≡ next_of (vec (param (texts_of tree)) tree (at + 3)) → (m : ℕ) → m ≡ next_of (held (texts_of tree) tree (k + 1))
    → (x : ℕ) → x ≡ number_at 2 tree (at + 1) → (ty : ClassicalType) → ty ≡ type_of (get_or tree k 0) → (sp : Span) → sp ≡ span_at tree m → FunctionAt tree left at (record { name = x; params = at + 3; return_type = ty; body = k + 1; span = sp; end = m + 8 })
function_at tree left at h b k k-end m m-end x e ty f sp g =
    record {
      is = rw (e, f, g) (function_def_is (texts_of tree) left tree at h b k k-end m m-end);
      named = rw e (function_def-named (texts_of tree) left tree at h b).below;
      params_are = refl;
      params = function_def-params (texts_of tree) left tree at h b;
      body = function_def-body (texts_of tree) left tree at h b k k-end;
    }

-- the parameters as the tables take them
module _ (tree : List ℕ) (at : ℕ) (h : IsOk (vec (param (texts_of tree)) tree at)) where
  params : ParamsRead tree (at + 1) (get_or tree at 0) (params_at tree at) (next_of (vec (param (texts_of tree)) tree at))
  params =
      let i = counted_in tree at [] ◌∷◌ (param (texts_of tree)) h in
      params-read (texts_of tree) tree (get_or tree at 0) (at + 1) (params_at tree at) _ (omega arith) (sym (counted_is tree at [] ◌∷◌ (param (texts_of tree)) h) ∙ ok_is [] _ h)

  pub params-few : (n : ℕ) → n ≡ get_or tree at 0 → n ≤ 16
  params-few n e = let l = counted-few tree at [] ◌∷◌ (param (texts_of tree)) h in omega arith

  pub params-inside : (n : ℕ) → n ≡ get_or tree at 0 → at + 1 + 3 * n ≤ length tree
  params-inside n e = rw e params.inside

  pub params_in : at < length tree
  params_in = counted_in tree at [] ◌∷◌ (param (texts_of tree)) h

  function_is : (n : ℕ) → n ≡ get_or tree at 0 → (ty : ClassicalType) (sp : Span) → function_in tree (at + 1) n ty sp ≡ record { params = map (λ p. p.0) (params_at tree at); return_type = ty; decl_span = sp }
  function_is n e ty sp = rw e (function_read ty sp params)

-- of two functions of one name the first stays
module _ (fs : Table FunctionSig) (x : ℕ) (ps : List (ClassicalType × TextNumber)) (ty : ClassicalType) (sp : Span) where
  define_new : fs x ≡ none → define_function x ps ty sp fs ≡ insert fs x (record { params = map (λ p. p.0) ps; return_type = ty; decl_span = sp })
  unfolding define_function
  define_new e = rw (e, define_function)

  define_again : (f : FunctionSig) → fs x ≡ some f → define_function x ps ty sp fs ≡ fs
  unfolding define_function
  define_again f e = rw (e, define_function)

-- what was found, by what the table has
brief_none : (f : Option FunctionSig) → None ≡ brief_of f → f ≡ none
brief_none none e = refl
brief_none (some f) e = let z : ◌≡◌ {A = ℕ} 0 1 = cc in absurd (omega arith)

record Had (f : Option FunctionSig) (p : FunctionValue) : Type 0 where
  had : FunctionSig
  is : f ≡ some had
  same_span : p.decl_span ≡ had.decl_span

brief_some : (f : Option FunctionSig) (p : FunctionValue) → Some p ≡ brief_of f → Had f p
brief_some none p e = let z : ◌≡◌ {A = ℕ} 0 1 = cc in absurd (omega arith)
brief_some (some f) p e = record { had = f; is = refl; same_span = cc }

says-again : (f : Option FunctionSig) (p : FunctionValue) (x : ℕ) (sp : Span) → Had f p → error_with_note (Messages.function_already_defined x) sp Messages.first_defined p.decl_span ∷ [] ≡ defined_says f x sp
unfolding defined_says
says-again f p x sp h = rw (h.is, h.same_span)

module _ (tree : List ℕ) (f : Function) {s : Sink} {scratch o : List ℕ} (few : FewParams (functions_of scratch)) where
  pub defined_again : {r : Sink} {o' : List ℕ} (found : Maybe FunctionValue) (prev : FunctionValue) → found ≡ brief_of (functions_of scratch f.name) → found ≡ Some prev
      → Emitted (texts_of tree) (error_with_note (Messages.function_already_defined f.name) f.span Messages.first_defined prev.decl_span ∷ []) s o r o' → Defined tree f s scratch o r scratch o'
  unfolding defined_says
  defined_again found prev e g m =
      let had = brief_some (functions_of scratch f.name) prev (sym g ∙ e) in
      let same = define_again (functions_of scratch) f.name (params_at tree f.params) f.return_type f.span had.had had.is in
      record {
        becomes = λ depth l. record { scopes_are = refl; gates_are = refl; functions_are = sym same; same_length = refl; same_rest = refl };
        few = few;
        emitted = emitted_as m (says-again _ prev f.name f.span had);
      }

  pub defined_new : {scratch' : List ℕ} (found : Maybe FunctionValue) (n : ℕ) → IsOk (vec (param (texts_of tree)) tree f.params) → found ≡ brief_of (functions_of scratch f.name) → found ≡ None → n ≡ get_or tree f.params 0
      → FunctionDefined scratch scratch' f.name (function_in tree (f.params + 1) n f.return_type f.span) → Defined tree f s scratch o s scratch' o
  unfolding defined_says
  defined_new found n h e g c b =
      let new = brief_none (functions_of scratch f.name) (sym g ∙ e) in
      let same = ap (insert (functions_of scratch) f.name) (function_is tree f.params h n c f.return_type f.span) ∙ sym (define_new (functions_of scratch) f.name (params_at tree f.params) f.return_type f.span new) in
      record {
        becomes = λ depth l. functions_as same (b depth l);
        few = few-after (b 0 (omega arith)) (few-defined (functions_of scratch) tree f.name (f.params + 1) n f.return_type f.span few (params-few tree f.params h n c));
        emitted = silent (rw new);
      }

-- its body
pub body-checked : {tree : List ℕ} {depth : ℕ} {f : Function} {s : Sink} {scratch o : List ℕ} {t : Typing} {o₁ : List ℕ} {r : Sink} {scratch' o' : List ℕ} → IsOk (held (texts_of tree) tree f.body)
    → Becomes scratch scratch' (suc depth) (function_scope (params_at tree f.params) f.span ∷ scopes_of scratch depth) (gates_of scratch) (functions_of scratch)
    → TypingOf (texts_of tree) (scopes_of scratch' (depth + 1)) (functions_of scratch') (held (texts_of tree) tree f.body) s o t o₁
    → Emitted (texts_of tree) (mismatch (λ actual. error (Messages.function_returns f.name f.return_type actual) (span_at tree (t.next - 8))) f.return_type (typed_of t.typed)) t.sink o₁ r o'
    → BodyChecked tree depth f s scratch o r scratch' o'
unfolding body_says
body-checked {f = f} h b p m =
    record {
      becomes = b;
      emitted = emitted_as (checked-mismatch _ _ _ h p (λ actual. Messages.function_returns f.name f.return_type actual) f.return_type m) (rw (add-one, b.scopes_are, b.functions_are));
    }

says_function : (c : SemaContext) (x : ℕ) (ps : List (ClassicalType × TextNumber)) (ty : ClassicalType) (body : Expr) (sp : Span) {ss : Symbols} {fs : Table FunctionSig} → ss ≡ c.symbols → fs ≡ define_function x ps ty sp c.functions → defined_says (c.functions x) x sp ++ body_says (function_scope ps sp ∷ ss) fs x ty body ≡ function_says c x ps ty body sp
unfolding function_says defined_says body_says
says_function c x ps ty body sp a b = rw (a, b) (ap (λ ds. ds ++ body_says (function_scope ps sp ∷ c.symbols) (define_function x ps ty sp c.functions) x ty body) (by (c.functions x)))
  where
    by : (f : Option FunctionSig) → defined_says f x sp ≡ elim f [ none ↦ [] | some previous ↦ error_with_note (Messages.function_already_defined x) sp Messages.first_defined previous.decl_span ∷ [] ]
    by none = refl
    by (some previous) = refl

-- the definition, and then the body
module _ {tree : List ℕ} {depth : ℕ} {f : Function} {s : Sink} {scratch o : List ℕ} {s₁ : Sink} {scratch₁ o₁ : List ℕ} {r : Sink} {scratch' o' : List ℕ} (l : depth ≤ 9) (d : Defined tree f s scratch o s₁ scratch₁ o₁) (b : BodyChecked tree depth f s₁ scratch₁ o₁ r scratch' o') where
  both : Becomes scratch scratch' depth (scopes_of scratch depth) (gates_of scratch) (define_function f.name (params_at tree f.params) f.return_type f.span (functions_of scratch))
  both =
      let c = d.becomes depth l in
      record {
        scopes_are = scopes_below b.becomes ∙ c.scopes_are;
        gates_are = b.becomes.gates_are ∙ c.gates_are;
        functions_are = b.becomes.functions_are ∙ c.functions_are;
        same_length = b.becomes.same_length ∙ c.same_length;
        same_rest = b.becomes.same_rest ∙ c.same_rest;
      }

pub function_walked : (tree : List ℕ) (ks : List Key) (left : ℕ) (st : State) → left ≤ 8 → {f : Function} {s o : List ℕ} {s₁ : Sink} {scratch₁ o₁ : List ℕ} {r : Sink} {scratch' o' : List ℕ} → Ready tree s st → FunctionAt tree left st.at f
    → Defined tree f st.sink s o s₁ scratch₁ o₁ → BodyChecked tree (9 - left) f s₁ scratch₁ o₁ r scratch' o'
    → StmtWalked tree ks left st s o (state_of f.end r st.marks) scratch' o'
unfolding analyze_stmt
function_walked tree ks left st u {f = f} {s = s} ready a d b =
    let l : 9 - left ≤ 9 = omega arith in
    let c = both l d b in
    changed_walked tree ks left st a.is f.end refl ready refl c (λ x m. scopes_fewer s _ (9 - left) x c.scopes_are (omega arith)) (rw b.becomes.functions_are d.few)
    (emitted_as (emitted_then d.emitted b.emitted) (says_function _ _ _ _ _ _ (d.becomes (9 - left) l).scopes_are (d.becomes (9 - left) l).functions_are))

-- what is known of the parts where they are read
module _ (t : List Text) (left : ℕ) (s : List ℕ) (at : ℕ) (h : IsOk (stmt t left s at)) (b : get_or s at 0 ≡ 7) where
  pub function-named_in : at + 3 ≤ length s
  function-named_in = (function_def-named t left s at h b).inside

  pub function-body_in : (k : ℕ) → k ≡ next_of (vec (param t) s (at + 3)) → k + 1 < length s
  function-body_in k e = expr_in _ _ _ _ (function_def-body t left s at h b k e)

pub ruleset functions = (function-named_in, function-body_in, function_def-params, function_def-body, function_def-inside)

pub ruleset parameters = (params_in, params-few, params-inside)

pub ruleset function_defs = (stmt-left, function-named_in)
