-- Classical declarations. Assumes nothing.
use Prim.Native.Nat.{ℕ, zero, suc, ◌+◌, ◌-◌, ◌<◌}
use mathlib.Core.Path.{◌≡◌, refl, sym, ◌∙◌}
use mathlib.Core.List.{List, ◌++◌, append_assoc}
use mathlib.Core.Option.{Option, none, some}
use mathlib.Core.Bool.{not}
use native.Mathlib.Omega.{arith}
use lib.ListN.{length, get_or}
use lib.Dec.{eqb}
use borrow.Author.Tests.{ne_eqb}
use Rattle.std.specs.Prelude.{Option as Maybe}
use Rattle.span.specs.declared.Span.{Span}
use Rattle.ast.specs.Tree.{Text, Expr}
use Rattle.ast.specs.declared.ClassicalType.{ClassicalType}
use Rattle.ast.specs.declared.ClassicalQualifier.{ClassicalQualifier}
use Rattle.tree.specs.Ans.{IsOk, next_of}
use Rattle.tree.specs.Read.{option}
use Rattle.tree.specs.Stmts.{qualifier, held, stmt}
use Rattle.tree.specs.Decode.{texts_of}
use Rattle.sema.specs.Messages
use Rattle.sema.specs.Messages.{error}
use Rattle.sema.specs.Symbols.{Symbols, FunctionSig, Table, declare_says, after}
use Rattle.sema.specs.Marks.{Key, effect}
use Rattle.sema.specs.Operands.{is_some}
use Rattle.sema.specs.Exprs.{mismatch}
use Rattle.sema.specs.Stmts.{SemaContext, init_says, classical_says, analyze_stmt}
use Rattle.accepted.specs.Cases.{blank}
use Rattle.accepted.specs.Parts.{value_or, next_is, value_is}
use Rattle.accepted.specs.Bodies.{stmt_in}
use Rattle.accepted.specs.Fields.{option_in, option-none, option-held, option-some}
use Rattle.accepted.specs.Stmts.{classical_decl-qualifier, classical_decl_init, classical_decl_is}
use Rattle.scopes.specs.Laws.{classical-named_in}
use Rattle.context.specs.declared.Sink.{Sink}
use Rattle.context.specs.declared.Typing.{Typing}
use Rattle.context.specs.declared.Symbol.{Symbol as SymbolValue}
use Rattle.context.specs.declared.State.{State}
use Rattle.context.specs.Values.{typed_of}
use Rattle.context.specs.View.{span_at, type_of, scopes_of, functions_of}
use Rattle.tables.specs.Laws.{few-after}
use Rattle.promises.specs.Emitted.{Emitted, emitted_then, emitted_as}
use Rattle.promises.specs.Typings.{TypingOf}
use Rattle.promises.specs.Walks.{state_of, Ready, StmtWalked}
use Rattle.promises.specs.WalkLaws.{marks-kept, context_is}
use Rattle.scopes.specs.Scopes.{qualified_of}
use Rattle.declarations.specs.Says.{qualifier_says, classical_rest}
use Rattle.declarations.specs.Checked.{Declared, init_at}
use Rattle.declarations.proofs.Sayings.{silent}
use Rattle.declarations.proofs.Declares.{Declares, Spans, changed_walked, after_is, name_is, span_is, becomes_as}
use Rattle.declarations.proofs.Targets.{value-long, value-inside, checked-mismatch}

-- an initializer by its byte
module _ (tree : List ℕ) (at : ℕ) (h : IsOk (option (held (texts_of tree)) tree at)) where
  init_none : get_or tree at 0 ≡ 0 → init_at tree at ≡ none
  init_none e = value_is (option-none tree at (held (texts_of tree)) h e) none

  init_some : (get_or tree at 0 ≡ 0 → ⊥) → init_at tree at ≡ some (value_or blank (held (texts_of tree) tree (at + 1)))
  init_some z = value_is (option-some tree at (held (texts_of tree)) h blank _ refl z) none

  init_is : is_some (init_at tree at) ≡ not (eqb (get_or tree at 0) 0)
  init_is = by (get_or tree at 0) refl
    where
      by : (b : ℕ) → get_or tree at 0 ≡ b → is_some (init_at tree at) ≡ not (eqb b 0)
      by zero e = rw (init_none e)
      by (suc b) e = rw (init_some (λ z. let f : suc b ≡ 0 = sym e ∙ z in omega arith), ne_eqb (suc b) 0 (λ f. omega arith))

  module _ (ss : Symbols) (fs : Table FunctionSig) {s : Sink} {o : List ℕ} where
    pub init_absent : (ty : ClassicalType) (x : ℕ) → get_or tree at 0 ≡ 0 → Emitted (texts_of tree) (init_says ss fs ty x (init_at tree at)) s o s o
    unfolding init_says
    init_absent ty x e = silent (rw (init_none e))

    pub init_checked : {t : Typing} {o' : List ℕ} {r : Sink} {o'' : List ℕ} (ty : ClassicalType) (x : ℕ) → (get_or tree at 0 ≡ 0 → ⊥) → TypingOf (texts_of tree) ss fs (held (texts_of tree) tree (at + 1)) s o t o'
        → Emitted (texts_of tree) (mismatch (λ actual. error (Messages.cannot_initialize ty x actual) (span_at tree (t.next - 8))) ty (typed_of t.typed)) t.sink o' r o'' → Emitted (texts_of tree) (init_says ss fs ty x (init_at tree at)) s o r o''
    unfolding init_says
    init_checked ty x z p m = emitted_as (checked-mismatch _ _ _ (option-held tree at (held (texts_of tree)) h z) p (λ actual. Messages.cannot_initialize ty x actual) ty m) (rw (init_some z))

pub rest_at : (tree : List ℕ) (at k : ℕ) (ss : Symbols) (fs : Table FunctionSig) {s : Sink} {o : List ℕ} {s₁ : Sink} {o₁ : List ℕ} {r : Sink} {o' : List ℕ} (q : Maybe ClassicalQualifier) (ty : ClassicalType) (x : ℕ) (sp : Span) → k ≡ next_of (option qualifier tree at) → ty ≡ type_of (get_or tree k 0) → IsOk (option (held (texts_of tree)) tree (k + 3)) → qualified_of q ≡ value_or none (option qualifier tree at)
    → Emitted (texts_of tree) (qualifier_says (qualified_of q) (not (eqb (get_or tree (k + 3) 0) 0)) x sp) s o s₁ o₁ → Emitted (texts_of tree) (init_says ss fs ty x (init_at tree (k + 3))) s₁ o₁ r o'
    → Emitted (texts_of tree) (classical_rest ss fs (value_or none (option qualifier tree at)) (type_of (get_or tree (next_of (option qualifier tree at)) 0)) x (init_at tree (next_of (option qualifier tree at) + 3)) sp) s o r o'
unfolding classical_rest
rest_at tree at k ss fs q ty x sp e f h c a b = emitted_as (emitted_then a b) (rw (c, ← init_is tree (k + 3) h, f, e))

classical_says_lem : (c : SemaContext) (q : Option ClassicalQualifier) (ty : ClassicalType) (init : Option Expr) {x y : ℕ} {sp sq : Span} {ss ss' : Symbols} {fs : Table FunctionSig} → x ≡ y → sp ≡ sq → ss ≡ ss' → fs ≡ c.functions → declare_says c.symbols x sp ++ classical_rest ss fs q ty x init sp ≡ classical_says c q ty y init sq ss'
unfolding classical_says classical_rest qualifier_says
classical_says_lem c q ty init a b d e = rw (a, b, d, e, append_assoc)

module _ (tree : List ℕ) (ks : List Key) (left : ℕ) (st : State) (h : IsOk (stmt (texts_of tree) left tree st.at)) (b : get_or tree st.at 0 ≡ 3) {s o : List ℕ} {s₁ : Sink} {o₁ : List ℕ} {r : Sink} {s' o' : List ℕ} (x : ℕ) (symbol : SymbolValue) (ready : Ready tree s st)
    (end : ℕ) (next : end ≡ next_of (stmt (texts_of tree) left tree st.at))
    (declares : Declares (stmt (texts_of tree) left tree st.at) x symbol)
    (spanned : Spans (stmt (texts_of tree) left tree st.at) symbol)
    (d : Declared (texts_of tree) (9 - left) x symbol st.sink s o s₁ s' o₁) where
  pub classical_walked : Emitted (texts_of tree) (classical_rest (scopes_of s' (9 - left)) (functions_of s') (value_or none (option qualifier tree (st.at + 1))) (type_of (get_or tree (next_of (option qualifier tree (st.at + 1))) 0)) x (init_at tree (next_of (option qualifier tree (st.at + 1)) + 3)) symbol.decl_span) s₁ o₁ r o' → StmtWalked tree ks left st s o (state_of end r st.marks) s' o'
  unfolding analyze_stmt after effect
  classical_walked m =
      let is = classical_decl_is (texts_of tree) left tree st.at h b _ refl _ refl in
      changed_walked tree ks left st is end (next ∙ next_is is) ready (context_is refl refl refl (marks-kept _ _)) (becomes_as (after_is x symbol declares spanned is _) d.becomes) d.below (few-after d.becomes ready.few)
      (emitted_as (emitted_then d.emitted m) (classical_says_lem _ _ _ _ (name_is x symbol declares spanned is _ _ _ _ refl) (span_is x symbol declares spanned is) (d.becomes.scopes_are ∙ after_is x symbol declares spanned is _) d.becomes.functions_are))

-- what is known of the parts of a classical declaration where they are read
pub classical-init_in : (t : List Text) (left : ℕ) (s : List ℕ) (at : ℕ) → IsOk (stmt t left s at) → get_or s at 0 ≡ 3 → (k : ℕ) → k ≡ next_of (option qualifier s (at + 1)) → k + 3 < length s
classical-init_in t left s at h b k e = option_in s (k + 3) (held t) (classical_decl_init t left s at h b k e)

pub ruleset classical = (stmt_in, classical_decl-qualifier, classical-named_in, classical_decl_init, classical-init_in)

-- and of an initializer
pub ruleset initializers = (option_in, option-held, value-long, value-inside)
