-- Assignments. Assumes nothing.
use Prim.Native.Nat.{ℕ, ◌+◌, ◌-◌, ◌≤◌, ◌<◌}
use mathlib.Core.Path.{◌≡◌, refl, sym, ap, ◌∙◌}
use mathlib.Core.List.{List, [], ◌∷◌, ◌++◌}
use mathlib.Core.Option.{Option, none, some}
use lib.ListN.{length, get_or}
use Rattle.span.specs.declared.Span.{Span}
use Rattle.ast.specs.Tree.{Text, Expr}
use Rattle.ast.specs.declared.AssignOp.{AssignOp}
use Rattle.ast.specs.declared.ClassicalType.{ClassicalType}
use Rattle.tree.specs.Ans.{IsOk, next_of}
use Rattle.tree.specs.Exprs.{expr}
use Rattle.tree.specs.Stmts.{held, stmt}
use Rattle.tree.specs.Decode.{texts_of}
use Rattle.sema.specs.Messages
use Rattle.sema.specs.Messages.{error, Qubit, Bit, Classical, Const, GateParam, GateQubit}
use Rattle.sema.specs.Symbols.{Symbol, Symbols, FunctionSig, Table, get, after}
use Rattle.sema.specs.Marks.{Key, effect}
use Rattle.sema.specs.Exprs.{expr_span, check_expr, mismatch}
use Rattle.sema.specs.Stmts.{SemaContext, assign_says, target_says, assignment_says, analyze_stmt}
use Rattle.accepted.specs.Cases.{assign_op_of, blank}
use Rattle.accepted.specs.Parts.{value_or, given_ok}
use Rattle.accepted.specs.Exprs.{expr_in, expr-end}
use Rattle.accepted.specs.Stmts.{assignment-named, assignment-value, assignment-inside, assignment_is}
use Rattle.context.specs.declared.Sink.{Sink}
use Rattle.context.specs.declared.Typing.{Typing}
use Rattle.context.specs.declared.State.{State}
use Rattle.context.specs.Values.{typed_of}
use Rattle.context.specs.View.{number_at, span_at, scopes_of, functions_of}
use Rattle.promises.specs.Emitted.{Emitted, emitted_then, emitted_as}
use Rattle.promises.specs.Typings.{TypingOf}
use Rattle.promises.specs.Walks.{state_of, Ready, StmtWalked}
use Rattle.promises.specs.WalkLaws.{marks-kept, context_is, same-walked}
use Rattle.declarations.specs.Says.{spanned, target_by}
use Rattle.accepted.specs.Spans.{span-here, span-room}

-- of the value only its span matters
assign_span : (x : ℕ) (op : AssignOp) (a b : Expr) (sp : Span) (expected : ClassicalType) (ty : Option ClassicalType) → expr_span a ≡ expr_span b → assign_says x op a sp expected ty ≡ assign_says x op b sp expected ty
unfolding assign_says
assign_span x op a b sp expected none e = refl
assign_span x op a b sp expected (some actual) e = rw e

kind-span : (x : ℕ) (op : AssignOp) (a b : Expr) (sp : Span) (ty : Option ClassicalType) (k : Messages.SymbolKind) → expr_span a ≡ expr_span b → target_says x op a sp ty k ≡ target_says x op b sp ty k
unfolding target_says
kind-span x op a b sp ty Qubit e = refl
kind-span x op a b sp ty Bit e = refl
kind-span x op a b sp ty (Classical expected) e = assign_span x op a b sp expected ty e
kind-span x op a b sp ty (Const k) e = refl
kind-span x op a b sp ty GateParam e = refl
kind-span x op a b sp ty GateQubit e = refl

target_span : (f : Option Symbol) (x : ℕ) (op : AssignOp) (a b : Expr) (sp : Span) (ty : Option ClassicalType) → expr_span a ≡ expr_span b → target_by f x op a sp ty ≡ target_by f x op b sp ty
unfolding target_by
target_span none x op a b sp ty e = refl
target_span (some sym) x op a b sp ty e = kind-span x op a b sp ty sym.kind e

says_target : (c : SemaContext) (x : ℕ) (op : AssignOp) (value : Expr) (sp : Span) → (check_expr c.symbols c.functions value).says ++ target_by (get c.symbols x) x op value sp (check_expr c.symbols c.functions value).type ≡ assignment_says c x op value sp
unfolding assignment_says target_by
says_target c x op value sp = ap (λ ds. (check_expr c.symbols c.functions value).says ++ ds) (by (get c.symbols x))
  where
    by : (f : Option Symbol) → target_by f x op value sp (check_expr c.symbols c.functions value).type ≡ elim f [ none ↦ error (Messages.not_declared x) sp ∷ [] | some sym ↦ target_says x op value sp (check_expr c.symbols c.functions value).type sym.kind ]
    by none = refl
    by (some sym) = refl

-- an expression that was checked, by its value
module _ {t : List Text} {ss : Symbols} {fs : Table FunctionSig} (left : ℕ) (tree : List ℕ) (at : ℕ) {s : Sink} {o : List ℕ} {r : Typing} {o' : List ℕ} (h : IsOk (expr t left tree at)) (p : TypingOf t ss fs (expr t left tree at) s o r o') where
  pub checked-says : Emitted t (check_expr ss fs (value_or blank (expr t left tree at))).says s o r.sink o'
  checked-says = emitted_as p.emitted (given_ok blank [] (λ e. (check_expr ss fs e).says) _ h)

  pub checked-type : typed_of r.typed ≡ (check_expr ss fs (value_or blank (expr t left tree at))).type
  checked-type = p.type ∙ given_ok blank none (λ e. (check_expr ss fs e).type) _ h

  checked-span : span_at tree (r.next - 8) ≡ expr_span (value_or blank (expr t left tree at))
  checked-span = span-here t left tree at h _ p.next

  -- and the type that is expected
  pub checked-mismatch : {q : Sink} {o'' : List ℕ} (m : ClassicalType → Messages.Message) (expected : ClassicalType) → Emitted t (mismatch (λ actual. error (m actual) (span_at tree (r.next - 8))) expected (typed_of r.typed)) r.sink o' q o''
      → Emitted t ((check_expr ss fs (value_or blank (expr t left tree at))).says ++ mismatch (λ actual. error (m actual) (expr_span (value_or blank (expr t left tree at)))) expected (check_expr ss fs (value_or blank (expr t left tree at))).type) s o q o''
  checked-mismatch m expected e = emitted_then checked-says (emitted_as e (rw (checked-span, checked-type)))

module _ (tree : List ℕ) (ks : List Key) (left : ℕ) (st : State) (h : IsOk (stmt (texts_of tree) left tree st.at)) (b : get_or tree st.at 0 ≡ 4) where
  pub assignment-walked : {s o : List ℕ} {t : Typing} {o' : List ℕ} {r : Sink} {o'' : List ℕ} (x : ℕ) (op : AssignOp) (sp : Span) → Ready tree s st → TypingOf (texts_of tree) (scopes_of s (9 - left)) (functions_of s) (held (texts_of tree) tree (st.at + 4)) st.sink o t o'
      → x ≡ number_at 2 tree (st.at + 1) → op ≡ assign_op_of (get_or tree (st.at + 3) 0) → sp ≡ span_at tree t.next
      → Emitted (texts_of tree) (target_by (get (scopes_of s (9 - left)) x) x op (spanned (span_at tree (t.next - 8))) sp (typed_of t.typed)) t.sink o' r o''
      → StmtWalked tree ks left st s o (state_of (t.next + 8) r st.marks) s o''
  unfolding analyze_stmt after effect expr_span
  assignment-walked x op sp ready p e g f m =
      let v = assignment-value (texts_of tree) left tree st.at h b in
      let is = assignment_is (texts_of tree) left tree st.at h b _ p.next in
      same-walked tree ks left st is ready refl (context_is refl refl refl (sym (marks-kept _ _)))
      (emitted_as (emitted_then (checked-says _ _ _ v p) (emitted_as m (rw (checked-type _ _ _ v p, e, g, f) (target_span _ _ _ _ _ _ _ (checked-span _ _ _ v p))))) (says_target _ _ _ _ _))
      ready.placed

-- what is known of the parts of an assignment where they are read, and of a value that was checked
module _ (t : List Text) (left : ℕ) (s : List ℕ) (at : ℕ) (h : IsOk (stmt t left s at)) (b : get_or s at 0 ≡ 4) where
  pub assignment-value_in : at + 4 < length s
  assignment-value_in = expr_in _ _ _ _ (assignment-value t left s at h b)

  pub assignment-name-below : number_at 2 s (at + 1) < length t
  assignment-name-below = (assignment-named t left s at h b).below

module _ (t : List Text) (s : List ℕ) (at : ℕ) (h : IsOk (held t s at)) (n : ℕ) (e : n ≡ next_of (held t s at)) where
  pub value-long : 8 ≤ n
  value-long = span-room t _ s at h n e

  pub value-inside : n ≤ length s
  value-inside = rw e (expr-end t _ s at h)

pub ruleset assignments = (assignment-value_in, assignment-name-below, assignment-value, assignment-inside, value-long, value-inside)
