-- The arguments of a call one by one, and the call. Assumes nothing.
use Prim.Native.Nat.{ℕ, zero, suc, ◌+◌, ◌-◌, ◌≤◌, ◌<◌}
use mathlib.Core.Path.{◌≡◌, refl, sym, ap, ◌∙◌}
use mathlib.Core.List.{List, [], ◌∷◌, ◌++◌, append-nil}
use mathlib.Core.Option.{Option, none, some}
use native.Mathlib.Omega.{arith}
use native.Mathlib.Numerals.{add-one}
use native.Mathlib.Nat.{sub-zero}
use lib.ListN.{get_or, drop, length}
use lib.Dec.{eqb}
use Rattle.span.specs.declared.Span.{Span}
use Rattle.ast.specs.Tree.{Text, Expr, Exprs, no_expr, more_expr, expr_count}
use Rattle.ast.specs.declared.ClassicalType.{ClassicalType}
use Rattle.tree.specs.Ans.{IsOk, next_of, given}
use Rattle.tree.specs.Read.{repeat}
use Rattle.tree.specs.Exprs.{expr, exprs}
use Rattle.sema.specs.Messages
use Rattle.sema.specs.Messages.{error, error_with_note}
use Rattle.sema.specs.Symbols.{Symbols, FunctionSig, Table}
use Rattle.sema.specs.Operands.{unless}
use Rattle.sema.specs.Exprs.{Typing, untyped, expr_span, argument_says, rest, check_expr, check_all, check_arguments}
use Rattle.context.specs.declared.Sink.{Sink}
use Rattle.context.specs.declared.Typing.{Typing as TypingValue}
use Rattle.context.specs.Values.{typed_of}
use Rattle.context.specs.View.{number_at, span_at}
use Rattle.accepted.specs.Cases.{blank}
use Rattle.accepted.specs.Parts.{value_or, value_is, given_ok}
use Rattle.accepted.specs.Fields.{counted_is, repeat-none, repeat-first, repeat_is}
use Rattle.accepted.specs.Counts.{exprs-size}
use Rattle.accepted.specs.Remains.{Remains, remains-start, remains-more}
use Rattle.accepted.specs.Exprs as of
use Rattle.tables.specs.Tables.{params_of}
use Rattle.promises.specs.Emitted.{Emitted, emitted_then, emitted_as}
use Rattle.promises.specs.Typings.{TypingOf}
use Rattle.std.specs.Prelude.{Option as Maybe}
use Rattle.typing.specs.declared.Callee.{Callee}
use Rattle.typing.specs.Checks.{callee_type, callee_says, CalleeOf, unmet, argument_at}
use Rattle.typing.proofs.Exprs.{typing_is, found_of}
use Rattle.accepted.specs.Spans.{span-here}
use Rattle.typing.proofs.Owes.{Owes, owes-start, owes_as, owes_more, owes-end}

-- an argument is told apart by its span alone
argument_by : (x i : ℕ) (e : Expr) (ps : List ClassicalType) (u : Option ClassicalType) → argument_says x i e ps u ≡ argument_at x i (expr_span e) ps u
unfolding argument_says argument_at unmet
argument_by x i e [] u = refl
argument_by x i e (p ∷ ps) u = refl

rest-drop : (i : ℕ) (ps : List ClassicalType) → rest (drop i ps) ≡ drop (suc i) ps
unfolding rest
rest-drop zero [] = refl
rest-drop zero (p ∷ ps) = refl
rest-drop (suc i) [] = refl
rest-drop (suc i) (p ∷ ps) = rest-drop i ps

module _ (ss : Symbols) (fs : Table FunctionSig) where
  -- with no parameters the arguments are checked by themselves
  all_free : (es : Exprs) (x i : ℕ) → check_all ss fs es ≡ check_arguments ss fs es x i []
  unfolding check_all argument_says rest
  all_free no_expr x i = refl
  all_free (more_expr e es) x i = rw (append-nil (check_expr ss fs e).says, all_free es x (suc i))

  abbrev said_of : ℕ → Exprs → Span → Option FunctionSig → Typing
  said_of x args sp f = record { type = callee_type f; says = callee_says f x (expr_count args) sp ++ check_arguments ss fs args x 0 (params_of f) }

  -- a call by what its function is
  call_by : (x : ℕ) (args : Exprs) (sp : Span) → check_expr ss fs (Expr.Call x args sp) ≡ said_of x args sp (fs x)
  unfolding check_expr callee_type callee_says
  call_by x args sp = go (fs x)
    where
      go : (f : Option FunctionSig) → elim f [
        | none ↦ untyped (error (Messages.function_not_defined x) sp ∷ check_all ss fs args)
        | some sig ↦ record {
          type = some sig.return_type;
          says =
              unless (eqb (expr_count args) (length sig.params))
              (error_with_note (Messages.function_arguments x (length sig.params) (expr_count args)) sp Messages.function_defined sig.decl_span)
              ++ check_arguments ss fs args x 0 sig.params;
        }
      ] ≡ said_of x args sp f
      go none = ap (λ ds. untyped (error (Messages.function_not_defined x) sp ∷ ds)) (all_free args x 0)
      go (some sig) = refl

-- the arguments from number i on stand from k on, behind the count, and what is said of them is still to be said
pub record Arguing (t : List Text) (ss : Symbols) (fs : Table FunctionSig) (left : ℕ) (tree : List ℕ) (at x : ℕ) (ps : List ClassicalType) (n : ℕ) (s₀ : Sink) (o₀ : List ℕ) (k i : ℕ) (s : Sink) (o : List ℕ) : Type 0 where
  pub remains : Remains no_expr more_expr (expr t left) tree (next_of (exprs (expr t left) tree at)) (n - i) k
  pub past : at < k
  pub owes : Owes t (given [] (λ es. check_arguments ss fs es x 0 ps) (exprs (expr t left) tree at)) s₀ o₀ (check_arguments ss fs (value_or no_expr (repeat no_expr more_expr (expr t left) (n - i) tree k)) x i (drop i ps)) s o

module _ {t : List Text} {ss : Symbols} {fs : Table FunctionSig} {left : ℕ} {tree : List ℕ} {at x : ℕ} {ps : List ClassicalType} {n : ℕ} {s₀ : Sink} {o₀ : List ℕ} where
  pub arguing_start : n ≡ get_or tree at 0 → IsOk (exprs (expr t left) tree at) → Arguing t ss fs left tree at x ps n s₀ o₀ (at + 1) 0 s₀ o₀
  arguing_start e h = record {
    remains = rw (sub-zero n) (remains-start no_expr more_expr (expr t left) tree at n h e);
    past = omega arith;
    owes = owes_as owes-start (given_ok no_expr [] (λ es. check_arguments ss fs es x 0 ps) (exprs (expr t left) tree at) h ∙ rw (sub-zero n, e, ← counted_is tree at no_expr more_expr (expr t left) h));
  }

  module _ {k i : ℕ} {s : Sink} {o : List ℕ} (a : Arguing t ss fs left tree at x ps n s₀ o₀ k i s o) where
    pub arguing_first : i < n → IsOk (expr t left tree k)
    arguing_first l = repeat-first tree k no_expr more_expr (expr t left) (n - i) a.remains.rest (omega arith)

    pub arguing_more : i < n → {v : TypingValue} {o₁ : List ℕ} {r : Sink} {o₂ : List ℕ} → TypingOf t ss fs (expr t left tree k) s o v o₁ → Emitted t (argument_at x i (span_at tree (v.next - 8)) (drop i ps) (typed_of v.typed)) v.sink o₁ r o₂ → Arguing t ss fs left tree at x ps n s₀ o₀ v.next (i + 1) r o₂
    unfolding check_arguments
    arguing_more l {v = v} p q =
        let m : 0 < n - i = omega arith in
        let e : Expr = value_or blank (expr t left tree k) in
        let less : n - i - 1 ≡ n - (i + 1) = omega arith in
        let h = arguing_first l in
        let f = found_of _ h p in
        let all = value_is (repeat_is tree k no_expr more_expr (expr t left) (n - i) a.remains.rest m v.next p.next blank) no_expr in
        let told : argument_at x i (span_at tree (v.next - 8)) (drop i ps) (typed_of v.typed) ≡ argument_says x i e (drop i ps) (check_expr ss fs e).type = rw (span-here t left tree k h v.next p.next, f.type) (sym (argument_by x i e (drop i ps) (check_expr ss fs e).type)) in
        let one = emitted_as (emitted_then f.emitted q) (ap (λ d. (check_expr ss fs e).says ++ d) told) in
        record {
          remains = rw less at (remains-more a.remains m p.next);
          past = omega (arith, a.past, p.next, of.expr_forward t left tree k h);
          owes = rw (add-one i, ← rest-drop i ps) (rw (less, add-one i) at (owes_more (owes_as a.owes (ap (λ es. check_arguments ss fs es x i (drop i ps)) all)) one));
        }

    pub arguing_end : n ≤ i → Emitted t (given [] (λ es. check_arguments ss fs es x 0 ps) (exprs (expr t left) tree at)) s₀ o₀ s o
    unfolding check_arguments
    arguing_end l =
        let z : n - i ≤ 0 = omega arith in
        owes-end (owes_as a.owes (ap (λ es. check_arguments ss fs es x i (drop i ps)) (value_is (repeat-none tree k no_expr more_expr (expr t left) (n - i) z) no_expr)))

-- a call
module _ (t : List Text) (ss : Symbols) (fs : Table FunctionSig) (left : ℕ) (s : List ℕ) (at : ℕ) (h : IsOk (expr t left s at)) (b : get_or s at 0 ≡ 5) where
  pub call_typing : {x k n : ℕ} {sp : Span} {d : Sink} {o : List ℕ} {f : Callee} {u : Maybe ClassicalType} {o₁ : List ℕ} {r : Sink} {o₂ : List ℕ} → x ≡ number_at 2 s (at + 1) → k ≡ next_of (exprs (expr t (left - 1)) s (at + 3)) → sp ≡ span_at s k → n ≡ get_or s (at + 3) 0 → CalleeOf t (fs x) x n sp d o f o₁ → Emitted t (given [] (λ es. check_arguments ss fs es x 0 (params_of (fs x))) (exprs (expr t (left - 1)) s (at + 3))) f.sink o₁ r o₂ → typed_of u ≡ callee_type (fs x) → TypingOf t ss fs (expr t left s at) d o (record { typed = u; next = k + 8; sink = r }) o₂
  call_typing {x = x} {k = k} {n = n} {sp = sp} e end g c p q ty =
      let a = of.call-args t left s at h b in
      let args : Exprs = value_or no_expr (exprs (expr t (left - 1)) s (at + 3)) in
      let many : n ≡ expr_count args = c ∙ sym (exprs-size (expr t (left - 1)) s (at + 3) a) in
      typing_is (of.call_is t left s at h b k end)
      (rw (← e, ← g, call_by ss fs x args sp) (record {
        next = refl;
        type = ty;
        emitted = emitted_then (rw many at p.emitted) (emitted_as q (given_ok no_expr [] (λ es. check_arguments ss fs es x 0 (params_of (fs x))) _ a));
      }))
