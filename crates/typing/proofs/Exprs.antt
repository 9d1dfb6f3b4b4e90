-- The type of an expression from those of its parts, for each way out of the check. Assumes nothing.
use Prim.Native.Nat.{ℕ, ◌+◌, ◌-◌}
use mathlib.Core.Path.{◌≡◌, sym, ap, ap₂, ◌∙◌}
use mathlib.Core.List.{List, [], ◌++◌}
use mathlib.Core.Option.{Option, none}
use mathlib.Core.Logic.{⊎_elim}
use lib.ListN.{get_or}
use Rattle.span.specs.declared.Span.{Span}
use Rattle.ast.specs.Tree.{Text, Expr}
use Rattle.ast.specs.declared.ClassicalType.{ClassicalType}
use Rattle.tree.specs.Ans.{Ans, ok, IsOk, next_of}
use Rattle.tree.specs.Exprs.{expr}
use Rattle.sema.specs.Symbols.{Symbols, FunctionSig, Table}
use Rattle.sema.specs.Exprs.{Typing, neg_type, arithmetic_type, compare_type, check_expr}
use Rattle.context.specs.declared.Sink.{Sink}
use Rattle.context.specs.declared.Typing.{Typing as TypingValue}
use Rattle.context.specs.Values.{typed_of}
use Rattle.context.specs.View.{number_at, span_at}
use Rattle.accepted.specs.Cases.{blank}
use Rattle.accepted.specs.Parts.{value_or, next_is, given_is, given_ok}
use Rattle.accepted.specs.Exprs as of
use Rattle.promises.specs.Emitted.{emitted_then, emitted_as}
use Rattle.promises.specs.Typings.{TypingOf}
use Rattle.typing.specs.declared.Operator.{Operator}
use Rattle.typing.specs.Checks.{Found, has_type, operator_of, operation_type}
use Rattle.typing.proofs.Finds.{found-typed}

module _ {t : List Text} {ss : Symbols} {fs : Table FunctionSig} {s : Sink} {o : List ℕ} {r : TypingValue} {o' : List ℕ} where
  -- an answer that is an expression
  pub typing_is : {x : Ans Expr} {e : Expr} {end : ℕ} → x ≡ ok e end → Found t (check_expr ss fs e) end s o r o' → TypingOf t ss fs x s o r o'
  typing_is is p = record {
    next = p.next ∙ sym (next_is is);
    type = p.type ∙ sym (given_is is none (λ e. (check_expr ss fs e).type));
    emitted = emitted_as p.emitted (sym (given_is is [] (λ e. (check_expr ss fs e).says)));
  }

  pub found_of : (x : Ans Expr) → IsOk x → TypingOf t ss fs x s o r o' → Found t (check_expr ss fs (value_or blank x)) (next_of x) s o r o'
  found_of x h p = record {
    next = p.next;
    type = p.type ∙ given_ok blank none (λ e. (check_expr ss fs e).type) x h;
    emitted = emitted_as p.emitted (given_ok blank [] (λ e. (check_expr ss fs e).says) x h);
  }

-- two operands, and behind them what is found of their types
abbrev together : Typing → Typing → (Option ClassicalType → Option ClassicalType → Typing) → Typing
together x y kind = let n = kind x.type y.type in record { type = n.type; says = x.says ++ (y.says ++ n.says) }

-- a minus and its operand, an operation and its operands
module _ {t : List Text} {s : Sink} {o : List ℕ} {a : TypingValue} {o₁ : List ℕ} {k : ℕ} where
  neg-found : (ss : Symbols) (fs : Table FunctionSig) (l : Expr) → Found t (check_expr ss fs l) k s o a o₁ → (sp : Span) {end : ℕ} {r : TypingValue} {o' : List ℕ} → Found t (neg_type sp (typed_of a.typed)) end a.sink o₁ r o' → Found t (check_expr ss fs (Expr.Neg l sp)) end s o r o'
  unfolding check_expr
  neg-found ss fs l p sp q = record {
    next = q.next;
    type = q.type ∙ ap (λ u. (neg_type sp u).type) p.type;
    emitted = emitted_as (emitted_then p.emitted q.emitted) (ap (λ u. (check_expr ss fs l).says ++ (neg_type sp u).says) p.type);
  }

  pair_found : {x y : Typing} → Found t x k s o a o₁ → {b : TypingValue} {o₂ : List ℕ} {m : ℕ} → Found t y m a.sink o₁ b o₂ → (kind : Option ClassicalType → Option ClassicalType → Typing) {end : ℕ} {r : TypingValue} {o' : List ℕ} → Found t (kind (typed_of a.typed) (typed_of b.typed)) end b.sink o₂ r o' → Found t (together x y kind) end s o r o'
  pair_found {x = x} {y = y} p q kind f = record {
    next = f.next;
    type = f.type ∙ ap₂ (λ u v. (kind u v).type) p.type q.type;
    emitted =
        emitted_as (emitted_then p.emitted (emitted_then q.emitted f.emitted))
        (ap₂ (λ u v. x.says ++ (y.says ++ (kind u v).says)) p.type q.type);
  }

module _ (t : List Text) (left : ℕ) (s : List ℕ) (at : ℕ) (h : IsOk (expr t left s at)) {ss : Symbols} {fs : Table FunctionSig} {k : Sink} {o : List ℕ} {r : TypingValue} where
  -- literals and constants
  pub int_typing : get_or s at 0 ≡ 0 → r ≡ has_type ClassicalType.Int (at + 17) k → TypingOf t ss fs (expr t left s at) k o r o
  unfolding check_expr
  int_typing b e = typing_is (of.int_lit_is t left s at h b) (found-typed e)

  pub float_typing : get_or s at 0 ≡ 1 → r ≡ has_type ClassicalType.Float (at + 11) k → TypingOf t ss fs (expr t left s at) k o r o
  unfolding check_expr
  float_typing b e = typing_is (of.float_lit_is t left s at h b) (found-typed e)

  pub bool_typing : get_or s at 0 ≡ 2 → r ≡ has_type ClassicalType.Bool (at + 10) k → TypingOf t ss fs (expr t left s at) k o r o
  unfolding check_expr
  bool_typing b e = typing_is (of.bool_lit_is t left s at h b) (found-typed e)

  pub const_typing : get_or s at 0 ≡ 6 → r ≡ has_type ClassicalType.Float (at + 10) k → TypingOf t ss fs (expr t left s at) k o r o
  unfolding check_expr
  const_typing b e = typing_is (of.const_is t left s at h b) (found-typed e)

  -- names
  module _ {o' : List ℕ} where
    pub ident_typing : get_or s at 0 ≡ 3 → Found t (check_expr ss fs (Expr.Ident (number_at 2 s (at + 1)) (span_at s (at + 3)))) (at + 11) k o r o' → TypingOf t ss fs (expr t left s at) k o r o'
    ident_typing b p = typing_is (of.ident_is t left s at h b) p

    pub index_typing : get_or s at 0 ≡ 4 → Found t (check_expr ss fs (Expr.Index (number_at 2 s (at + 1)) (number_at 8 s (at + 3)) (span_at s (at + 11)))) (at + 19) k o r o' → TypingOf t ss fs (expr t left s at) k o r o'
    index_typing b p = typing_is (of.index_is t left s at h b) p

    -- operators
    module _ {a : TypingValue} {o₁ : List ℕ} where
      pub neg_typing : get_or s at 0 ≡ 7 → TypingOf t ss fs (expr t (left - 1) s (at + 1)) k o a o₁ → Found t (neg_type (span_at s a.next) (typed_of a.typed)) (a.next + 8) a.sink o₁ r o' → TypingOf t ss fs (expr t left s at) k o r o'
      neg_typing b p q = typing_is (of.neg_is t left s at h b _ p.next) (neg-found ss fs _ (found_of _ (of.neg_inner t left s at h b) p) _ q)

      pub pair_typing : {v : TypingValue} {o₂ : List ℕ} → of.Operation t left s at h → TypingOf t ss fs (expr t (left - 1) s (at + 2)) k o a o₁ → TypingOf t ss fs (expr t (left - 1) s a.next) a.sink o₁ v o₂ → {c : Operator} → c ≡ operator_of (get_or s at 0) → Found t (operation_type c (span_at s v.next) (typed_of a.typed) (typed_of v.typed)) (v.next + 8) v.sink o₂ r o' → TypingOf t ss fs (expr t left s at) k o r o'
      unfolding check_expr operation_type
      pair_typing {v = v} b p q e f =
          let lhs = found_of _ (of.pair_lhs t left s at h b) p in
          let rhs = found_of _ (of.pair_rhs t left s at h b _ p.next) q in
          ⊎_elim
          (λ c. typing_is (of.binary_is t left s at h c _ p.next _ q.next) (pair_found lhs rhs (arithmetic_type (span_at s v.next)) (rw (e, c) at f)))
          (λ c. typing_is (of.compare_is t left s at h c _ p.next _ q.next) (pair_found lhs rhs (compare_type (span_at s v.next)) (rw (e, c) at f)))
          b
