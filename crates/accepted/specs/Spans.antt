-- The span of an expression stands in its last eight bytes. Assumes nothing.
use Prim.Native.Nat.{ℕ, zero, suc, ◌+◌, ◌-◌, ◌≤◌}
use Rattle.std.specs.Prelude.{◌≡◌, List, length}
use Rattle.std.proofs.Math.Path.{refl}
use Rattle.std.proofs.Common.{sym, ap, ◌∙◌, arith}
use Rattle.std.proofs.Math.ListN.{get_or}
use Rattle.ast.specs.Tree.{Text, Expr}
use Rattle.tree.specs.Ans.{Ans, ok, IsOk, next_of}
use Rattle.tree.specs.Exprs.{expr}
use Rattle.tree.specs.Levels.{expr_levels}
use Rattle.sema.specs.Exprs.{expr_span}
use Rattle.context.specs.View.{span_at}
use Rattle.accepted.specs.Cases.{blank}
use Rattle.accepted.specs.Parts.{value_or, next_is, value_is}
use Rattle.accepted.specs.Levels.{level-below}
use Rattle.accepted.specs.Exprs as of

-- the span stands at a place, and the expression ends eight bytes behind it
pub record Ended (s : List ℕ) (x : Ans Expr) : Type 0 where
  pub place : ℕ
  pub is : expr_span (value_or blank x) ≡ span_at s place
  pub end : next_of x ≡ place + 8

module _ (t : List Text) (left : ℕ) (s : List ℕ) (at : ℕ) (h : IsOk (expr t left s at)) where
  ended_at : {e : Expr} {end : ℕ} (m : ℕ) → expr t left s at ≡ ok e end → expr_span e ≡ span_at s m → end ≡ m + 8 → Ended s (expr t left s at)
  ended_at m is f g = record { place = m; is = ap expr_span (value_is is blank) ∙ f; end = next_is is ∙ g }

  ended : Ended s (expr t left s at)
  unfolding expr_span
  ended = go (get_or s at 0) refl
    where
      go : (b : ℕ) → get_or s at 0 ≡ b → Ended s (expr t left s at)
      go zero e = ended_at (at + 9) (of.int_lit_is t left s at h e) refl (omega arith)
      go (suc zero) e = ended_at (at + 3) (of.float_lit_is t left s at h e) refl (omega arith)
      go (suc (suc zero)) e = ended_at (at + 2) (of.bool_lit_is t left s at h e) refl (omega arith)
      go (suc (suc (suc zero))) e = ended_at (at + 3) (of.ident_is t left s at h e) refl (omega arith)
      go (suc (suc (suc (suc zero)))) e = ended_at (at + 11) (of.index_is t left s at h e) refl (omega arith)
      go (suc (suc (suc (suc (suc zero))))) e = ended_at _ (of.call_is t left s at h e _ refl) refl refl
      go (suc (suc (suc (suc (suc (suc zero)))))) e = ended_at (at + 2) (of.const_is t left s at h e) refl (omega arith)
      go (suc (suc (suc (suc (suc (suc (suc zero))))))) e = ended_at _ (of.neg_is t left s at h e _ refl) refl refl
      go (suc (suc (suc (suc (suc (suc (suc (suc zero)))))))) e = ended_at _ (of.binary_is t left s at h e _ refl _ refl) refl refl
      go (suc (suc (suc (suc (suc (suc (suc (suc (suc zero))))))))) e = ended_at _ (of.compare_is t left s at h e _ refl _ refl) refl refl
      go (suc (suc (suc (suc (suc (suc (suc (suc (suc (suc b)))))))))) e = let l = level-below (expr_levels t) left s at h in absurd (omega arith)

  module _ (k : ℕ) (e : k ≡ next_of (expr t left s at)) where
    pub span-here : span_at s (k - 8) ≡ expr_span (value_or blank (expr t left s at))
    span-here =
        let w = ended in
        let p : k - 8 ≡ w.place = omega (arith, w.end) in
        rw p (sym w.is)

    pub span-room : 8 ≤ k
    span-room = let w = ended in omega (arith, w.end)

    pub span_in : k ≤ length s
    span_in = let l = of.expr-end t left s at h in omega arith
