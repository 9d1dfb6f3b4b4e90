-- The value of an expression from the values of its parts, for each way out of the evaluator. Assumes nothing.
use Prim.Native.Nat.{ℕ, zero, suc, ◌+◌, ◌-◌}
use mathlib.Core.Path.{◌≡◌, refl, sym, ap, ◌∙◌}
use mathlib.Core.List.{List}
use mathlib.Core.Option.{none}
use mathlib.Core.Logic.{inl}
use mathlib.Core.Bool.{false}
use native.Mathlib.Omega.{arith}
use lib.ListN.{get_or}
use lib.IntN.{neg_ℤ}
use Rattle.std.specs.Prelude.{Option, Some, None}
use Rattle.int128.specs.declared.Int128.{Int128}
use Rattle.int128.specs.Whole.{int128}
use Rattle.ast.specs.declared.BinOp.{BinOp}
use Rattle.ast.specs.Tree.{Text}
use Rattle.tree.specs.Ans.{IsOk, next_of, given}
use Rattle.tree.specs.Exprs.{expr}
use Rattle.tree.specs.Levels.{expr_levels}
use Rattle.context.specs.View.{number_at}
use Rattle.sema.specs.Constants.{and_then, within, eval_const_int}
use Rattle.accepted.specs.Cases.{bin_op_of}
use Rattle.accepted.specs.Parts.{next_is, given_is}
use Rattle.accepted.specs.Levels.{level-below}
use Rattle.accepted.specs.Exprs as of
use Rattle.context.specs.declared.Past.{Past}
use Rattle.constants.specs.Views.{whole_of, combined, ValueOf}
use Rattle.constants.specs.Laws.{value_of}
use Rattle.constants.proofs.Whole.{whole_word}

module _ (t : List Text) (left : ℕ) (s : List ℕ) (at : ℕ) (h : IsOk (expr t left s at)) where
  pub int-value : get_or s at 0 ≡ 0 → (n : ℕ) → n ≡ number_at 8 s (at + 1) → (i : Int128) → i ≡ int128 false n → ValueOf (expr t left s at) (record { value = Some i; next = at + 17 })
  unfolding eval_const_int
  int-value b n e i f =
      let is = of.int_lit_is t left s at h b in
      record {
        next = sym (next_is is);
        value = rw (f, e) (whole_word _) ∙ sym (given_is is none eval_const_int);
      }

  pub neg_value : get_or s at 0 ≡ 7 → (e : Past (Option Int128)) → ValueOf (expr t (left - 1) s (at + 1)) e → (v : Option Int128) → whole_of v ≡ and_then (whole_of e.value) (λ z. within (neg_ℤ z)) → ValueOf (expr t left s at) (record { value = v; next = e.next + 8 })
  unfolding eval_const_int
  neg_value b e p v f =
      let is = of.neg_is t left s at h b _ p.next in
      record {
        next = sym (next_is is);
        value = f ∙ ap (λ o. and_then o (λ z. within (neg_ℤ z))) (value_of _ e (of.neg_inner t left s at h b) p) ∙ sym (given_is is none eval_const_int);
      }

  pub pair_value : get_or s at 0 ≡ 8 → (l : Past (Option Int128)) → ValueOf (expr t (left - 1) s (at + 2)) l → (r : Past (Option Int128)) → ValueOf (expr t (left - 1) s l.next) r → (op : BinOp) → op ≡ bin_op_of (get_or s (at + 1) 0) → (v : Option Int128) → whole_of v ≡ combined op (whole_of l.value) (whole_of r.value) → ValueOf (expr t left s at) (record { value = v; next = r.next + 8 })
  unfolding eval_const_int combined
  pair_value b l p r q op o v f =
      let is = of.binary_is t left s at h b _ p.next _ q.next in
      let first = value_of _ l (of.pair_lhs t left s at h (inl b)) p in
      let second = value_of _ r (of.pair_rhs t left s at h (inl b) _ p.next) q in
      record {
        next = sym (next_is is);
        value = f ∙ rw (first, second, o) refl ∙ sym (given_is is none eval_const_int);
      }

  -- the other cases have no value
  no_value : (b : ℕ) → get_or s at 0 ≡ b → (b ≡ 0 → ⊥) → (b ≡ 7 → ⊥) → (b ≡ 8 → ⊥) → given none eval_const_int (expr t left s at) ≡ none
  unfolding eval_const_int
  no_value zero e i n o = absurd (i refl)
  no_value (suc zero) e i n o = given_is (of.float_lit_is t left s at h e) none eval_const_int
  no_value (suc (suc zero)) e i n o = given_is (of.bool_lit_is t left s at h e) none eval_const_int
  no_value (suc (suc (suc zero))) e i n o = given_is (of.ident_is t left s at h e) none eval_const_int
  no_value (suc (suc (suc (suc zero)))) e i n o = given_is (of.index_is t left s at h e) none eval_const_int
  no_value (suc (suc (suc (suc (suc zero))))) e i n o = given_is (of.call_is t left s at h e _ refl) none eval_const_int
  no_value (suc (suc (suc (suc (suc (suc zero)))))) e i n o = given_is (of.const_is t left s at h e) none eval_const_int
  no_value (suc (suc (suc (suc (suc (suc (suc zero))))))) e i n o = absurd (n refl)
  no_value (suc (suc (suc (suc (suc (suc (suc (suc zero)))))))) e i n o = absurd (o refl)
  no_value (suc (suc (suc (suc (suc (suc (suc (suc (suc zero))))))))) e i n o = given_is (of.compare_is t left s at h e _ refl _ refl) none eval_const_int
  no_value (suc (suc (suc (suc (suc (suc (suc (suc (suc (suc b)))))))))) e i n o = let l = level-below (expr_levels t) left s at h in absurd (omega arith)

  pub other-value : (get_or s at 0 ≡ 0 → ⊥) → (get_or s at 0 ≡ 7 → ⊥) → (get_or s at 0 ≡ 8 → ⊥) → (k : ℕ) → k ≡ next_of (expr t left s at) → ValueOf (expr t left s at) (record { value = None; next = k })
  unfolding whole_of
  other-value i n o k e = record { next = e; value = sym (no_value (get_or s at 0) refl i n o) }

pub ruleset evaluating = (of.expr_in, of.expr_left, of.int_lit-inside, of.neg_inner, of.pair_lhs, of.pair_rhs, of.pair_inside, other-value)
