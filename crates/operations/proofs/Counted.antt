-- The parts of a gate call as they are read: how many they are, and where they stand. Assumes nothing.
use Prim.Native.Nat.{ℕ, ◌+◌}
use mathlib.Core.Path.{◌≡◌, refl, sym, ap, ◌∙◌}
use mathlib.Core.List.{List}
use lib.ListN.{get_or}
use Rattle.std.specs.Prelude.{Option, Some, None, unwrap_or}
use Rattle.span.specs.declared.Span.{Span}
use Rattle.ast.specs.Tree.{Text}
use Rattle.tree.specs.Ans.{IsOk, next_of}
use Rattle.tree.specs.Read.{vec}
use Rattle.tree.specs.Exprs.{exprs}
use Rattle.tree.specs.Stmts.{held, modifier, operand, stmt}
use Rattle.sema.specs.Constants.{controls, or0}
use Rattle.context.specs.View.{number_at, span_at}
use Rattle.accepted.specs.Cases.{blank_operand}
use Rattle.accepted.specs.Counts.{vec_size, exprs-size}
use Rattle.accepted.specs.Stmts.{gate_call-modifiers, gate_call-params, gate_call-args}
use Rattle.context.specs.declared.Past.{Past}
use Rattle.constants.specs.Views.{total_of, TotalOf}
use Rattle.constants.specs.Laws.{total_of_lem}
use Rattle.operations.specs.Calls.{CallOf}

-- a total, or 0
total_is : (o : Option ℕ) → unwrap_or o 0 ≡ or0 (total_of o)
unfolding total_of
total_is None = refl
total_is (Some n) = refl

module _ (t : List Text) (left : ℕ) (s : List ℕ) (at : ℕ) (h : IsOk (stmt t left s at)) (b : get_or s at 0 ≡ 5) where
  pub call-read : {c : Past (Option ℕ)} → TotalOf (vec (modifier t) s (at + 3)) c
      → {m : ℕ} → m ≡ next_of (exprs (held t) s c.next) → {n : ℕ} → n ≡ next_of (vec (operand t) s m)
      → {x params args ctl : ℕ} {sp : Span} → x ≡ number_at 2 s (at + 1) → params ≡ get_or s c.next 0 → args ≡ get_or s m 0 → ctl ≡ unwrap_or c.value 0 → sp ≡ span_at s n
      → CallOf t s at (record { name = x; params = params; args = args; controls = ctl; params_at = c.next; args_at = m; end = n; span = sp })
  unfolding controls
  call-read {c} p {m} e f g i j k l =
      let ms = gate_call-modifiers t left s at h b in
      let ps = gate_call-params t left s at h b c.next p.next in
      let ops = gate_call-args t left s at h b c.next p.next m e in
      record {
        name = g;
        params_at = p.next;
        args_at = e;
        end = f;
        span = l;
        params = i ∙ sym (exprs-size (held t) s c.next ps);
        args = j ∙ sym (vec_size blank_operand (operand t) s m ops);
        controls = k ∙ total_is c.value ∙ ap or0 (total_of_lem _ c ms p);
      }
