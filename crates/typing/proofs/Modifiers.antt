-- Modifiers, for each way out of the code. Assumes nothing.
use Prim.Native.Nat.{ℕ, ◌+◌}
use mathlib.Core.Path.{◌≡◌, refl, sym, ap, ◌∙◌}
use mathlib.Core.Bool.{Bool, true, false}
use mathlib.Core.List.{List, []}
use mathlib.Core.Option.{none}
use mathlib.Core.Logic.{⊎_elim}
use lib.ListN.{get_or}
use Rattle.span.specs.declared.Span.{Span}
use Rattle.ast.specs.Tree.{Text}
use Rattle.ast.specs.declared.ClassicalType.{ClassicalType}
use Rattle.tree.specs.Ans.{IsOk, next_of}
use Rattle.tree.specs.Read.{option}
use Rattle.tree.specs.Stmts.{held, modifier}
use Rattle.sema.specs.Messages
use Rattle.sema.specs.Messages.{error}
use Rattle.sema.specs.Operands.{unless}
use Rattle.sema.specs.Symbols.{Symbols, FunctionSig, Table}
use Rattle.sema.specs.Exprs.{require_type, require_numeric, control_says, check_modifier}
use Rattle.context.specs.declared.Sink.{Sink}
use Rattle.context.specs.declared.After.{After}
use Rattle.context.specs.View.{span_at}
use Rattle.lines.specs.declared.Message.{Message}
use Rattle.lines.specs.declared.Diagnostic.{Diagnostic as DiagnosticValue}
use Rattle.lines.specs.Values.{error_of, Reported}
use Rattle.accepted.specs.Cases.{blank}
use Rattle.accepted.specs.Parts.{next_is, given_is, given_ok}
use Rattle.accepted.specs.Fields.{option-none, option-held, option-some}
use Rattle.accepted.specs.Operands as of
use Rattle.std.specs.Prelude as rust
use Rattle.int128.specs.declared.Int128.{Int128}
use Rattle.context.specs.declared.Past.{Past}
use Rattle.constants.specs.Views.{whole_of, is_count, ValueOf}
use Rattle.constants.specs.Laws.{count_test}
use Rattle.promises.specs.Emitted.{Emitted, emitted-none, emitted_then, emitted_as, unless_holds, unless_fails}
use Rattle.promises.specs.Typings.{SaidOf}

-- the span of a control stands behind its count
abbrev span-behind : List Text → List ℕ → ℕ → Span
span-behind t s at = span_at s (next_of (option (held t) s at))

-- the count of a control
module _ (t : List Text) (ss : Symbols) (fs : Table FunctionSig) (s : List ℕ) (at : ℕ) where
  module _ (h : IsOk (option (held t) s at)) {k : Sink} {o : List ℕ} where
    pub control_absent : get_or s at 0 ≡ 0 → SaidOf t (λ arg. control_says ss fs arg (span-behind t s at)) (option (held t) s at) k o (record { next = at + 1; sink = k }) o
    unfolding control_says
    control_absent z =
        let is = option-none s at (held t) h z in
        record { next = sym (next_is is); emitted = emitted_as emitted-none (sym (given_is is [] (λ arg. control_says ss fs arg (span-behind t s at)))) }

    module _ (z : get_or s at 0 ≡ 0 → ⊥) {a : After} {o₁ : List ℕ} (p : SaidOf t (λ e. require_type ss fs e ClassicalType.Int Messages.control_argument) (held t s (at + 1)) k o a o₁) {e : Past (rust.Option Int128)} (v : ValueOf (held t s (at + 1)) e) {b : Bool} (c : b ≡ is_count (whole_of e.value)) where
      control-some : {r : Sink} {o₂ : List ℕ} → Emitted t (unless b (error Messages.control_count (span-behind t s at))) a.sink o₁ r o₂ → SaidOf t (λ arg. control_says ss fs arg (span-behind t s at)) (option (held t) s at) k o (record { next = a.next; sink = r }) o₂
      unfolding control_says
      control-some q =
          let g = option-held s at (held t) h z in
          let is = option-some s at (held t) h blank _ p.next z in
          record {
            next = sym (next_is is);
            emitted =
                emitted_as
                (emitted_then (emitted_as p.emitted (given_ok blank [] (λ e. require_type ss fs e ClassicalType.Int Messages.control_argument) _ g))
                (emitted_as q (ap (λ y. unless y (error Messages.control_count (span-behind t s at))) (count_test _ e g v b c))))
                (sym (given_is is [] (λ arg. control_says ss fs arg (span-behind t s at))));
          }

      pub control-right : b ≡ true → SaidOf t (λ arg. control_says ss fs arg (span-behind t s at)) (option (held t) s at) k o (record { next = a.next; sink = a.sink }) o₁
      control-right d = control-some (unless_holds b _ d)

      pub control-wrong : {sp : Span} {d : DiagnosticValue} {r : Sink} {o₂ : List ℕ} → b ≡ false → sp ≡ span_at s a.next → d ≡ error_of Message.ControlCount sp → Reported t d a.sink o₁ r o₂ → SaidOf t (λ arg. control_says ss fs arg (span-behind t s at)) (option (held t) s at) k o (record { next = a.next; sink = r }) o₂
      control-wrong f i j m =
          let same : a.next ≡ next_of (option (held t) s at) = sym (next_is (option-some s at (held t) h blank _ p.next z)) in
          control-some (unless_fails b f (rw (j, i, same) at m))

-- one modifier
module _ (t : List Text) (ss : Symbols) (fs : Table FunctionSig) (s : List ℕ) (at : ℕ) (h : IsOk (modifier t s at)) {k : Sink} {o : List ℕ} where
  pub inv-said : get_or s at 0 ≡ 2 → SaidOf t (check_modifier ss fs) (modifier t s at) k o (record { next = at + 9; sink = k }) o
  unfolding check_modifier
  inv-said b =
      let is = of.inv_is t s at h b in
      record { next = sym (next_is is); emitted = emitted_as emitted-none (sym (given_is is [] (check_modifier ss fs))) }

  module _ {a : After} {o' : List ℕ} where
    pub pow-said : get_or s at 0 ≡ 3 → SaidOf t (λ e. require_numeric ss fs e Messages.power_numeric) (held t s (at + 1)) k o a o' → SaidOf t (check_modifier ss fs) (modifier t s at) k o (record { next = a.next + 8; sink = a.sink }) o'
    unfolding check_modifier
    pow-said b p =
        let is = of.pow_is t s at h b _ p.next in
        record {
          next = sym (next_is is);
          emitted = emitted_as p.emitted (given_ok blank [] (λ e. require_numeric ss fs e Messages.power_numeric) _ (of.pow_exponent t s at h b) ∙ sym (given_is is [] (check_modifier ss fs)));
        }

-- `ctrl` and `negctrl` have one shape
module _ (t : List Text) (s : List ℕ) (at : ℕ) (h : IsOk (modifier t s at)) (n : get_or s at 0 ≡ 2 → ⊥) (o : get_or s at 0 ≡ 3 → ⊥) where
  module _ (ss : Symbols) (fs : Table FunctionSig) {k : Sink} {q : List ℕ} {a : After} {q' : List ℕ} (p : SaidOf t (λ arg. control_says ss fs arg (span-behind t s (at + 1))) (option (held t) s (at + 1)) k q a q') where
    pub control-said : SaidOf t (check_modifier ss fs) (modifier t s at) k q (record { next = a.next + 8; sink = a.sink }) q'
    unfolding check_modifier
    control-said =
        let here = emitted_as p.emitted (given_ok none [] (λ arg. control_says ss fs arg (span-behind t s (at + 1))) _ (of.control_count_lem t s at h n o)) in
        ⊎_elim
        (λ b. let is = of.ctrl_is t s at h b _ refl in record { next = ap (λ n. n + 8) p.next ∙ sym (next_is is); emitted = emitted_as here (sym (given_is is [] (check_modifier ss fs))) })
        (λ b. let is = of.neg_ctrl_is t s at h b _ refl in record { next = ap (λ n. n + 8) p.next ∙ sym (next_is is); emitted = emitted_as here (sym (given_is is [] (check_modifier ss fs))) })
        (of.control t s at h n o)
