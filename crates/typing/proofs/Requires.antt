-- What is asked of the type of an expression, for each way out of the code. Assumes nothing.
use Prim.Native.Nat.{ℕ, ◌-◌}
use mathlib.Core.Path.{◌≡◌, refl, sym, ap₂}
use mathlib.Core.Bool.{Bool, true, false}
use mathlib.Core.List.{List, []}
use mathlib.Core.Option.{none, some}
use Rattle.span.specs.declared.Span.{Span}
use Rattle.ast.specs.Tree.{Text}
use Rattle.ast.specs.declared.ClassicalType.{ClassicalType}
use Rattle.std.specs.Prelude.{Option as Maybe, Some, None}
use Rattle.tree.specs.Ans.{IsOk}
use Rattle.tree.specs.Stmts.{held}
use Rattle.sema.specs.Symbols.{Symbols, FunctionSig, Table}
use Rattle.sema.specs.Operands.{unless}
use Rattle.sema.specs.Exprs.{mismatch, not_numeric}
use Rattle.context.specs.declared.Sink.{Sink}
use Rattle.context.specs.declared.Typing.{Typing as TypingValue}
use Rattle.context.specs.Values.{typed_of}
use Rattle.context.specs.View.{span_at}
use Rattle.lines.specs.declared.Message.{Message}
use Rattle.lines.specs.declared.Diagnostic.{Diagnostic as DiagnosticValue}
use Rattle.lines.specs.Values.{diagnostic_of, error_of, Reported}
use Rattle.accepted.specs.Cases.{blank}
use Rattle.accepted.specs.Parts.{given_ok}
use Rattle.promises.specs.Emitted.{Emitted, emitted-none, emitted_then, emitted_as, unless_holds, unless_fails}
use Rattle.promises.specs.Typings.{TypingOf, SaidOf}
use Rattle.typing.specs.declared.Wanted.{Wanted}
use Rattle.typing.specs.Checks.{meets, complaint, unmet, require_says}
use Rattle.typing.proofs.Exprs.{found_of}
use Rattle.accepted.specs.Spans.{span-here}

unmet-none : (w : Wanted) (sp : Span) → unmet w sp none ≡ []
unfolding unmet mismatch not_numeric
unmet-none (Wanted.Assignable expected place) sp = refl
unmet-none (Wanted.Numeric message) sp = refl
unmet-none (Wanted.Argument expected i x) sp = refl

unmet-some : (w : Wanted) (sp : Span) (a : ClassicalType) → unmet w sp (some a) ≡ unless (meets w a) (diagnostic_of (error_of (complaint w a) sp))
unfolding unmet mismatch not_numeric
unmet-some (Wanted.Assignable expected place) sp a = refl
unmet-some (Wanted.Numeric message) sp a = refl
unmet-some (Wanted.Argument expected i x) sp a = refl

-- no type, a type as it is wanted, or another one
module _ {t : List Text} {s : Sink} {o : List ℕ} (w : Wanted) (sp : Span) {u : Maybe ClassicalType} where
  pub wanted_absent : u ≡ None → Emitted t (unmet w sp (typed_of u)) s o s o
  wanted_absent e = rw (e, unmet-none w sp) emitted-none

  module _ {a : ClassicalType} (e : u ≡ Some a) {b : Bool} (g : b ≡ meets w a) where
    pub wanted_right : b ≡ true → Emitted t (unmet w sp (typed_of u)) s o s o
    wanted_right c = rw (e, unmet-some w sp a, ← g) (unless_holds b _ c)

    pub wanted_wrong : {at : Span} {m : Message} {d : DiagnosticValue} {r : Sink} {o' : List ℕ} → b ≡ false → at ≡ sp → m ≡ complaint w a → d ≡ error_of m at → Reported t d s o r o' → Emitted t (unmet w sp (typed_of u)) s o r o'
    wanted_wrong c i j k p = rw (e, unmet-some w sp a, ← g) (unless_fails b c (rw (k, j, i) at p))

-- what is said of the expression's type is said behind what is said of the expression
module _ (t : List Text) (ss : Symbols) (fs : Table FunctionSig) (s : List ℕ) (at : ℕ) (h : IsOk (held t s at)) {k : Sink} {o : List ℕ} {v : TypingValue} {o₁ : List ℕ} (p : TypingOf t ss fs (held t s at) k o v o₁) (w : Wanted) where
  pub require_said : {r : Sink} {o₂ : List ℕ} → Emitted t (unmet w (span_at s (v.next - 8)) (typed_of v.typed)) v.sink o₁ r o₂ → SaidOf t (require_says ss fs w) (held t s at) k o (record { next = v.next; sink = r }) o₂
  require_said q =
      let f = found_of _ h p in
      record {
        next = p.next;
        emitted =
            emitted_as (emitted_then f.emitted (emitted_as q (ap₂ (unmet w) (span-here t 32 s at h v.next p.next) f.type)))
            (sym (given_ok blank [] (require_says ss fs w) (held t s at) h));
      }
