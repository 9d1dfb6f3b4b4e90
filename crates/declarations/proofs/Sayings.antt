-- What the reports say, for each way out of them. Assumes nothing.
use Prim.Native.Nat.{ℕ}
use mathlib.Core.Path.{◌≡◌, sym}
use mathlib.Core.List.{List, []}
use mathlib.Core.Bool.{◌&&◌, ◌||◌}
use Rattle.span.specs.declared.Span.{Span}
use Rattle.ast.specs.Tree.{Text}
use Rattle.ast.specs.declared.ClassicalType.{ClassicalType}
use Rattle.std.specs.Prelude.{Option as Maybe, Some, None}
use Rattle.types.specs.Types.{assignable_to, numeric}
use Rattle.sema.specs.Messages
use Rattle.sema.specs.Messages.{Diagnostic, error}
use Rattle.sema.specs.Operands.{unless}
use Rattle.sema.specs.Exprs.{expr_span, mismatch}
use Rattle.sema.specs.Stmts.{is_assign, assign_says}
use Rattle.ast.specs.declared.AssignOp.{AssignOp}
use Rattle.context.specs.declared.Sink.{Sink}
use Rattle.context.specs.Values.{typed_of}
use Rattle.lines.specs.declared.Message.{Message}
use Rattle.lines.specs.Values.{diagnostic_of, error_of}
use Rattle.promises.specs.Emitted.{Emitted, emitted-none, emitted_then, emitted_as}
use Rattle.declarations.specs.Says.{spanned}

module _ {t : List Text} {s : Sink} {o : List ℕ} where
  -- nothing is said
  pub silent : {ds : List Diagnostic} → ds ≡ [] → Emitted t ds s o s o
  silent e = emitted_as emitted-none (sym e)

  pub mismatch-none : (d : ClassicalType → Diagnostic) (expected : ClassicalType) (ty : Maybe ClassicalType) → ty ≡ None → Emitted t (mismatch d expected (typed_of ty)) s o s o
  unfolding mismatch
  mismatch-none d expected ty e = silent (rw e)

  module _ {r : Sink} {o' : List ℕ} where
    pub assign_some : {q : Sink} {o'' : List ℕ} (x : ℕ) (op : AssignOp) (v sp : Span) (expected actual : ClassicalType) (ty : Maybe ClassicalType) → ty ≡ Some actual
        → Emitted t (unless (assignable_to expected actual) (diagnostic_of (error_of (Message.CannotAssign actual expected x) v))) s o q o''
        → Emitted t (unless (is_assign op || (numeric expected && numeric actual)) (error Messages.compound_numeric sp)) q o'' r o'
        → Emitted t (assign_says x op (spanned v) sp expected (typed_of ty)) s o r o'
    unfolding assign_says expr_span
    assign_some x op v sp expected actual ty e a b = emitted_as (emitted_then a b) (rw e)

    pub mismatch-some : (d : ClassicalType → Diagnostic) (expected actual : ClassicalType) (ty : Maybe ClassicalType) → ty ≡ Some actual → Emitted t (unless (assignable_to expected actual) (d actual)) s o r o' → Emitted t (mismatch d expected (typed_of ty)) s o r o'
    unfolding mismatch
    mismatch-some d expected actual ty e h = emitted_as h (rw e)
