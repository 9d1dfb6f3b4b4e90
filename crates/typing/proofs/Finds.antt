-- A type that is found, or an error said: what the ends of the code promise. Assumes nothing.
use Prim.Native.Nat.{ℕ}
use mathlib.Core.Path.{◌≡◌, refl}
use mathlib.Core.List.{List, [], ◌∷◌}
use Rattle.span.specs.declared.Span.{Span}
use Rattle.ast.specs.Tree.{Text}
use Rattle.ast.specs.declared.ClassicalType.{ClassicalType}
use Rattle.std.specs.Prelude.{None}
use Rattle.sema.specs.Exprs.{Typing, typed, untyped}
use Rattle.context.specs.declared.Sink.{Sink}
use Rattle.context.specs.declared.Typing.{Typing as TypingValue}
use Rattle.lines.specs.declared.Message.{Message}
use Rattle.lines.specs.declared.Diagnostic.{Diagnostic as DiagnosticValue}
use Rattle.lines.specs.Values.{diagnostic_of, error_of, Reported}
use Rattle.promises.specs.Emitted.{emitted-none, emitted_report}
use Rattle.typing.specs.Checks.{Found, has_type}

-- no type, and an error said at a span
abbrev pub refused : Message → Span → Typing
refused m sp = untyped (diagnostic_of (error_of m sp) ∷ [])

module _ {t : List Text} {s : Sink} {o : List ℕ} where
  module _ {end : ℕ} where
    pub found-typed : {ty : ClassicalType} {r : TypingValue} → r ≡ has_type ty end s → Found t (typed ty) end s o r o
    found-typed e = rw e (record { next = refl; type = refl; emitted = emitted-none })

    pub found_nothing : Found t (untyped []) end s o (record { typed = None; next = end; sink = s }) o
    found_nothing = record { next = refl; type = refl; emitted = emitted-none }

    pub found-error : {d : DiagnosticValue} {m : Message} {sp : Span} {r : Sink} {o' : List ℕ} → d ≡ error_of m sp → Reported t d s o r o' → Found t (refused m sp) end s o (record { typed = None; next = end; sink = r }) o'
    found-error e p = record { next = refl; type = refl; emitted = emitted_report e p }
