-- A minus and an operation, for each way out of the code. Assumes nothing.
use Prim.Native.Nat.{ℕ}
use mathlib.Core.Path.{◌≡◌, refl}
use mathlib.Core.Bool.{Bool, true, false, cond, ◌&&◌}
use mathlib.Core.List.{List, []}
use mathlib.Core.Option.{Option, none, some}
use Rattle.span.specs.declared.Span.{Span}
use Rattle.ast.specs.Tree.{Text}
use Rattle.ast.specs.declared.ClassicalType.{ClassicalType}
use Rattle.std.specs.Prelude.{Option as Maybe, Some, None}
use Rattle.types.specs.Types.{numeric, larger, arithmetic_of}
use Rattle.sema.specs.Exprs.{Typing, typed, untyped, neg_type, arithmetic_type, compare_type}
use Rattle.context.specs.declared.Sink.{Sink}
use Rattle.context.specs.declared.Typing.{Typing as TypingValue}
use Rattle.context.specs.Values.{typed_of}
use Rattle.lines.specs.declared.Message.{Message}
use Rattle.typing.specs.declared.Operator.{Operator}
use Rattle.typing.specs.Checks.{Found, has_type, comparable, operation_type, pair_type, pair_message}
use Rattle.typing.proofs.Finds.{refused, found-typed, found_nothing}

abbrev untold : ℕ → Sink → TypingValue
untold end s = record { typed = None; next = end; sink = s }

-- an operation by the types of its operands
unfoldable outcome : Message → Span → Maybe ClassicalType → Typing
outcome m sp (Some ty) = typed ty
outcome m sp None = refused m sp

module _ (sp : Span) where
  without-left : (q : Operator) (r : Option ClassicalType) → operation_type q sp none r ≡ untyped []
  unfolding operation_type arithmetic_type compare_type
  without-left Operator.Arithmetic r = refl
  without-left Operator.Comparison r = refl

  without-right : (q : Operator) (a : ClassicalType) → operation_type q sp (some a) none ≡ untyped []
  unfolding operation_type arithmetic_type compare_type
  without-right Operator.Arithmetic a = refl
  without-right Operator.Comparison a = refl

  with_both : (q : Operator) (a b : ClassicalType) → operation_type q sp (some a) (some b) ≡ outcome (pair_message q) sp (pair_type q a b)
  unfolding operation_type arithmetic_type compare_type arithmetic_of outcome
  with_both Operator.Arithmetic a b = go (numeric a && numeric b)
    where
      go : (y : Bool) → cond y (typed (larger a b)) (refused Message.ArithmeticNumeric sp) ≡ outcome Message.ArithmeticNumeric sp (cond y (Some (larger a b)) None)
      go true = refl
      go false = refl
  with_both Operator.Comparison a b = go (comparable a b)
    where
      go : (z : Bool) → cond z (typed ClassicalType.Bool) (refused Message.ComparisonTypes sp) ≡ outcome Message.ComparisonTypes sp (cond z (Some ClassicalType.Bool) None)
      go true = refl
      go false = refl

-- nothing is said where an operand has no type
module _ {t : List Text} {end : ℕ} {s : Sink} {o : List ℕ} (sp : Span) where
  pub neg-untyped : {u : Maybe ClassicalType} → u ≡ None → Found t (neg_type sp (typed_of u)) end s o (record { typed = u; next = end; sink = s }) o
  unfolding neg_type
  neg-untyped e = rw e found_nothing

  module _ (c : Operator) {u : Maybe ClassicalType} where
    pub operation-left : (v : Maybe ClassicalType) → u ≡ None → Found t (operation_type c sp (typed_of u) (typed_of v)) end s o (untold end s) o
    operation-left v e = rw (e, without-left sp c (typed_of v)) found_nothing

    pub operation-right : {v : Maybe ClassicalType} {a : ClassicalType} → u ≡ Some a → v ≡ None → Found t (operation_type c sp (typed_of u) (typed_of v)) end s o (untold end s) o
    operation-right {a = a} e g = rw (e, g, without-right sp c a) found_nothing

-- both operands have types, and these go together
module _ {t : List Text} {end : ℕ} {s : Sink} {o : List ℕ} (sp : Span) where
  pub neg-typed : {u : Maybe ClassicalType} {ty : ClassicalType} {b : Bool} → u ≡ Some ty → b ≡ numeric ty → b ≡ true → Found t (neg_type sp (typed_of u)) end s o (record { typed = u; next = end; sink = s }) o
  unfolding neg_type
  neg-typed e n h = rw (e, ← n, h) (found-typed refl)

  pub operation-typed : (c : Operator) {u v q : Maybe ClassicalType} {a b ty : ClassicalType} {r : TypingValue} → u ≡ Some a → v ≡ Some b → q ≡ pair_type c a b → q ≡ Some ty → r ≡ has_type ty end s → Found t (operation_type c sp (typed_of u) (typed_of v)) end s o r o
  unfolding outcome
  operation-typed c {a = a} {b = b} e g h k p = rw (e, g, with_both sp c a b, ← h, k) (found-typed p)

-- or they do not
module _ {t : List Text} {end : ℕ} {s : Sink} {o : List ℕ} {r : TypingValue} {o' : List ℕ} {at sp : Span} (here : at ≡ sp) where
  pub neg-refused : {u : Maybe ClassicalType} {ty : ClassicalType} {b : Bool} → u ≡ Some ty → b ≡ numeric ty → b ≡ false → Found t (refused Message.NegationNumeric at) end s o r o' → Found t (neg_type sp (typed_of u)) end s o r o'
  unfolding neg_type
  neg-refused e n h p = rw (e, ← here, ← n, h) p

  pub operation-refused : (c : Operator) {u v q : Maybe ClassicalType} {a b : ClassicalType} {m : Message} → u ≡ Some a → v ≡ Some b → q ≡ pair_type c a b → q ≡ None → m ≡ pair_message c → Found t (refused m at) end s o r o' → Found t (operation_type c sp (typed_of u) (typed_of v)) end s o r o'
  unfolding outcome
  operation-refused c {a = a} {b = b} e g h k n p = rw (e, g, with_both sp c a b, ← h, k, ← n, ← here) p
