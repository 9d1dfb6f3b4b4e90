-- What the checks of expressions ask, and what the checks of their parts promise.
use Rattle.std.specs.Prelude.{ℕ, suc, ◌≡◌, Bool, cond, ◌&&◌, ◌||◌, List, [], ◌∷◌, ◌++◌, length, eqb}
use Rattle.std.proofs.Math.Option.{Option, none, some}
use Rattle.span.specs.declared.Span.{Span}
use Rattle.ast.specs.Tree.{Text, TextNumber, Expr}
use Rattle.ast.specs.declared.ClassicalType.{ClassicalType}
use Rattle.std.specs.Prelude.{Option as Maybe, Some, None}
use Rattle.types.specs.Types.{number_of, assignable_to, numeric, arithmetic_of}
use Rattle.sema.specs.Messages
use Rattle.sema.specs.Messages.{Diagnostic, error, error_with_note}
use Rattle.sema.specs.Symbols.{Symbols, FunctionSig, Table}
use Rattle.sema.specs.Operands.{unless}
use Rattle.sema.specs.Exprs.{Typing, expr_span, arithmetic_type, compare_type, mismatch, not_numeric, check_expr}
use Rattle.context.specs.declared.Sink.{Sink}
use Rattle.context.specs.declared.Typing.{Typing as TypingValue}
use Rattle.context.specs.Values.{typed_of}
use Rattle.lines.specs.declared.Message.{Message}
use Rattle.lines.specs.Values.{message_of, place_of, name_in, Below}
use Rattle.tables.specs.Tables.{brief_of}
use Rattle.promises.specs.Emitted.{Emitted}
use Rattle.typing.specs.declared.Callee.{Callee}
use Rattle.typing.specs.declared.Operator.{Operator}
use Rattle.typing.specs.declared.Wanted.{Wanted}

-- what an expression that ends there is found to be, and what is said of it
pub record Found (t : List Text) (ty : Typing) (end : ℕ) (s : Sink) (o : List ℕ) (r : TypingValue) (o' : List ℕ) : Type 0 where
  pub next : r.next ≡ end
  pub type : typed_of r.typed ≡ ty.type
  pub emitted : Emitted t ty.says s o r.sink o'

-- a type and nothing said
abbrev pub has_type : ClassicalType → ℕ → Sink → TypingValue
has_type ty next s = record { typed = Some ty; next = next; sink = s }

-- types that a comparison takes
abbrev pub comparable : ClassicalType → ClassicalType → Bool
comparable l r = eqb (number_of l) (number_of r) || (numeric l && numeric r)

-- an operator by its case byte
abbrev pub operator_of : ℕ → Operator
operator_of c = cond (eqb c 8) Operator.Arithmetic Operator.Comparison

unfoldable pub operation_type : Operator → Span → Option ClassicalType → Option ClassicalType → Typing
operation_type Operator.Arithmetic sp l r = arithmetic_type sp l r
operation_type Operator.Comparison sp l r = compare_type sp l r

-- its type on two types, and what is said where there is none
abbrev pub pair_type : Operator → ClassicalType → ClassicalType → Maybe ClassicalType
pair_type Operator.Arithmetic l r = arithmetic_of l r
pair_type Operator.Comparison l r = cond (comparable l r) (Some ClassicalType.Bool) None

abbrev pub pair_message : Operator → Message
pair_message Operator.Arithmetic = Message.ArithmeticNumeric
pair_message Operator.Comparison = Message.ComparisonTypes

-- what is asked of a type: whether it is so, what is said where it is not, and the text that is named there
abbrev pub meets : Wanted → ClassicalType → Bool
meets (Wanted.Assignable expected place) a = assignable_to expected a
meets (Wanted.Numeric message) a = numeric a
meets (Wanted.Argument expected i x) a = assignable_to expected a

abbrev pub complaint : Wanted → ClassicalType → Message
complaint (Wanted.Assignable expected place) a = Message.MustHaveType place expected a
complaint (Wanted.Numeric message) a = message
complaint (Wanted.Argument expected i x) a = Message.ArgumentType i x expected a

abbrev pub NamedBelow : ℕ → Wanted → Type 0
NamedBelow n w = (a : ClassicalType) → Below n (name_in (complaint w a))

unfoldable pub unmet : Wanted → Span → Option ClassicalType → List Diagnostic
unmet (Wanted.Assignable expected place) sp actual = mismatch (λ a. error (Messages.must_have_type (place_of place) expected a) sp) expected actual
unmet (Wanted.Numeric message) sp actual = not_numeric (error (message_of message) sp) actual
unmet (Wanted.Argument expected i x) sp actual = mismatch (λ a. error (Messages.argument_type i x expected a) sp) expected actual

-- what is said of an expression and of its type
abbrev pub require_says : Symbols → Table FunctionSig → Wanted → Expr → List Diagnostic
require_says ss fs wanted e = (check_expr ss fs e).says ++ unmet wanted (expr_span e) (check_expr ss fs e).type

-- the function that is called: the type of the call, and what is said before its arguments, of which there are so many
unfoldable pub callee_type : Option FunctionSig → Option ClassicalType
callee_type none = none
callee_type (some sig) = some sig.return_type

unfoldable pub callee_says : Option FunctionSig → TextNumber → ℕ → Span → List Diagnostic
callee_says none x n sp = error (Messages.function_not_defined x) sp ∷ []
callee_says (some sig) x n sp =
    unless (eqb n (length sig.params))
    (error_with_note (Messages.function_arguments x (length sig.params) n) sp Messages.function_defined sig.decl_span)

pub record CalleeOf (t : List Text) (f : Option FunctionSig) (x : TextNumber) (n : ℕ) (sp : Span) (s : Sink) (o : List ℕ) (r : Callee) (o' : List ℕ) : Type 0 where
  pub sig : r.sig ≡ brief_of f
  pub emitted : Emitted t (callee_says f x n sp) s o r.sink o'

-- an argument with that span against the parameter of its place, where there is one
unfoldable pub argument_at : TextNumber → ℕ → Span → List ClassicalType → Option ClassicalType → List Diagnostic
argument_at x i sp [] actual = []
argument_at x i sp (p ∷ ps) actual = unmet (Wanted.Argument p (suc i) x) sp actual
