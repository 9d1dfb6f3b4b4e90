-- What the checks of expressions promise of an expression that was read. Assumes nothing.
use Rattle.std.specs.Prelude.{◌≡◌, List, [], ℕ}
use Rattle.std.proofs.Math.Option.{none}
use Rattle.ast.specs.Tree.{Text, Expr}
use Rattle.tree.specs.Ans.{Ans, next_of, given}
use Rattle.sema.specs.Messages.{Diagnostic}
use Rattle.sema.specs.Symbols.{Symbols, FunctionSig, Table, empty}
use Rattle.sema.specs.Marks.{no_marks}
use Rattle.sema.specs.Exprs.{check_expr}
use Rattle.sema.specs.Stmts.{SemaContext}
use Rattle.context.specs.declared.Sink.{Sink}
use Rattle.context.specs.declared.Typing.{Typing}
use Rattle.context.specs.declared.After.{After}
use Rattle.context.specs.Values.{typed_of}
use Rattle.promises.specs.Emitted.{Emitted}

-- the type of the expression, what is said of it, and the place past it
pub record TypingOf (t : List Text) (ss : Symbols) (fs : Table FunctionSig) (x : Ans Expr) (s : Sink) (o : List ℕ) (r : Typing) (o' : List ℕ) : Type 0 where
  pub next : r.next ≡ next_of x
  pub type : typed_of r.typed ≡ given none (λ e. (check_expr ss fs e).type) x
  pub emitted : Emitted t (given [] (λ e. (check_expr ss fs e).says) x) s o r.sink o'

-- what `says` of the value that was read, and the place past it
pub record SaidOf {A : Type 0} (t : List Text) (says : A → List Diagnostic) (x : Ans A) (s : Sink) (o : List ℕ) (r : After) (o' : List ℕ) : Type 0 where
  pub next : r.next ≡ next_of x
  pub emitted : Emitted t (given [] says x) s o r.sink o'

-- the symbols and the functions alone, where nothing else of the context plays a part
abbrev pub plain_context : Symbols → Table FunctionSig → SemaContext
plain_context ss fs = record { symbols = ss; gates = empty; functions = fs; measured = no_marks }
