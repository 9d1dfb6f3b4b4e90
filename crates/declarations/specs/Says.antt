-- What the checks of this crate say, by parts of the analysis' definitions.
use Rattle.std.specs.Prelude.{List, [], ◌∷◌, ◌++◌, Bool, false, ◌&&◌, not}
use Rattle.std.proofs.Math.Option.{Option, none, some}
use Rattle.span.specs.declared.Span.{Span}
use Rattle.ast.specs.Tree.{TextNumber, Expr}
use Rattle.ast.specs.declared.ClassicalType.{ClassicalType}
use Rattle.ast.specs.declared.ClassicalQualifier.{ClassicalQualifier}
use Rattle.ast.specs.declared.AssignOp.{AssignOp}
use Rattle.sema.specs.Messages
use Rattle.sema.specs.Messages.{Diagnostic, error, error_with_note}
use Rattle.sema.specs.Symbols.{Symbol, Symbols, FunctionSig, Table}
use Rattle.sema.specs.Operands.{is_some, unless}
use Rattle.sema.specs.Exprs.{expr_span, mismatch, check_expr}
use Rattle.sema.specs.Stmts.{is_const, is_input, init_says, target_says}

-- what a declaration says where its scope had this symbol
unfoldable pub declared_says : Option Symbol → TextNumber → Span → List Diagnostic
declared_says none x sp = []
declared_says (some prev) x sp = error_with_note (Messages.already_declared x) sp (Messages.first_declared x) prev.decl_span ∷ []

-- what a function definition says where its name had this function
unfoldable pub defined_says : Option FunctionSig → TextNumber → Span → List Diagnostic
defined_says none x sp = []
defined_says (some prev) x sp = error_with_note (Messages.function_already_defined x) sp Messages.first_defined prev.decl_span ∷ []

-- what is said of a qualifier, where there is an initializer or not
unfoldable pub qualifier_says : Option ClassicalQualifier → Bool → TextNumber → Span → List Diagnostic
qualifier_says q init x sp =
    unless (not (is_const q && not init)) (error (Messages.const_without_init x) sp)
    ++ unless (not (is_input q && init)) (error (Messages.input_with_init x) sp)

-- what is said of a classical declaration besides what its name says
unfoldable pub classical_rest : Symbols → Table FunctionSig → Option ClassicalQualifier → ClassicalType → TextNumber → Option Expr → Span → List Diagnostic
classical_rest ss fs q ty x init sp = qualifier_says q (is_some init) x sp ++ init_says ss fs ty x init

-- what is said of a function's body
unfoldable pub body_says : Symbols → Table FunctionSig → TextNumber → ClassicalType → Expr → List Diagnostic
body_says ss fs x ty body =
    let a = check_expr ss fs body in
    a.says ++ mismatch (λ actual. error (Messages.function_returns x ty actual) (expr_span body)) ty a.type

-- an expression of which only the span matters
abbrev pub spanned : Span → Expr
spanned sp = Expr.BoolLit false sp

-- what is said of the target of an assignment, which has this symbol and whose value has this type
unfoldable pub target_by : Option Symbol → TextNumber → AssignOp → Expr → Span → Option ClassicalType → List Diagnostic
target_by none x op value sp actual = error (Messages.not_declared x) sp ∷ []
target_by (some sym) x op value sp actual = target_says x op value sp actual sym.kind
