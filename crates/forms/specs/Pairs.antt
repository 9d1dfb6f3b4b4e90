-- What stands behind the operator of an operation or a comparison.
use Rattle.tree.specs.Ans.{Reader, ◌>>=◌}
use Rattle.tree.specs.Read.{span}
use Rattle.ast.specs.Tree.{Expr}
use Rattle.reading.specs.Answers.{forget}

-- two operands and the span
unfoldable pub pair : Reader Expr → Reader (Unit {0})
pair inner = λ s at. forget ((do
  lhs ← inner
  rhs ← inner
  span) s at)
