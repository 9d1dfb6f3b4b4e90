use Rattle.std.proofs.Common.{◌+◌, ◌-◌, ◌*◌}
use Rattle.ast.specs.Tree.{no_stmt, more_stmt}
use Rattle.tree.specs.Ans.{next_of}
use Rattle.tree.specs.Stmts.{body, stmt}
use Rattle.tree.specs.Decode.{texts_of}
use Rattle.accepted.specs.Remains.{Remains}
use Rattle.accepted.proofs.stmts.+skip_body_skip_compound_skip_else_skip_stmt.Given as goal

abbrev pub decreases-skip_body : goal.decreases-skip_body
decreases-skip_body l = 5 * l.left + 2

abbrev pub decreases-skip_compound : goal.decreases-skip_compound
decreases-skip_compound l = 5 * l.left

abbrev pub decreases-skip_else-skip_option : goal.decreases-skip_else-skip_option
decreases-skip_else-skip_option l = 5 * l.left + 3

abbrev pub decreases-skip_else : goal.decreases-skip_else
decreases-skip_else l = 5 * l.left + 4

abbrev pub decreases-skip_stmt : goal.decreases-skip_stmt
decreases-skip_stmt l = 5 * l.left + 1

abbrev pub invariant-skip_body-loop : goal.invariant-skip_body-loop
invariant-skip_body-loop l = Remains no_stmt more_stmt (stmt (texts_of l.s) l.left) l.s (next_of (body (stmt (texts_of l.s) l.left) l.s l.at)) (l.end - l.counter) l.k
