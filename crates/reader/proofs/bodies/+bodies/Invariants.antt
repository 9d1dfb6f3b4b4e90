use Rattle.std.proofs.Common.{◌≡◌, ◌+◌, ◌-◌, ◌*◌}
use Rattle.ast.specs.Tree.{no_stmt, more_stmt}
use Rattle.tree.specs.Read.{repeat}
use Rattle.tree.specs.Stmts.{body, stmt}
use Rattle.tree.specs.Decode.{texts_of}
use Rattle.reading.specs.Answers.{forget}
use Rattle.reader.proofs.bodies.+bodies.Given as goal

-- the levels left, and at one level the order of the calls
abbrev pub decreases-read_stmt : goal.decreases-read_stmt
decreases-read_stmt l = 5 * l.left

abbrev pub decreases-read_body : goal.decreases-read_body
decreases-read_body l = 5 * l.left + 1

abbrev pub decreases-read_else : goal.decreases-read_else
decreases-read_else l = 5 * l.left + 3

abbrev pub decreases-read_else-read : goal.decreases-read_else-read
decreases-read_else-read l = 5 * l.left + 2

abbrev pub decreases-read_gate_def : goal.decreases-read_gate_def
decreases-read_gate_def l = 5 * l.left + 4

abbrev pub decreases-read_if : goal.decreases-read_if
decreases-read_if l = 5 * l.left + 4

abbrev pub decreases-read_for : goal.decreases-read_for
decreases-read_for l = 5 * l.left + 4

abbrev pub decreases-read_while : goal.decreases-read_while
decreases-read_while l = 5 * l.left + 4

abbrev pub invariant-read_body-loop : goal.invariant-read_body-loop
invariant-read_body-loop l =
    forget (body (stmt (texts_of l.source.bytes.now) l.left) l.source.bytes.now l.at) ≡ forget (repeat no_stmt more_stmt (stmt (texts_of l.source.bytes.now) l.left) (l.n - l.counter) l.source.bytes.now l.k)
