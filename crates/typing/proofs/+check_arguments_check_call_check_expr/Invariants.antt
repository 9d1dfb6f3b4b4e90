use Rattle.std.proofs.Common.{◌≡◌, ◌+◌, ◌-◌, ◌*◌, length}
use Rattle.context.specs.Given.{texts, scopes, functions}
use Rattle.tables.specs.Tables.{params_of}
use Rattle.typing.proofs.Arguments.{Arguing}
use Rattle.typing.proofs.+check_arguments_check_call_check_expr.Given as goal

abbrev pub decreases-check_arguments : goal.decreases-check_arguments
decreases-check_arguments l = 2 * (length l.sema.now.texts.tree.now - l.at)

abbrev pub decreases-check_call : goal.decreases-check_call
decreases-check_call l = 2 * (length l.sema.now.texts.tree.now - l.at)

abbrev pub decreases-check_expr_in : goal.decreases-check_expr_in
decreases-check_expr_in l = 2 * (length l.sema.now.texts.tree.now - l.at) + 1

abbrev pub invariant-check_arguments-loop-i : goal.invariant-check_arguments-loop-i
invariant-check_arguments-loop-i l =
    Arguing (texts l.sema) (scopes l.sema) (functions l.sema) l.left l.sema.texts.tree.now l.at l.x (params_of (functions l.sema l.x)) l.i-end l.initial.s l.initial.out l.k l.i l.s l.out × (length l.out ≡ length l.initial.out)
