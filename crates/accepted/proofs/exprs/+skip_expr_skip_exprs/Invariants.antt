use Rattle.std.proofs.Common.{◌+◌, ◌*◌}
use Rattle.accepted.proofs.exprs.+skip_expr_skip_exprs.Given as goal

abbrev pub decreases-skip_expr : goal.decreases-skip_expr
decreases-skip_expr l = 3 * l.left

abbrev pub decreases-skip_exprs-skip_vec : goal.decreases-skip_exprs-skip_vec
decreases-skip_exprs-skip_vec l = 3 * l.left + 1

abbrev pub decreases-skip_exprs : goal.decreases-skip_exprs
decreases-skip_exprs l = 3 * l.left + 2
