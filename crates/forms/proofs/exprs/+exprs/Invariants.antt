use Rattle.std.proofs.Common.{◌+◌, ◌*◌}
use Rattle.forms.proofs.exprs.+exprs.Given as goal

-- the levels left, and at one level the order of the calls
abbrev pub decreases-read_expr : goal.decreases-read_expr
decreases-read_expr l = 4 * l.left

abbrev pub decreases-read_args-read : goal.decreases-read_args-read
decreases-read_args-read l = 4 * l.left + 1

abbrev pub decreases-read_args : goal.decreases-read_args
decreases-read_args l = 4 * l.left + 2

abbrev pub decreases-read_neg : goal.decreases-read_neg
decreases-read_neg l = 4 * l.left + 1

abbrev pub decreases-read_pair : goal.decreases-read_pair
decreases-read_pair l = 4 * l.left + 1

abbrev pub decreases-read_call : goal.decreases-read_call
decreases-read_call l = 4 * l.left + 3
