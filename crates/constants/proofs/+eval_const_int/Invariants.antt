use Rattle.constants.proofs.+eval_const_int.Given as goal

abbrev pub decreases-eval_const_int : goal.decreases-eval_const_int
decreases-eval_const_int l = l.left
