use Rattle.std.proofs.Common.{◌+◌, ◌-◌, ◌*◌, length}
use Rattle.walk.proofs.Loop.{Going, beside}
use Rattle.walk.proofs.+stmts.Given as goal

-- the remaining bytes of the tree, doubled; those that call at their own place have one more
abbrev pub decreases-analyze_stmts : goal.decreases-analyze_stmts
decreases-analyze_stmts l = 2 * (length l.texts.tree.now - l.st.at)

abbrev pub decreases-body_stmt : goal.decreases-body_stmt
decreases-body_stmt l = 2 * (length l.texts.tree.now - l.st.now.at) + 1

abbrev pub decreases-branch : goal.decreases-branch
decreases-branch l = 2 * (length l.texts.tree.now - l.st.now.at)

abbrev pub decreases-branch_else : goal.decreases-branch_else
decreases-branch_else l = 2 * (length l.texts.tree.now - l.t.at)

abbrev pub decreases-for_loop : goal.decreases-for_loop
decreases-for_loop l = 2 * (length l.texts.tree.now - l.st.now.at)

abbrev pub decreases-gate_def : goal.decreases-gate_def
decreases-gate_def l = 2 * (length l.texts.tree.now - l.st.now.at)

abbrev pub decreases-loop_body : goal.decreases-loop_body
decreases-loop_body l = 2 * (length l.texts.tree.now - l.a.next) + 1

abbrev pub decreases-while_loop : goal.decreases-while_loop
decreases-while_loop l = 2 * (length l.texts.tree.now - l.st.now.at)

abbrev pub invariant-analyze_stmts-loop : goal.invariant-analyze_stmts-loop
invariant-analyze_stmts-loop l =
    Going l.texts.tree.now l.left l.at (beside l.initial.s l.initial.k l.initial.sink) l.initial.index l.initial.scratch l.initial.out (l.n - l.counter) (beside l.s l.k l.sink) l.index l.scratch l.out
