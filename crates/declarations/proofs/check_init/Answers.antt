use Rattle.declarations.proofs.Sayings.{mismatch-none, mismatch-some}
use Rattle.declarations.proofs.Classical.{init_absent, init_checked}
use Rattle.declarations.proofs.check_init.Goals as goal

pub returns-then-sema-at-eq0 : goal.returns-then-sema-at-eq0
returns-then-sema-at-eq0 c = init_absent _ _ c.requires.1 _ _ _ _ c.if-sema-at-eq0.true

pub returns-in_default : goal.returns-in_default
returns-in_default c = init_checked _ _ c.requires.1 _ _ _ _ c.if-sema-at-eq0.false c.check_expr-t.ensures (mismatch-none _ _ _ c.in_default.is)

pub returns : goal.returns
returns c = init_checked _ _ c.requires.1 _ _ _ _ c.if-sema-at-eq0.false c.check_expr-t.ensures (mismatch-some _ _ _ _ c.in-Some.is c.check_type.ensures)
