use Rattle.declarations.proofs.Sayings.{mismatch-none, mismatch-some}
use Rattle.declarations.proofs.Functions.{body-checked}
use Rattle.declarations.proofs.Targets.{value-long, value-inside}
use Rattle.declarations.proofs.check_body.Goals as goal

pub check_type-requires : goal.check_type-requires
check_type-requires c = let p = c.check_expr-t.ensures in (value-long _ _ _ c.requires.4 _ p.next, value-inside _ _ _ c.requires.4 _ p.next, c.requires.2)

pub returns-in_default : goal.returns-in_default
returns-in_default c = body-checked c.requires.4 c.enter_function.ensures c.check_expr-t.ensures (mismatch-none _ _ _ c.in_default.is)

pub returns : goal.returns
returns c = body-checked c.requires.4 c.enter_function.ensures c.check_expr-t.ensures (mismatch-some _ _ _ _ c.in-Some.is c.check_type.ensures)
