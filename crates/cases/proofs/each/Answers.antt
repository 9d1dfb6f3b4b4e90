use Rattle.std.proofs.Common.{rules, of_calls, refl, subst}
use Rattle.cases.specs.Case.{Taken}
use Rattle.cases.proofs.Trees.{given_start, given_more}
use Rattle.cases.proofs.each.Goals as goal

pub loop-init : goal.loop-init
loop-init g c = (c.requires, given_start _ _ _)

pub loop-preserved : goal.loop-preserved
loop-preserved g c = (search (of_calls, rules), given_more _ _ _ _ _ c.loop.invariant.1 _ c.next.new.space c.in-Some.n (search rules) (subst (Taken _ _ _) c.in-Some.is c.in_ok-n.ensures.taken) _ (record { shown = _; shows = refl; called = c.in_ok-visit.ensures }))
