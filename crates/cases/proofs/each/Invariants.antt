use Rattle.std.specs.Fn.{CalledAt}
use Rattle.std.specs.Prelude.{Ok}
use Rattle.cases.specs.Case.{Given}
use Rattle.cases.proofs.each.Given as goal

abbrev pub invariant-loop : goal.invariant-loop
invariant-loop g l =
    goal.F-IsAlwaysCallable g l.visit
    × Given (λ f tree h. CalledAt g.F.FnMut f tree (Ok tt) h) l.initial.visit (g.R.Read.remaining l.initial.input) (g.R.Read.remaining l.input) l.visit
