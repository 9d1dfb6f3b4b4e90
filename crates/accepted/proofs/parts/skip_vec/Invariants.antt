use Rattle.std.proofs.Common.{◌+◌}
use Rattle.accepted.specs.Steps.{Reached}
use Rattle.accepted.proofs.parts.skip_vec.Given as goal

abbrev pub invariant-loop : goal.invariant-loop
invariant-loop g l = Reached (goal.F-post g l.skip) l.counter (l.at + 1) l.k
