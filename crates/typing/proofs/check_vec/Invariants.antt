use Rattle.std.proofs.Common.{◌+◌}
use Rattle.typing.specs.Vecs.{CheckedTo}
use Rattle.typing.proofs.check_vec.Given as goal

abbrev pub invariant-loop : goal.invariant-loop
invariant-loop g l = CheckedTo (goal.F-post g l.check) l.counter (l.at + 1) l.initial.s l.initial.out l.next l.s l.out
