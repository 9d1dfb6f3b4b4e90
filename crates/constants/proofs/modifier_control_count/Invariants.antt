use Rattle.std.proofs.Common.{◌-◌}
use Rattle.tree.specs.Decode.{texts_of}
use Rattle.constants.proofs.Modifiers.{Sums}
use Rattle.constants.proofs.modifier_control_count.Given as goal

abbrev pub invariant-loop : goal.invariant-loop
invariant-loop l = Sums (texts_of l.tree) l.tree l.at (l.end - l.counter) l.sum.next l.sum.value
