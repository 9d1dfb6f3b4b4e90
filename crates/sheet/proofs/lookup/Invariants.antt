use Rattle.std.proofs.Common.{length}
use Rattle.context.specs.Values.{key_of}
use Rattle.sheet.proofs.Looking.{Looking}
use Rattle.sheet.proofs.lookup.Given as goal

abbrev pub invariant-loop-met_key : goal.invariant-loop-met_key
invariant-loop-met_key l = Looking l.keys l.sheet (key_of l.key) (key_of l.name) l.own l.whole (length l.yielded)
