use Rattle.std.proofs.Common.{sym}
use Rattle.accepted.specs.Counts.{vec_size}
use Rattle.bodies.proofs.gate_defs.count_at.Goals as goal

pub returns : goal.returns
returns c = sym (vec_size 0 _ _ _ c.requires)
