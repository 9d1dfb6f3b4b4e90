use Rattle.std.proofs.Common.{◌+◌, ◌-◌}
use Rattle.int128.specs.Whole.{magnitude}
use Rattle.int128.proofs.+divide.Given as goal

abbrev pub decreases-divide : goal.decreases-divide
decreases-divide l = magnitude l.a + 1 - magnitude l.b
