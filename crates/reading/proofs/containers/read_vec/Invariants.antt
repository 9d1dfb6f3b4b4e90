use Rattle.std.proofs.Common.{◌≡◌, ◌-◌, [], ◌∷◌}
use Rattle.tree.specs.Ans.{Reader}
use Rattle.tree.specs.Read.{vec, repeat}
use Rattle.reading.specs.Answers.{forget, Reads}
use Rattle.reading.proofs.containers.read_vec.Given as goal

abbrev pub invariant-loop : goal.invariant-loop
invariant-loop g l =
    (p : Reader (Unit {0})) → Reads (goal.F-post g l.read) p l.s → forget (vec p l.s l.at) ≡ forget (repeat [] ◌∷◌ p (l.n - l.counter) l.s l.k)
