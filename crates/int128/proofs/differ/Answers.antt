use Rattle.std.proofs.Common.{rules, ◌<◌, ◌≤◌}
use Rattle.int128.specs.Whole.{magnitude}
use Rattle.int128.proofs.Signs.{larger, smaller}
use Rattle.int128.proofs.differ.Goals as goal

pub returns-then-lt : goal.returns-then-lt
returns-then-lt c =
    let lt : magnitude c.args.a < magnitude c.args.b = search rules in
    rw (smaller c.args.neg _ _ lt, ← c.sub_words.ensures) c.fit.ensures

pub returns-else-lt : goal.returns-else-lt
returns-else-lt c =
    let le : magnitude c.args.b ≤ magnitude c.args.a = search rules in
    rw (larger c.args.neg _ _ le, ← c.sub_words-else-lt.ensures) c.fit-else-lt.ensures
