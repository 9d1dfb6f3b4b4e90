use Rattle.std.proofs.Common.{rules, arith, ◌<◌, ◌≤◌, refl}
use Rattle.std.proofs.Math.Nat.{div-eq_of_lt, mod-eq_of_lt}
use Rattle.int128.specs.Whole.{magnitude}
use Rattle.int128.proofs.Quotients.{once-div, once-mod}
use Rattle.int128.proofs.halved.Goals as goal

pub returns-then-lt : goal.returns-then-lt
returns-then-lt c =
    let lt : magnitude c.args.d.remainder < magnitude c.args.b = search rules in
    rw (div-eq_of_lt lt, mod-eq_of_lt lt) (omega arith, refl)

pub returns : goal.returns
returns c =
    let le : magnitude c.args.b ≤ magnitude c.args.d.remainder = search rules in
    rw (once-div _ _ le c.requires.2, once-mod _ _ le c.requires.2) (omega arith, c.sub_words.ensures)
