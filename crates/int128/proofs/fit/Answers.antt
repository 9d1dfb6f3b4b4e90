use Rattle.std.proofs.Common.{arith, rules, ◌≡◌, ◌&&◌, eqb, true, false, ◌∙◌}
use Rattle.int128.proofs.Signs.{fit_low, fit_high}
use Rattle.int128.proofs.fit.Goals as goal
use Rattle.int128.proofs.fit.Goals.{then-neg-2, else-neg-2}

pub returns-then-neg : goal.returns-then-neg
returns-then-neg c = rw (c.ne-neg.ensures, c.if-neg.true) (fit_low _ _ (omega arith) true (omega arith))

pub returns-else-neg : goal.returns-else-neg
returns-else-neg c = rw c.if-neg.false (fit_low _ _ (omega arith) false (omega arith))

pub returns : goal.returns
returns c =
    let test : c.if-neg-2.then_some ≡ (c.args.neg && (eqb c.args.words.hi 9223372036854775808 && eqb c.args.words.lo 0)) =
    elim c.if-neg-2.branch [ then-neg-2 w ↦ search rules | else-neg-2 w ↦ search rules ] in
    c.then_some.ensures ∙ rw test (fit_high c.args.words.hi c.args.words.lo (omega arith) c.args.neg (omega arith))
