use Rattle.std.proofs.Common.{◌∙◌}
use Rattle.int128.proofs.Halves.{some_is}
use Rattle.int128.proofs.Power.{half_over, even, odd}
use Rattle.int128.proofs.+pow_words.Goals as goal

pub returns-in_err-even : goal.returns-in_err-even
returns-in_err-even t c =
    c.from_residual-in_err-even.ensures
    ∙ half_over _ _ c.if-exponent-eq0.false c.if-exponent-eq1.false
    (rw (some_is _ _ c.in_ok-square.ensures) at c.in_err-even.ensures)

pub returns-then-exponent-eq0-2 : goal.returns-then-exponent-eq0-2
returns-then-exponent-eq0-2 t c =
    rw (even _ _ c.if-exponent-eq0-2.true, ← some_is _ _ c.in_ok-square.ensures) c.in_ok-even.ensures

pub returns-else-exponent-eq0-2 : goal.returns-else-exponent-eq0-2
returns-else-exponent-eq0-2 t c =
    rw (odd _ _ c.if-exponent-eq0-2.false, ← some_is _ _ c.in_ok-square.ensures, ← some_is _ _ c.in_ok-even.ensures)
    c.mul_words-else-exponent-eq0-2.ensures
