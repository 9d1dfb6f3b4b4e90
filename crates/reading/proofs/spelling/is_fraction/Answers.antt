use Rattle.reading.proofs.Spelled.{fraction_point}
use Rattle.reading.proofs.spelling.is_fraction.Goals as goal

pub returns-then-x-i-eq46 : goal.returns-then-x-i-eq46
returns-then-x-i-eq46 c = fraction_point _ _ c.in-Some.ensures c.if-x-i-eq46.true _ c.is_digits.ensures
