use Rattle.std.proofs.Common.{refl, ◌∙◌, arith}
use Rattle.lines.proofs.Decimals.{number-shown}
use Rattle.lines.proofs.pieces.number.Goals as goal

pub returns : goal.returns
returns c = number-shown (omega (arith, c.ranges.v.fits)) refl (c.as_bytes.ensures.value ∙ c.format.ensures.text) (omega arith)
