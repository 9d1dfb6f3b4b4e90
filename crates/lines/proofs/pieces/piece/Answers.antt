use Rattle.std.proofs.Common.{◌∙◌, arith}
use Rattle.lines.proofs.Decimals.{number-shown}
use Rattle.lines.proofs.pieces.piece.Goals as goal

pub returns-in-Sum : goal.returns-in-Sum
returns-in-Sum c =
    rw c.in-Sum.is (number-shown (omega arith) (omega arith) (c.as_bytes.ensures.value ∙ c.format.ensures.text) (omega arith))
