use Rattle.std.proofs.Common.{arith}
use Rattle.verdict.proofs.Heads.{head-short}
use Rattle.verdict.proofs.head_size.Goals as goal

pub returns : goal.returns
returns c = (omega (arith, c.first_line.ensures.after), omega (arith, c.first_line.ensures.after, head-short _ _ c.requires.0 c.requires.1))
