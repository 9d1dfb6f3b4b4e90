use Rattle.std.proofs.Common.{◌∙◌}
use Rattle.reading.proofs.Bytes.{be16, mapped_number}
use Rattle.reading.proofs.numbers.read_u16.Goals as goal

pub returns : goal.returns
returns c = mapped_number _ _ _ _ _ _ c.map.ensures c.read_bytes.ensures (λ bs n l h. h ∙ be16 bs l)
