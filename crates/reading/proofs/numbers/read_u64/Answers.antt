use Rattle.std.proofs.Common.{◌∙◌}
use Rattle.reading.proofs.Bytes.{be64, mapped_number}
use Rattle.reading.proofs.numbers.read_u64.Goals as goal

pub returns : goal.returns
returns c = mapped_number _ _ _ _ _ _ c.map.ensures c.read_bytes.ensures (λ bs n l h. h ∙ be64 bs l)
