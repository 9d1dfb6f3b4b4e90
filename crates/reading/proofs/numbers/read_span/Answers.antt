use Rattle.reading.proofs.Bytes.{mapped_span}
use Rattle.reading.proofs.numbers.read_span.Goals as goal

pub returns : goal.returns
returns c = mapped_span _ _ _ _ _ c.map.ensures c.read_bytes.ensures (λ bs w l h. h)
