use Rattle.std.proofs.Common.{◌∙◌, refl, w64}
use Rattle.accepted.proofs.Bytes.{be_bytes}
use Rattle.accepted.proofs.numbers.u64_at.Goals as goal

pub returns : goal.returns
returns c = c.from_be_bytes.ensures ∙ be_bytes w64 7 refl _ _ c.requires _ c.bytes_at.ensures
