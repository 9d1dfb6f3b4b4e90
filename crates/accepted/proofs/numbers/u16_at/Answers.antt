use Rattle.std.proofs.Common.{◌∙◌, refl, w16, rules}
use Rattle.accepted.proofs.Bytes.{be_bytes}
use Rattle.accepted.proofs.numbers.u16_at.Goals as goal

pub returns : goal.returns
returns c = (c.from.ensures ∙ c.from_be_bytes.ensures ∙ be_bytes w16 1 refl _ _ c.requires _ c.bytes_at.ensures, search rules)
