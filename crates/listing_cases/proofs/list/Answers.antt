use Rattle.std.proofs.Common.{arith, sym, ◌∙◌}
use Rattle.claims.proofs.Demand3.{accepted-room}
use Rattle.listing_cases.proofs.list.Goals as goal

-- an accepted listing has room in its buffer
pub print-requires : goal.print-requires
print-requires g c errors warnings size h = omega (arith, accepted-room _ _ _ _ _ _ (sym c.check-answer.ensures.answers ∙ h), c.check-answer.auto.listing)
