use mathlib.Core.Path.{◌∙◌}
use Rattle.accepted.specs.Ends.{text-moves}
use Rattle.accepted.specs.Sizes.{name-sized}
use Rattle.accepted.proofs.SkipParts.{vec-next, vec-room}
use Rattle.accepted.proofs.parts.skip_names.Goals as goal

pub skip_sized-requires : goal.skip_sized-requires
skip_sized-requires c = vec-room _ 2 (name-sized _) _ _ _ _ c.requires (text-moves _ _)

pub returns : goal.returns
returns c = c.skip_sized.ensures ∙ vec-next _ 2 (name-sized _) _ _ _ _ c.requires
