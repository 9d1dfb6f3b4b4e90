use mathlib.Core.Path.{◌∙◌}
use Rattle.accepted.specs.Operands.{param-moves}
use Rattle.accepted.specs.Sizes.{param-sized}
use Rattle.accepted.proofs.SkipParts.{vec-next, vec-room}
use Rattle.accepted.proofs.parts.skip_params.Goals as goal

pub skip_sized-requires : goal.skip_sized-requires
skip_sized-requires c = vec-room _ 3 (param-sized _) _ _ _ _ c.requires (param-moves _)

pub returns : goal.returns
returns c = c.skip_sized.ensures ∙ vec-next _ 3 (param-sized _) _ _ _ _ c.requires
