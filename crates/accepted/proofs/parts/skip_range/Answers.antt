use Rattle.accepted.specs.Operands.{for_range-start, for_range-end, for_range-step}
use Rattle.accepted.proofs.SkipParts.{range_next}
use Rattle.accepted.proofs.parts.skip_range.Goals as goal

pub skip_expr-k-requires : goal.skip_expr-k-requires
skip_expr-k-requires c = for_range-start _ _ _ c.requires

pub skip_expr-m-requires : goal.skip_expr-m-requires
skip_expr-m-requires c = for_range-end _ _ _ c.requires _ c.skip_expr-k.ensures

pub skip_option_expr-requires : goal.skip_option_expr-requires
skip_option_expr-requires c = for_range-step _ _ _ c.requires _ c.skip_expr-k.ensures _ c.skip_expr-m.ensures

pub returns : goal.returns
returns c = range_next _ _ _ c.requires _ c.skip_expr-k.ensures _ c.skip_expr-m.ensures _ c.skip_option_expr.ensures
