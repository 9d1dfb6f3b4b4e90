use Rattle.accepted.specs.Stmts.{gate_def-params, gate_def_qparams, for_loop_range}
use Rattle.accepted.specs.Compound.{gate_place, for_place, condition-place, compound-condition}
use Rattle.accepted.proofs.stmts.body_place.Goals as goal

pub skip_names-k-requires : goal.skip_names-k-requires
skip_names-k-requires c = gate_def-params _ _ _ _ c.requires.0 c.in-6.is

pub skip_names-requires : goal.skip_names-requires
skip_names-requires c = gate_def_qparams _ _ _ _ c.requires.0 c.in-6.is _ c.skip_names-k.ensures

pub skip_range-requires : goal.skip_range-requires
skip_range-requires c = for_loop_range _ _ _ _ c.requires.0 c.in-13.is

pub skip_expr-requires : goal.skip_expr-requires
skip_expr-requires c = compound-condition _ _ _ _ c.requires.0 c.requires.1 c.in_default.in_default-own.rest.0.1 c.in_default.in_default-own.rest.1

pub returns-in-6 : goal.returns-in-6
returns-in-6 c = gate_place _ _ _ c.in-6.is _ c.skip_names-k.ensures _ c.skip_names.ensures

pub returns-in-13 : goal.returns-in-13
returns-in-13 c = for_place _ _ _ c.in-13.is _ c.skip_range.ensures

pub returns-in_default : goal.returns-in_default
returns-in_default c = condition-place _ _ _ c.in_default.in_default-own.rest.0.1 c.in_default.in_default-own.rest.1 _ c.skip_expr.ensures
