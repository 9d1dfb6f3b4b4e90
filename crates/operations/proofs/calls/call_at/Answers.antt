use Rattle.std.proofs.Common.{refl, arith}
use Rattle.accepted.specs.Fields.{counted_in}
use Rattle.accepted.specs.Stmts.{gate_call-named, gate_call-modifiers, gate_call-params, gate_call-args, gate_call-inside}
use Rattle.operations.proofs.Counted.{call-read}
use Rattle.operations.proofs.calls.call_at.Goals as goal

pub modifier_control_count-c-requires : goal.modifier_control_count-c-requires
modifier_control_count-c-requires c = gate_call-modifiers _ _ _ _ c.args.here.accepted c.requires

pub skip_exprs-args_at-requires : goal.skip_exprs-args_at-requires
skip_exprs-args_at-requires c = gate_call-params _ _ _ _ c.args.here.accepted c.requires _ c.modifier_control_count-c.ensures.next

pub skip_operands-end-requires : goal.skip_operands-end-requires
skip_operands-end-requires c =
    gate_call-args _ _ _ _ c.args.here.accepted c.requires _ c.modifier_control_count-c.ensures.next _ c.skip_exprs-args_at.ensures

pub u16_at-name-requires : goal.u16_at-name-requires
u16_at-name-requires c = let i = (gate_call-named _ _ _ _ c.args.here.accepted c.requires).inside in omega arith

pub bounds-tree-params_at : goal.bounds-tree-params_at
bounds-tree-params_at c =
    counted_in _ _ _ _ _ (gate_call-params _ _ _ _ c.args.here.accepted c.requires _ c.modifier_control_count-c.ensures.next)

pub bounds-tree-args_at : goal.bounds-tree-args_at
bounds-tree-args_at c =
    counted_in _ _ _ _ _ (gate_call-args _ _ _ _ c.args.here.accepted c.requires _ c.modifier_control_count-c.ensures.next _ c.skip_exprs-args_at.ensures)

pub span_at-span-requires : goal.span_at-span-requires
span_at-span-requires c =
    gate_call-inside _ _ _ _ c.args.here.accepted c.requires _ c.modifier_control_count-c.ensures.next _ c.skip_exprs-args_at.ensures _ c.skip_operands-end.ensures

pub returns : goal.returns
returns c =
    call-read _ _ _ _ c.args.here.accepted c.requires c.modifier_control_count-c.ensures c.skip_exprs-args_at.ensures c.skip_operands-end.ensures
    c.u16_at-name.ensures.0 refl refl c.unwrap_or-controls.ensures c.span_at-span.ensures
