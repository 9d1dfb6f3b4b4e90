use native.Mathlib.Omega.{arith}
use Rattle.accepted.specs.Fields.{option_in, option-held, option-some-next}
use Rattle.typing.proofs.Modifiers.{control_absent, control-right, control-wrong}
use Rattle.typing.proofs.check_control.Goals as goal

pub bounds-sema-at : goal.bounds-sema-at
bounds-sema-at c = option_in _ _ _ c.requires.0

pub overflow_add-result : goal.overflow_add-result
overflow_add-result c = let i = option_in _ _ _ c.requires.0 in omega arith

pub returns-then-sema-at-eq0 : goal.returns-then-sema-at-eq0
returns-then-sema-at-eq0 c = let p = c.requires in control_absent _ _ _ _ _ p.0 c.if-sema-at-eq0.true

pub require_type-a-requires : goal.require_type-a-requires
require_type-a-requires c = let p = c.requires in (option-held _ _ _ p.0 c.if-sema-at-eq0.false)

pub eval_const_int-e-requires : goal.eval_const_int-e-requires
eval_const_int-e-requires c = option-held _ _ _ c.requires.0 c.if-sema-at-eq0.false

pub returns-then-is_count : goal.returns-then-is_count
returns-then-is_count c = control-right _ _ _ _ _ c.requires.0 c.if-sema-at-eq0.false c.require_type-a.ensures c.eval_const_int-e.ensures c.is_count.ensures c.if-is_count.true

pub span_at-span-requires : goal.span_at-span-requires
span_at-span-requires c = let p = c.requires in let e = option-some-next _ _ _ p.0 _ c.require_type-a.ensures.next c.if-sema-at-eq0.false in let l = p.1 in omega arith

pub returns : goal.returns
returns c = control-wrong _ _ _ _ _ c.requires.0 c.if-sema-at-eq0.false c.require_type-a.ensures c.eval_const_int-e.ensures c.is_count.ensures c.if-is_count.false c.span_at-span.ensures c.error.ensures c.report-sink.ensures
