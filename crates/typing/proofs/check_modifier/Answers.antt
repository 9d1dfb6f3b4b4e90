use mathlib.Core.Path.{refl}
use native.Mathlib.Omega.{arith}
use Rattle.accepted.specs.Operands.{modifier_in, pow_exponent, pow-inside, control_count_lem, control-inside}
use Rattle.typing.proofs.Modifiers.{inv-said, pow-said, control-said}
use Rattle.std.proofs.Common.{rules}
use Rattle.typing.proofs.check_modifier.Goals as goal

pub bounds-sema-at : goal.bounds-sema-at
bounds-sema-at c = modifier_in _ _ _ c.requires

pub require_numeric-a-requires : goal.require_numeric-a-requires
require_numeric-a-requires c = let p = c.requires in (pow_exponent _ _ _ p c.in-3.is, tt)

pub overflow_add-result-in-3 : goal.overflow_add-result-in-3
overflow_add-result-in-3 c = let i = pow-inside _ _ _ c.requires c.in-3.is _ c.require_numeric-a.ensures.next in omega arith

pub overflow_add-at-in_default : goal.overflow_add-at-in_default
overflow_add-at-in_default c = let i = modifier_in _ _ _ c.requires in omega arith

pub check_control-a-requires : goal.check_control-a-requires
check_control-a-requires c = let p = c.requires in (control_count_lem _ _ _ p (search rules) (search rules), control-inside _ _ _ p (search rules) (search rules) _ refl)

pub overflow_add-result-in_default : goal.overflow_add-result-in_default
overflow_add-result-in_default c = let i = control-inside _ _ _ c.requires (search rules) (search rules) _ c.check_control-a.ensures.next in omega arith

pub returns-in-2 : goal.returns-in-2
returns-in-2 c = let p = c.requires in inv-said _ _ _ _ _ p c.in-2.is

pub returns-in-3 : goal.returns-in-3
returns-in-3 c = pow-said _ _ _ _ _ c.requires c.in-3.is c.require_numeric-a.ensures

pub returns-in_default : goal.returns-in_default
returns-in_default c = control-said _ _ _ c.requires (search rules) (search rules) _ _ c.check_control-a.ensures
