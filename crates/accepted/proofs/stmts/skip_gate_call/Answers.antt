use mathlib.Core.Path.{sym}
use Rattle.accepted.specs.Parts.{next_is}
use Rattle.accepted.specs.Stmts.{gate_call-modifiers, gate_call-params, gate_call-args, gate_call-inside, gate_call_is}
use native.Mathlib.Omega.{arith}
use Rattle.accepted.proofs.stmts.skip_gate_call.Goals as goal

pub skip_modifiers-k-requires : goal.skip_modifiers-k-requires
skip_modifiers-k-requires c = gate_call-modifiers _ _ _ _ c.requires.0 c.requires.1

pub skip_exprs-m-requires : goal.skip_exprs-m-requires
skip_exprs-m-requires c = gate_call-params _ _ _ _ c.requires.0 c.requires.1 _ c.skip_modifiers-k.ensures

pub skip_operands-requires : goal.skip_operands-requires
skip_operands-requires c = gate_call-args _ _ _ _ c.requires.0 c.requires.1 _ c.skip_modifiers-k.ensures _ c.skip_exprs-m.ensures

pub overflow_add-result : goal.overflow_add-result
overflow_add-result c = let i = gate_call-inside _ _ _ _ c.requires.0 c.requires.1 _ c.skip_modifiers-k.ensures _ c.skip_exprs-m.ensures _ c.skip_operands.ensures in omega arith

pub returns : goal.returns
returns c = sym (next_is (gate_call_is _ _ _ _ c.requires.0 c.requires.1 _ c.skip_modifiers-k.ensures _ c.skip_exprs-m.ensures _ c.skip_operands.ensures))
