use native.Mathlib.Omega.{arith}
use Rattle.accepted.specs.Operands.{operand_below}
use Rattle.accepted.specs.Stmts.{measure-qubit}
use Rattle.operations.proofs.Measured.{measured-keys}
use Rattle.operations.proofs.add_keys.Goals as goal

pub operand_at-requires : goal.operand_at-requires
operand_at-requires c = let p = c.requires in measure-qubit _ _ _ _ p.0 p.5

pub size_of-size-requires : goal.size_of-size-requires
size_of-size-requires c = let i = operand_below _ _ _ c.operand_at.result.value c.operand_at.ensures in (c.requires.3, omega arith, omega arith)

pub returns-clause-added : goal.returns-clause-added
returns-clause-added c = let p = c.requires in
    let o = c.operand_at in
    let z = c.size_of-size in
    rw (measured-keys _ _ _ p.0 p.5 o.result.value _ o.ensures _ z.result z.ensures _) at c.add_measured.ensures
