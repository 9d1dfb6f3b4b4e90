use mathlib.Core.Path.{sym, ◌∙◌}
use mathlib.Core.Bool.{false≢true}
use Rattle.operands.proofs.Checks.{quiet_wire, quiet_index, quiet_slice}
use Rattle.operands.proofs.bounds.Declared.keeps_bounds.Goals as goal
use Rattle.operands.proofs.bounds.Declared.keeps_bounds.Goals.{then-not-indexes_wire, else-not-indexes_wire}

pub returns-then-is_none : goal.returns-then-is_none
returns-then-is_none c =
    elim c.if-not-indexes_wire.branch [
      | then-not-indexes_wire w ↦
          quiet_slice _ _ _ c.indexes_wire.ensures w.if-not-indexes_wire.true _ w.index_fault.ensures _ w.is_none.ensures (sym w.value-is ∙ c.if-is_none.true)
          _ c.slice_fault.ensures _ c.is_none-then-is_none.ensures
      | else-not-indexes_wire w ↦ absurd (false≢true (rw w.if-not-indexes_wire.false at (sym w.value-is ∙ c.if-is_none.true)))
    ]

pub returns-else-is_none : goal.returns-else-is_none
returns-else-is_none c =
    elim c.if-not-indexes_wire.branch [
      | then-not-indexes_wire w ↦
          rw c.if-is_none.false
          (quiet_index _ _ _ c.indexes_wire.ensures w.if-not-indexes_wire.true _ w.index_fault.ensures _ w.is_none.ensures (sym w.value-is ∙ c.if-is_none.false))
      | else-not-indexes_wire w ↦ rw c.if-is_none.false (quiet_wire _ _ _ c.indexes_wire.ensures w.if-not-indexes_wire.false)
    ]
