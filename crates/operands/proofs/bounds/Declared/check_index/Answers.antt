use Rattle.promises.specs.Emitted.{emitted-none, emitted-one}
use Rattle.operands.specs.Says.{index_fault_says}
use Rattle.operands.proofs.bounds.Declared.check_index.Goals as goal

pub returns-in-None : goal.returns-in-None
unfolding index_fault_says
returns-in-None c = rw (← c.index_fault.ensures, c.in-None.is) emitted-none

pub returns-in-Some-WithoutSize : goal.returns-in-Some-WithoutSize
unfolding index_fault_says
returns-in-Some-WithoutSize c = rw (← c.index_fault.ensures, c.in-Some-WithoutSize.is, c.in-Some-WithoutSize.field-0-is) (emitted-one c.report.ensures)

pub returns-in-Some-OutOfBounds : goal.returns-in-Some-OutOfBounds
unfolding index_fault_says
returns-in-Some-OutOfBounds c = rw (← c.index_fault.ensures, c.in-Some-OutOfBounds.is, c.in-Some-OutOfBounds.field-0-is) (emitted-one c.report-in-Some-OutOfBounds.ensures)
