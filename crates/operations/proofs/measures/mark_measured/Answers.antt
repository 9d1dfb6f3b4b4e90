use Rattle.operations.proofs.Measured.{covers_by, marks_by}
use Rattle.operations.proofs.measures.mark_measured.Goals as goal

pub set-requires-clause-covers : goal.set-requires-clause-covers
set-requires-clause-covers c = covers_by _ _ c.size_of-size.ensures _ c.requires.6

pub returns-clause-marks : goal.returns-clause-marks
returns-clause-marks c = λ tree. marks_by _ _ c.size_of-size.ensures _ _ (c.set.ensures.marks tree)
