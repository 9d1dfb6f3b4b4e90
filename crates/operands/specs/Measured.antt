-- The marks that stand where operands are used.
use Rattle.sema.specs.Marks.{Marks}
use Rattle.context.specs.View.{keys_of, marks_of}
use Rattle.operands.specs.declared.measured.Measured.{Measured}

abbrev pub marks : Measured → Marks
marks m = marks_of m.sema.texts.tree.now (keys_of m.keys.now) m.marks.now
