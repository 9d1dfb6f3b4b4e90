use mathlib.Core.Path.{refl}
use Rattle.declarations.proofs.Functions.{defined_again, defined_new}
use Rattle.declarations.proofs.define.Goals as goal

pub returns-in-Some : goal.returns-in-Some
returns-in-Some c = defined_again _ _ c.requires.1 _ _ c.function.ensures c.in-Some.is c.report_with_note.ensures

pub returns : goal.returns
returns c = defined_new _ _ c.requires.1 _ _ c.requires.3 c.function.ensures c.in_default.is refl c.define_function.ensures
