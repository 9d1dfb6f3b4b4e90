use Rattle.sheet.specs.Effects.{marks-blank}
use Rattle.sheet.specs.Kept.{blank-placed}
use Rattle.sheet.specs.Behind.{blank-behind}
use Rattle.sheet.proofs.blank.Goals as goal

pub returns-clause-placed : goal.returns-clause-placed
returns-clause-placed c = blank-placed

pub returns-clause-marks : goal.returns-clause-marks
returns-clause-marks c = marks-blank 256

pub returns-clause-behind : goal.returns-clause-behind
returns-clause-behind c = blank-behind 256
