use Rattle.std.proofs.Common.{rules}
use Rattle.context.specs.Values.{operand_of, key_of}
use Rattle.sheet.proofs.Tests.{cleared_by, reached-cleared}
use Rattle.sheet.proofs.Sheets.{clear-placed, clear-marks, store-behind}
use Rattle.sheet.proofs.clear.Goals as goal

pub returns : goal.returns
returns c =
    let s = c.store.ensures (cleared_by (operand_of c.args.op)) (λ k r p. reached-cleared (operand_of c.args.op) (key_of k) r (search rules)) in
    record { placed = search clear-placed; marks = search clear-marks; behind = search store-behind }
