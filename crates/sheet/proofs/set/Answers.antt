use Rattle.std.proofs.Common.{rules}
use Rattle.context.specs.Values.{number_of, operand_of, key_of}
use Rattle.sheet.proofs.Tests.{set_by, reached-set}
use Rattle.sheet.proofs.Sheets.{store-placed, set-marks, store-behind}
use Rattle.sheet.proofs.set.Goals as goal

pub returns : goal.returns
returns c =
    let a = c.args in
    let s = c.store.ensures (set_by (number_of a.size) (operand_of a.op)) (λ k r p. reached-set (number_of a.size) (operand_of a.op) (key_of k) r (search rules)) in
    record { placed = search store-placed; marks = search set-marks; behind = search store-behind }
