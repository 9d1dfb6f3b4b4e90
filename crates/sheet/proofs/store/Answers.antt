use Rattle.std.proofs.Common.{arith}
use Rattle.sheet.proofs.Sheets.{storing-then, storing_else, storing-end}
use Rattle.sheet.proofs.store.Goals as goal
use Rattle.sheet.proofs.store.Goals.{then-test, else-test}

pub loop-k-preserved : goal.loop-k-preserved
loop-k-preserved g c = λ t h.
    let e = h _ _ c.test.ensures in
    elim c.if-test.branch [
      | then-test w ↦ storing-then (c.loop-k.invariant t h) (omega arith) e w.if-test.true w.sheet-is
      | else-test w ↦ storing_else (c.loop-k.invariant t h) (omega arith) e w.if-test.false w.sheet-is
    ]

pub returns : goal.returns
returns g c = λ t h. storing-end (c.loop-k.invariant t h) (omega arith)
