use Rattle.sheet.proofs.Sheets.{Uniting}
use Rattle.sheet.proofs.unite.Given as goal

abbrev pub invariant-loop-i : goal.invariant-loop-i
invariant-loop-i l = Uniting l.a l.initial.b l.b l.i
