use Rattle.std.proofs.Common.{Bool, ◌≡◌}
use Rattle.sema.specs.Marks.{Key}
use Rattle.context.specs.declared.Key.{Key as KeyValue}
use Rattle.context.specs.Values.{key_of}
use Rattle.sheet.proofs.Sheets.{Storing}
use Rattle.sheet.proofs.store.Given as goal

abbrev pub invariant-loop-k : goal.invariant-loop-k
invariant-loop-k g l = (t : Key → Bool) → ((k : KeyValue) (r : Bool) → goal.F-post g l.test k r → r ≡ t (key_of k)) → Storing t l.place l.keys l.initial.sheet l.sheet l.k
