-- No two keys are equal: by the test of the code, and as the laws of the analysis say it. Assumes nothing.
use Rattle.std.proofs.Common.{subst}
use Rattle.std.specs.Prelude.{List, [], ◌∷◌, T}
use Rattle.sema.specs.Marks.{Key}
use Rattle.sema.specs.Keys.{has_key}
use Rattle.sema.specs.LawsLists as of
use Rattle.sema.proofs.LawsKeys.{has_key-iff}
use Rattle.sheet.specs.Sheet.{Distinct}
use Rattle.sheet.specs.Places.{by_test}

pub distinct-said : (ks : List Key) → Distinct ks → of.Distinct ks
unfolding Distinct
distinct-said [] d = tt
distinct-said (k ∷ ks) d = (λ h. subst T d.0 ((has_key-iff ks k).1 h), distinct-said ks d.1)

pub distinct_tested : (ks : List Key) → of.Distinct ks → Distinct ks
unfolding Distinct
distinct_tested [] d = tt
distinct_tested (k ∷ ks) d = (by_test (has_key ks k) (λ e. absurd (d.0 ((has_key-iff ks k).0 (rw e tt)))) (λ e. e), distinct_tested ks d.1)
