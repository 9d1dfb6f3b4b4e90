use Rattle.std.proofs.Common.{refl}
use Rattle.std.proofs.lemmas.Result.{err_from_is_err_and}
use Rattle.checker.proofs.Judging.{list-many, list-refused, list-accepted}
use Rattle.checker.proofs.File.list.Goals as goal

pub returns-in_err-sink : goal.returns-in_err-sink
returns-in_err-sink c =
    let told = c.in_err-sink.ensures.told in
    let p = err_from_is_err_and c.from_residual.result c.from_residual.ensures.1 in
    rw (p.1, p.2, told.1) (list-many _ told.0 c.learn.ensures.same)

pub returns-in_err-listed : goal.returns-in_err-listed
returns-in_err-listed c =
    let known = c.in_ok-sink.ensures.told in
    let p = err_from_is_err_and c.from_residual-in_err-listed.result c.from_residual-in_err-listed.ensures.1 in
    rw (p.1, p.2) (list-refused _ known.few c.learn.ensures.same _ (c.in_err-listed.ensures.answers _ known.learnt))

pub returns : goal.returns
returns c =
    let known = c.in_ok-sink.ensures.told in
    let judged = c.in_ok-listed.ensures in
    let written = c.write_listing.ensures in
    list-accepted _ known.few c.learn.ensures.same _ (judged.answers _ known.learnt) _ known.learnt (judged.fits refl)
    written.listed written.same
