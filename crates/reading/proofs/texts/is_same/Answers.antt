use Rattle.std.proofs.Common.{◌≡◌, refl, sym, ap, ◌∙◌, true, rules}
use Rattle.std.specs.List.{fold, zip}
use Rattle.std.proofs.iter.Yields.{fronts}
use Rattle.std.proofs.lemmas.Iterator.{zips, YieldsList, YieldsList-from_zip, YieldsList-from_slice}
use Rattle.std.proofs.lemmas.Fn.{fold_over}
use Rattle.std.proofs.lemmas.List.Sums.{fold_push}
use Rattle.reading.proofs.Repeated.{alike, fold_same}
use Rattle.reading.proofs.texts.is_same.Goals as goal

pub returns-then-x-y : goal.returns-then-x-y
returns-then-x-y c =
    let pairs : YieldsList (zips fronts fronts) (λ p. (p.0.now, p.1.now)) c.zip.result (zip c.args.x.now c.args.y.now)
    = YieldsList-from_zip (YieldsList-from_slice c.args.x.now (search rules)) (YieldsList-from_slice c.args.y.now (search rules)) in
    let folded : c.fold.result ≡ fold alike true (zip c.args.x.now c.args.y.now)
    = fold_over (zips fronts fronts) (λ p. (p.0.now, p.1.now)) _ (λ l good. good ≡ fold alike true l) _
    (λ l good p r f e h. let step : r ≡ alike good (p.0.now, p.1.now) = search rules in (step ∙ ap (λ g. alike g (p.0.now, p.1.now)) e ∙ sym (fold_push alike true l (p.0.now, p.1.now)), refl))
    _ _ true _ pairs.runs refl c.fold.ensures.ran in
    folded ∙ fold_same true c.args.x.now c.args.y.now c.if-x-y.true
