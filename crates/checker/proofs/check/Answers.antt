use Rattle.checker.proofs.Judging.{call-short, call-judged, call_billed}
use Rattle.checker.proofs.check.Goals as goal

pub returns-then-scratch-lt65536 : goal.returns-then-scratch-lt65536
returns-then-scratch-lt65536 c =
    let r = call-short _ _ _ c.if-scratch-lt65536.true in
    rw c.at.ensures (record { answers = r.0; listed = r.1; cleared = r.2; billed = call_billed _ _ _ _ _ r.0 r.1 })

pub returns : goal.returns
returns c =
    let r = call-judged _ _ _ c.if-scratch-lt65536.false _ _ _ _ c.check_file-answer.ensures c.clear.ensures in
    record { answers = r.0; listed = r.1; cleared = r.2; billed = call_billed _ _ _ _ _ r.0 r.1 }
