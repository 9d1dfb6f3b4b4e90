use Rattle.std.proofs.lemmas.Result.{err_from_is_err_and}
use Rattle.checker.proofs.Judging.{file-accepted, judged-refused, judged-program}
use Rattle.checker.proofs.check_file.Goals as goal

pub check_program-requires : goal.check_program-requires
check_program-requires c = (file-accepted _ c.in_ok-validate.ensures, c.requires)

pub returns-in_err-validate : goal.returns-in_err-validate
returns-in_err-validate c =
    let p = err_from_is_err_and c.from_residual.result c.from_residual.ensures.1 in
    rw (p.1, p.2) (judged-refused _ _ _ _ c.in_err-validate.ensures)

pub returns : goal.returns
returns c = judged-program _ _ _ _ _ _ (file-accepted _ c.in_ok-validate.ensures) c.check_program.ensures
