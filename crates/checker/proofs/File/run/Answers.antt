use Rattle.std.proofs.Common.{refl, arith}
use Rattle.checker.proofs.Programs.{program-body, program-walkable, ready-new}
use Rattle.checker.proofs.Runs.{ran-over, ran}
use Rattle.checker.proofs.File.run.Goals as goal

pub analyze_stmts-requires : goal.analyze_stmts-requires
analyze_stmts-requires c =
    let file = c.args.self in
    let blank = c.blank-marks.ensures in
    record {
      indexed = record { size = refl; few = omega arith };
      walkable = program-walkable _ file.accepted;
      ready = ready-new _ _ c.begin.ensures c.requires.0 (blank.placed _);
      accepted = program-body _ file.accepted _ file.begins;
      shallow = omega arith;
      blank = blank.behind;
    }

pub returns-in_err-end : goal.returns-in_err-end
returns-in_err-end c =
    let file = c.args.self in
    rw c.from_residual.ensures (ran-over _ _ _ _ _ _ _ _ _ _ file.accepted file.begins refl refl refl (c.blank-marks.ensures.marks _) c.begin.ensures c.in_err-end.ensures)

pub returns : goal.returns
returns c =
    let file = c.args.self in
    ran _ _ _ _ _ _ _ _ _ _ file.accepted file.begins refl refl refl (c.blank-marks.ensures.marks _) c.begin.ensures _ c.in_ok-end.ensures
