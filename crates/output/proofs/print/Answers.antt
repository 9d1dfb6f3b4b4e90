use Rattle.std.proofs.Common.{sym, ap}
use Rattle.std.proofs.Math.Seq.{length-take-le}
use Rattle.verdict.specs.Verdict.{answer_of}
use Rattle.output.proofs.print.Goals as goal

pub slice_bounds-write_all-end : goal.slice_bounds-write_all-end
slice_bounds-write_all-end g c = sym (length-take-le _ _ (c.requires _ _ _ (ap answer_of c.in-Ok.is)))
