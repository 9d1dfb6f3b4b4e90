use Rattle.std.proofs.Common.{arith}
use Rattle.lines.proofs.Sink.{wrote_then}
use Rattle.lines.proofs.messages.around.Goals as goal

pub returns : goal.returns
returns c =
    record {
      wrote = wrote_then c.copy-a.ensures (wrote_then c.operand-b.ensures.wrote c.copy.ensures);
      within = omega (arith, c.copy-a.ensures.after, c.operand-b.ensures.within, c.copy.ensures.after);
    }
