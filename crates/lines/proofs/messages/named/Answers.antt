use Rattle.std.proofs.Common.{arith}
use Rattle.lines.proofs.Sink.{wrote_then}
use Rattle.lines.proofs.messages.named.Goals as goal

pub returns : goal.returns
returns c =
    rw (← c.name_of.ensures.shows)
    record {
      wrote = wrote_then c.copy-a.ensures (wrote_then c.copy-b.ensures c.copy.ensures);
      within = omega (arith, c.copy-a.ensures.after, c.copy-b.ensures.after, c.copy.ensures.after, c.name_of.ensures.short);
    }
