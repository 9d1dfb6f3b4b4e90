use Rattle.std.proofs.Common.{sym, arith}
use Rattle.std.proofs.Math.ListN.{length-take}
use Rattle.reading.proofs.Gathered.{count-few}
use Rattle.reader.proofs.read_file.Goals as goal

pub slice_bounds-source-end : goal.slice_bounds-source-end
slice_bounds-source-end c = let few = count-few c.args.s.now c.from-n.result c.in-At.first (rw c.from-n.ensures (sym c.in-At.ensures)) in omega (arith, few, c.read_texts-b.ensures.long, length-take c.from-n.result c.read_texts-b.new.kinds)
