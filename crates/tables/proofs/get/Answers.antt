use Rattle.std.proofs.Common.{rules, arith}
use Rattle.std.specs.Iterator.Runs.{ItemsCountDown}
use Rattle.std.proofs.iter.runs.Sources.{range_runs_back}
use Rattle.tables.proofs.Views.{same_down, asked}
use Rattle.tables.proofs.get.Goals as goal

pub returns : goal.returns
returns c =
    let (p, from, m) = c.find_map.ensures.runs in
    let (q, begun, same) = c.rev.ensures.runs p p.seen from in
    let down : ItemsCountDown q 0 c.args.depth = rw begun at (range_runs_back q q.seen) in
    asked p _ _ c.args.scratch.now c.args.depth c.args.x c.find_map.result (omega arith) (λ a r f e. search rules) (same_down p q 0 c.args.depth same down) (λ i v h e. search rules) m
