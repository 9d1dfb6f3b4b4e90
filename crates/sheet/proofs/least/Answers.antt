use Rattle.std.proofs.Common.{rules, arith}
use Rattle.std.proofs.lemmas.List.{length_push}
use Rattle.sheet.proofs.Loops.{comparing-start, comparing-name, comparing-other, comparing-unmarked, comparing-end}
use Rattle.sheet.proofs.Pairs.{pair_turn, pair_end}
use Rattle.sheet.proofs.least.Goals as goal
use Rattle.sheet.proofs.least.Goals.{else-place-ne0-via-then-place-ne0+else-key-x, else-place-ne0-via-else-place-ne0}

pub loop-key-init : goal.loop-key-init
loop-key-init c = comparing-start _ _ _ _

pub loop-key-preserved-then-key-x : goal.loop-key-preserved-then-key-x
loop-key-preserved-then-key-x c =
    let l = c.loop-key in
    let t = pair_turn c.args.keys.now c.args.sheet.now _ _ _ c.next.new.self _ l.yielded_by c.next.ensures.steps (search rules) (search rules) _ c.in-Some.is in
    rw (length_push l.yielded) (comparing-name l.invariant t.0 _ (rw t.1 at c.if-key-x.true) (rw (t.1, t.2) at c.offered-best.ensures))

pub loop-key-preserved : goal.loop-key-preserved
loop-key-preserved c =
    let l = c.loop-key in
    let t = pair_turn c.args.keys.now c.args.sheet.now _ _ _ c.next.new.self _ l.yielded_by c.next.ensures.steps (search rules) (search rules) _ c.in-Some.is in
    rw (length_push l.yielded)
    (elim c.else-place-ne0.branch [
      | else-place-ne0-via-then-place-ne0+else-key-x w ↦ comparing-other l.invariant t.0 (rw t.1 at w.if-key-x.false)
      | else-place-ne0-via-else-place-ne0 w ↦ comparing-unmarked l.invariant t.0 (rw t.2 at w.if-place-ne0.false)
    ])

pub returns : goal.returns
returns c =
    let l = c.loop-key in
    comparing-end l.invariant (pair_end c.args.keys.now c.args.sheet.now _ _ _ c.next.new.self _ l.yielded_by c.next.ensures.steps (search rules) (search rules) c.in-None.is (omega arith))
