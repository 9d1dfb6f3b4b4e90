use Rattle.std.proofs.Common.{ℕ, arith, sym}
use Rattle.std.proofs.Math.ListN.{length-append, length-drop}
use Rattle.std.proofs.Math.Seq.{length-take-le}
use Rattle.index.proofs.Places.{few_placed, placing_start, place_inside, placing_more, placing_end}
use Rattle.index.proofs.place_texts.Goals as goal

pub slice_bounds-place-items-end-2 : goal.slice_bounds-place-items-end-2
slice_bounds-place-items-end-2 c =
    let few = few_placed _ c.requires.0 _ c.u16_at-n.ensures.0 in
    sym (length-take-le _ c.args.places.now (omega arith))

pub loop-place-init : goal.loop-place-init
loop-place-init c =
    let few = few_placed _ c.requires.0 _ c.u16_at-n.ensures.0 in
    placing_start _ c.requires.0 _ _ (length-take-le _ c.args.places.now (omega arith)) c.u16_at-n.ensures.0

pub bounds-tree-at : goal.bounds-tree-at
bounds-tree-at c =
    let inside = place_inside _ _ _ _ _ c.loop-place.invariant (omega arith) in
    omega arith

pub loop-place-preserved : goal.loop-place-preserved
loop-place-preserved c = placing_more _ _ _ _ _ c.loop-place.invariant (omega arith) _ (omega arith)

pub returns : goal.returns
returns c =
    let few = few_placed _ c.requires.0 _ c.u16_at-n.ensures.0 in
    placing_end _ _ _ _ _ c.loop-place.invariant (omega arith) (omega arith) _
    (omega (arith, length-append {A = ℕ}, length-drop {A = ℕ}))
