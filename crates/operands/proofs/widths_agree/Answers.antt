use Rattle.std.proofs.Common.{arith, refl, sym, ◌∙◌}
use Rattle.accepted.specs.Operands.{operand_below}
use Rattle.accepted.specs.Fields.{counted_in}
use Rattle.operands.proofs.VecLaws.{left-inside, meeting-few, meeting-start, meeting-more, meeting-differ, meeting_single, meeting-end}
use Rattle.operands.proofs.widths_agree.Goals as goal
use Rattle.operands.proofs.widths_agree.Goals.{then-is_single, else-is_single+else-differ}

pub overflow_add-k : goal.overflow_add-k
overflow_add-k c = let i = counted_in _ _ _ _ _ c.requires in omega arith

pub returns-then-n-lt2 : goal.returns-then-n-lt2
returns-then-n-lt2 c = meeting-few _ _ _ _ _ c.requires refl c.if-n-lt2.true

pub loop-init : goal.loop-init
loop-init c = meeting-start _ _ _ _ _ c.requires refl

pub overflow_add-k-then-is_single : goal.overflow_add-k-then-is_single
overflow_add-k-then-is_single c =
    let i = left-inside _ _ _ _ _ _ c.loop.invariant.remains c.loop-test.true (sym c.is_single.ensures ∙ c.if-is_single.true) in omega arith

pub operand_width-requires : goal.operand_width-requires
operand_width-requires c =
    let l = operand_below _ _ _ c.operand_at-op.result.value c.operand_at-op.ensures in
    omega (arith, c.args.sema.texts.placed.few)

pub returns-then-differ : goal.returns-then-differ
returns-then-differ c =
    meeting-differ _ _ _ _ _ _ _ _ c.loop.invariant c.loop-test.true _ _ c.operand_at-op.ensures _ c.operand_width.ensures _ c.above_one-width.ensures _ c.differ.ensures c.if-differ.true

pub loop-preserved : goal.loop-preserved
loop-preserved c =
    elim c.if-is_single.branch [
      | then-is_single w ↦ rw (w.k-is, w.met-is) (search meeting_single)
      | else-is_single+else-differ w ↦ rw (w.k-is, w.met-is) (search meeting-more)
    ]

pub returns : goal.returns
returns c = meeting-end _ _ _ _ _ _ _ _ c.loop.invariant c.loop-test.false
