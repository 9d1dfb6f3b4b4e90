use Rattle.std.proofs.Common.{rules}
use Rattle.reading.proofs.Gathered.{going_start, going_part, going_summed, going_refused, going_within, going_again, going_more, going_new, going_end}
use Rattle.reading.proofs.texts.read_texts.Goals as goal
use Rattle.reading.proofs.texts.read_texts.Goals.{else-met-slot-via-then-met-slot+else-is_repeated, else-met-slot-via-else-met-slot}

pub loop-i-init : goal.loop-i-init
loop-i-init c = going_start _ _ _ _ _ _ c.requires (search rules) (search rules) (search rules)

pub returns-in_default : goal.returns-in_default
returns-in_default c = going_refused _ _ _ _ _ _ _ c.loop-i.invariant c.loop-i-test.true _ _ c.read_text-a.ensures c.in_default.is _ c.into_place.ensures

pub slice_bounds-is_repeated-end : goal.slice_bounds-is_repeated-end
slice_bounds-is_repeated-end c = going_part _ _ _ _ _ _ _ c.loop-i.invariant

pub is_repeated-requires-clause-sums_in_bounds : goal.is_repeated-requires-clause-sums_in_bounds
is_repeated-requires-clause-sums_in_bounds c = going_within _ _ _ _ _ _ _ c.loop-i.invariant c.loop-i-test.true _ _ c.in-At.ensures

pub is_repeated-requires-clause-sums_value : goal.is_repeated-requires-clause-sums_value
is_repeated-requires-clause-sums_value c = going_summed _ _ _ _ _ _ _ c.loop-i.invariant

pub returns-then-is_repeated : goal.returns-then-is_repeated
returns-then-is_repeated c = going_again _ _ _ _ _ _ _ c.loop-i.invariant c.loop-i-test.true _ _ c.in-At.ensures _ c.is_repeated.ensures c.if-is_repeated.true _ c.refuse.ensures

pub loop-i-preserved : goal.loop-i-preserved
loop-i-preserved c =
    elim c.else-met-slot.branch [
      | else-met-slot-via-then-met-slot+else-is_repeated w ↦ going_more _ _ _ _ _ _ _ c.loop-i.invariant c.loop-i-test.true _ _ c.in-At.ensures _ w.is_repeated.ensures w.if-is_repeated.false _ _ c.checksum-sum.ensures c.slot_of-slot.ensures.0 c.slot_of-slot.ensures.1
      | else-met-slot-via-else-met-slot w ↦ going_new _ _ _ _ _ _ _ c.loop-i.invariant c.loop-i-test.true _ _ c.in-At.ensures _ _ c.checksum-sum.ensures c.slot_of-slot.ensures.0 c.slot_of-slot.ensures.1 w.if-met-slot.false
    ]

pub returns : goal.returns
returns c = going_end _ _ _ _ _ _ _ c.loop-i.invariant c.loop-i-test.false
