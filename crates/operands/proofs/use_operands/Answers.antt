use Rattle.std.proofs.Common.{arith, refl}
use Rattle.accepted.specs.Operands.{operand_below}
use Rattle.accepted.specs.Fields.{counted_in}
use Rattle.operands.proofs.VecLaws.{using_start, using_more, using_inside, using_pass, using_end}
use Rattle.operands.proofs.use_operands.Goals as goal
use Rattle.operands.proofs.use_operands.Goals.{then-passes, else-passes}

pub overflow_add-k : goal.overflow_add-k
overflow_add-k c = let i = counted_in _ _ _ _ _ c.requires in omega arith

pub loop-init : goal.loop-init
loop-init c = using_start _ _ _ _ _ _ _ _ _ c.requires refl

pub overflow_add-k-then-passes : goal.overflow_add-k-then-passes
overflow_add-k-then-passes c = let i = using_inside _ _ _ _ _ _ _ _ _ _ _ _ _ c.loop.invariant c.loop-test.true _ c.passes.ensures c.if-passes.true in omega arith

pub use_operand-s-requires : goal.use_operand-s-requires
use_operand-s-requires c =
    operand_below _ _ _ c.operand_at-op.result.value c.operand_at-op.ensures

pub loop-preserved : goal.loop-preserved
loop-preserved c =
    elim c.if-passes.branch [
      | then-passes w ↦ rw (w.out-is, w.k-is, w.s-is) (search using_pass)
      | else-passes w ↦ rw (w.out-is, w.k-is, w.s-is) (search using_more)
    ]

pub returns : goal.returns
returns c = search using_end
