use Rattle.std.proofs.Common.{rules, ◌∙◌, arith, length-set}
use Rattle.tables.proofs.Bytes.{put_number, put_zeros}
use Rattle.tables.proofs.Stores.{size-stored, no_size_stored, size_fits, no_size_fits}
use Rattle.tables.proofs.store_size.Goals as goal

pub returns-in-Some : goal.returns-in-Some
returns-in-Some c = (
  size-stored _ _ _ _ _ c.in-Some.is
      (put_number 8 _ _ _ _ _ (c.copy_from_slice.ensures.after ∙ c.to_be_bytes.ensures) (omega arith) (simp length-set (omega arith))),
  search (size_fits, rules),
)

pub returns-in-None : goal.returns-in-None
returns-in-None c = (
  no_size_stored _ _ _ _ c.in-None.is (put_zeros _ _ _ _ 9 (c.fill.ensures.after (λ y e. e)) (omega arith) (omega arith)),
  search no_size_fits,
)
