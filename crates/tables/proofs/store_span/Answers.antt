use Rattle.std.proofs.Common.{◌∙◌, arith}
use Rattle.tables.proofs.Bytes.{put_number}
use Rattle.tables.proofs.Stores.{span-stored}
use Rattle.tables.proofs.store_span.Goals as goal

pub returns : goal.returns
returns c = (
  span-stored _ _ _ _ _
      (put_number 4 _ _ _ _ _ (c.copy_from_slice.ensures.after ∙ c.to_be_bytes.ensures) (omega arith) (omega arith))
      (put_number 4 _ _ _ _ _ (c.copy_from_slice-2.ensures.after ∙ c.to_be_bytes-2.ensures) (omega arith) (omega arith)),
  record { start_fits = omega arith; end_fits = omega arith },
)
