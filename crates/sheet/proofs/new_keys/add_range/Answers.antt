use Rattle.std.proofs.Common.{arith}
use Rattle.sheet.proofs.Adding.{near-small}
use Rattle.sheet.proofs.new_keys.add_range.Goals as goal

pub overflow_add-first : goal.overflow_add-first
overflow_add-first c = let i = c.loop-j.invariant in omega (arith, near-small _ _ _ _ _ _ _ _ c.find.ensures c.unwrap_or-first.ensures c.requires.indexed.few i.within i.most)
