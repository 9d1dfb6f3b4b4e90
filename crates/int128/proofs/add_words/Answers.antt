use Rattle.std.proofs.Common.{arith, ◌+◌}
use Rattle.int128.proofs.Halves.{fits, over}
use Rattle.int128.proofs.add_words.Goals as goal

pub returns-in_err-checked_add : goal.returns-in_err-checked_add
returns-in_err-checked_add c = rw c.from_residual.ensures (over _ (c.args.a.hi + c.args.b.hi) 0 (omega arith) (omega arith))

pub returns-in_err-hi : goal.returns-in_err-hi
returns-in_err-hi c = rw c.from_residual-in_err-hi.ensures (over _ 18446744073709551616 0 (omega arith) (omega arith))

pub returns : goal.returns
returns c = fits _ _ _ (omega arith) (omega arith) (omega arith)
