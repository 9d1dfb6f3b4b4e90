use Rattle.operations.proofs.Called.{args_said}
use Rattle.operations.proofs.calls.check_args.Goals as goal

pub returns : goal.returns
returns c = args_said _ _ _ _ c.requires c.use_operands-s.ensures c.check_broadcasting.ensures
