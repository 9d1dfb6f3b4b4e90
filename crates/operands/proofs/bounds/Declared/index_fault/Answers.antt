use Rattle.std.proofs.Common.{rules}
use Rattle.std.specs.Prelude.{ltb}
use Rattle.operands.proofs.Checks.{index_fault_said}
use Rattle.operands.proofs.bounds.Declared.index_fault.Goals as goal

pub returns : goal.returns
returns c = index_fault_said _ _ _ (c.find_fault.ensures ltb (λ p n r q. search rules))
