use Rattle.std.proofs.Common.{rules}
use Rattle.operands.proofs.Checks.{slice_fault_said, within}
use Rattle.operands.proofs.bounds.Declared.slice_fault.Goals as goal

pub returns : goal.returns
returns c = slice_fault_said _ _ _ (c.find_fault.ensures within (λ p n r q. search rules))
