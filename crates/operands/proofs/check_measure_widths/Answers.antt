use Rattle.operands.proofs.WidthLaws.{widths_said}
use Rattle.operands.proofs.check_measure_widths.Goals as goal

pub returns-in_default-operand_width : goal.returns-in_default-operand_width
returns-in_default-operand_width c = search widths_said

pub returns-then-a-b : goal.returns-then-a-b
returns-then-a-b c = search widths_said

pub returns : goal.returns
returns c = search widths_said
