-- Operands that are passed over. Assumes nothing.
use Rattle.std.specs.Prelude.{ℕ, Bool, false, ◌&&◌, List, ◌++◌}
use Rattle.span.specs.declared.Span.{Span}
use Rattle.ast.specs.Tree.{Text}
use Rattle.tree.specs.Ans.{given}
use Rattle.tree.specs.Stmts.{operand}
use Rattle.sema.specs.Messages.{a_qubit}
use Rattle.sema.specs.Symbols.{Symbols}
use Rattle.sema.specs.Marks.{Marks}
use Rattle.sema.specs.Operands.{check_operand, check_use_after_measure}
use Rattle.accepted.specs.Singles.{is_single}
use Rattle.operands.specs.Says.{nothing}

-- has the operand at a place an index and no slice, and is nothing said of it?
abbrev pub passing : List Text → List ℕ → Symbols → Marks → Span → ℕ → Bool
passing t s ss m sp at = is_single s at && given false (λ op. nothing (check_operand ss op a_qubit ++ check_use_after_measure m op sp)) (operand t s at)
