use Rattle.std.proofs.Common.{refl, arith}
use Rattle.sema.specs.Messages.{note_parts}
use Rattle.lines.proofs.Lines.{note-said, said-all, then_said}
use Rattle.lines.proofs.messages.store_note.Goals as goal

pub returns-in-FirstDeclared : goal.returns-in-FirstDeclared
unfolding note_parts
returns-in-FirstDeclared c = note-said _ c.in-FirstDeclared.is c.named.ensures refl (omega arith)

pub returns-in-DeclaredAs : goal.returns-in-DeclaredAs
unfolding note_parts
returns-in-DeclaredAs c = note-said _ c.in-DeclaredAs.is (then_said c.say-p.ensures (then_said c.say-q.ensures (said-all c.copy.ensures))) refl (omega arith)

pub returns-in-DeclaredWithSize : goal.returns-in-DeclaredWithSize
unfolding note_parts
returns-in-DeclaredWithSize c = note-said _ c.in-DeclaredWithSize.is (then_said c.say-p-in-DeclaredWithSize.ensures (then_said c.say-q-in-DeclaredWithSize.ensures (said-all c.copy-in-DeclaredWithSize.ensures))) refl (omega arith)

pub returns-in-DeclaredWithoutSize : goal.returns-in-DeclaredWithoutSize
unfolding note_parts
returns-in-DeclaredWithoutSize c = note-said _ c.in-DeclaredWithoutSize.is c.named-in-DeclaredWithoutSize.ensures refl (omega arith)

pub returns-in-MeasuredHere : goal.returns-in-MeasuredHere
unfolding note_parts
returns-in-MeasuredHere c = note-said _ c.in-MeasuredHere.is (said-all c.copy-in-MeasuredHere.ensures) refl (omega arith)

pub returns-in-DefinedHere : goal.returns-in-DefinedHere
unfolding note_parts
returns-in-DefinedHere c = note-said _ c.in-DefinedHere.is c.named-in-DefinedHere.ensures refl (omega arith)

pub returns-in-FirstDefined : goal.returns-in-FirstDefined
unfolding note_parts
returns-in-FirstDefined c = note-said _ c.in-FirstDefined.is (said-all c.copy-in-FirstDefined.ensures) refl (omega arith)

pub returns-in-TargetDeclared : goal.returns-in-TargetDeclared
unfolding note_parts
returns-in-TargetDeclared c = note-said _ c.in-TargetDeclared.is (said-all c.copy-in-TargetDeclared.ensures) refl (omega arith)

pub returns-in-FunctionDefined : goal.returns-in-FunctionDefined
unfolding note_parts
returns-in-FunctionDefined c = note-said _ c.in-FunctionDefined.is (said-all c.copy-in-FunctionDefined.ensures) refl (omega arith)
