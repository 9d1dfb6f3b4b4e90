-- The answer of the code, and what the first walk learns of a program.
use Rattle.std.specs.Prelude.{ℕ, ◌+◌, ◌≤◌, ◌<◌, ◌≡◌, Bool, true, false, List, [], ◌∷◌, length, Result, Ok, Err}
use Rattle.text.specs.Text.{text}
use Rattle.text.specs.Decimal.{decimal}
use Rattle.ast.specs.Tree.{Program}
use Rattle.sema.specs.Limits.{diagnostic_limit}
use Rattle.sema.specs.Messages.{Error, Warning}
use Rattle.sema.specs.Stmts.{analyze}
use Rattle.listing.specs.Listing.{ended, spaced, count_of}
use Rattle.context.specs.declared.Sink.{Sink}
use Rattle.lines.specs.EmitLaws.{all_bytes}
use Rattle.answer.specs.Answer.{Answer, accepted, refusal}
use Rattle.refusal.specs.declared.Refused.{Refused}
use Rattle.refusal.specs.Refusal.{number_of}
use Rattle.verdict.specs.declared.Listed.{Listed}

-- the answer of the code: errors, warnings and length where the tree is accepted, number and place where it is refused
abbrev pub answer_of : Result Listed Refused → Answer
answer_of (Ok l) = accepted l.errors l.warnings l.size
answer_of (Err r) = refusal (number_of r.refusal) r.place

abbrev pub is_accepted : Answer → Bool
is_accepted (accepted errors warnings size) = true
is_accepted (refusal number place) = false

-- the first line with these counts
abbrev pub head_of : ℕ → ℕ → List ℕ
head_of errors warnings = ended (spaced (text "list") (decimal errors ∷ decimal warnings ∷ []) ∷ [])

-- what the first walk learns of a program's diagnostics: that they are too many, or their counts and the length of their lines
pub record Learnt (p : Program) (r : Sink) : Type 0 where
  pub over : diagnostic_limit < length (analyze p) → diagnostic_limit < r.errors + r.warnings
  pub few : length (analyze p) ≤ diagnostic_limit → r.errors + r.warnings ≤ diagnostic_limit
  pub errors : length (analyze p) ≤ diagnostic_limit → r.errors ≡ count_of Error (analyze p)
  pub warnings : length (analyze p) ≤ diagnostic_limit → r.warnings ≡ count_of Warning (analyze p)
  pub bytes : length (analyze p) ≤ diagnostic_limit → r.n ≡ length (all_bytes p.texts (analyze p))

-- neither too many diagnostics nor too little room for the first line and the lines behind it
pub record Listable (sink : Sink) (room : ℕ) : Type 0 where
  pub few : sink.errors + sink.warnings ≤ diagnostic_limit
  pub fits : length (head_of sink.errors sink.warnings) + sink.n ≤ room
