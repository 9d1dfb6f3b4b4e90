-- "First line: `list`, errors, warnings. Then for each diagnostic a line: E or W, span start, span end, message; with a note, a line N,
-- its span, its text. One space between fields, byte 10 after each line."
use Rattle.std.specs.Prelude.{ℕ, suc, List, [], ◌∷◌, ◌++◌}
use Rattle.std.proofs.Math.Option.{Option, none, some}
use Rattle.text.specs.Text.{text}
use Rattle.text.specs.Decimal.{decimal}
use Rattle.span.specs.declared.Span.{Span}
use Rattle.ast.specs.Tree.{Text, Program}
use Rattle.sema.specs.Messages.{Diagnostic, Severity, Error, Warning, Note, message_text, note_text}
use Rattle.sema.specs.Stmts.{analyze}

-- fields with a space between them
unfoldable pub spaced : List ℕ → List (List ℕ) → List ℕ
spaced f [] = f
spaced f (g ∷ gs) = f ++ (32 ∷ spaced g gs)

-- each line, and byte 10 after it
unfoldable pub ended : List (List ℕ) → List ℕ
ended [] = []
ended (l ∷ ls) = l ++ (10 ∷ ended ls)

unfoldable pub letter : Severity → List ℕ
letter Error = text "E"
letter Warning = text "W"

unfoldable pub span_line : List ℕ → Span → List ℕ → List ℕ
span_line head sp tail = spaced head (decimal sp.start ∷ decimal sp.end ∷ tail ∷ [])

unfoldable pub note_lines : List Text → Option (Note × Span) → List (List ℕ)
note_lines t none = []
note_lines t (some n) = span_line (text "N") n.1 (note_text t n.0) ∷ []

unfoldable pub diagnostic_line : List Text → Diagnostic → List ℕ
diagnostic_line t d = span_line (letter d.severity) d.span (message_text t d.message)

unfoldable pub diagnostic_lines : List Text → List Diagnostic → List (List ℕ)
diagnostic_lines t [] = []
diagnostic_lines t (d ∷ ds) = diagnostic_line t d ∷ (note_lines t d.secondary ++ diagnostic_lines t ds)

-- one more where the severity is that asked
unfoldable pub tally : Severity → Severity → ℕ → ℕ
tally Error Error n = suc n
tally Error Warning n = n
tally Warning Error n = n
tally Warning Warning n = suc n

-- how many of the diagnostics have a severity
unfoldable pub count_of : Severity → List Diagnostic → ℕ
count_of s [] = 0
count_of s (d ∷ ds) = tally s d.severity (count_of s ds)

unfoldable pub first_line : List Diagnostic → List ℕ
first_line ds = spaced (text "list") (decimal (count_of Error ds) ∷ decimal (count_of Warning ds) ∷ [])

unfoldable pub listing_of : List Text → List Diagnostic → List ℕ
listing_of t ds = ended (first_line ds ∷ diagnostic_lines t ds)

-- the listing of a program
unfoldable pub listing : Program → List ℕ
listing p = listing_of p.texts (analyze p)
