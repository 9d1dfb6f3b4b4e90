-- Demand 3 for a call: what is claimed of the bytes that an accepted call leaves in the listing buffer.
use Rattle.std.specs.Prelude.{ℕ, List, [], take}
use Rattle.span.specs.declared.Span.{Span}
use Rattle.ast.specs.Tree.{Program, no_stmt}
use Rattle.tree.specs.Ans.{given}
use Rattle.tree.specs.Decode.{decode}
use Rattle.listing.specs.Cut.{lines_of}
use Rattle.paths.specs.Places.{Place, places_of}
use Rattle.paths.specs.Errors.{Line, ErrsOn, Number, count, Prints}
use Rattle.paths.specs.Lines.{use_text, use_line, is_line}

-- the program of a file
unfoldable pub program_of : List ℕ → Program
program_of tree = given (record { texts = []; statements = no_stmt }) (λ p. p) (decode tree)

-- the place's error has this span and this message, and some path reaches it with a covering mark standing
abbrev pub Billed : Program → Span → List ℕ → Place → Type 0
Billed p sp tail q = (l : Line) × ErrsOn p q l × Prints p.texts sp (use_text tail) l

-- in the first n bytes of the buffer, cut into lines at byte 10, there are as many lines `E start end use of qubit ..` with a span and a
-- message as there are operand places that are billed with them
abbrev pub Claim : List ℕ → List ℕ → ℕ → Type 0
Claim tree buffer n = (sp : Span) (tail : List ℕ)
    → Number (Billed (program_of tree) sp tail) (places_of (program_of tree)) (count (is_line (use_line sp tail)) (lines_of (take n buffer)))
