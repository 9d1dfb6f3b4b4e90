-- "The errors counted are the E lines `use of qubit` .. `after measurement` of the listing": such a line as bytes.
use Rattle.std.specs.Prelude.{ℕ, ◌≡◌}
use mathlib.Core.List.{List, ◌++◌, List-discrete}
use Rattle.std.proofs.Math.Decide.{ℕ_discrete}
use Rattle.text.specs.Text.{text}
use Rattle.span.specs.declared.Span.{Span}
use Rattle.listing.specs.Listing.{span_line}

-- a message that begins so, and its line
abbrev pub use_text : List ℕ → List ℕ
use_text tail = text "use of qubit " ++ tail

abbrev pub use_line : Span → List ℕ → List ℕ
use_line sp tail = span_line (text "E") sp (use_text tail)

-- a line of bytes is this one
abbrev pub is_line : (b l : List ℕ) → Dec (l ≡ b)
is_line b l = List-discrete ℕ_discrete l b
