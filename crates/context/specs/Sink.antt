-- The listing as it grows: each diagnostic's lines are stored where the buffer has room. After one diagnostic more than the limit nothing
-- is added: the call will be refused.
use Rattle.std.specs.Prelude.{ℕ, suc, ◌+◌, List, [], ◌∷◌, true, false, length, leb}
use Rattle.std.proofs.lemmas.List.Edits.{sets}
use Rattle.ast.specs.Tree.{Text}
use Rattle.sema.specs.Limits.{diagnostic_limit}
use Rattle.sema.specs.Messages.{Diagnostic, Severity, Error, Warning}
use Rattle.listing.specs.Listing.{ended, diagnostic_lines}
use Rattle.context.specs.declared.Sink.{Sink}

-- the buffer and the counts
pub record Written : Type 0 where
  pub out : List ℕ
  pub n : ℕ
  pub errors : ℕ
  pub warnings : ℕ

abbrev pub written_of : Sink → List ℕ → Written
written_of s out = record { out = out; n = s.n; errors = s.errors; warnings = s.warnings }

-- xs stored from the end of what is written on
abbrev pub store : List ℕ → Severity → Written → Written
store xs Error w = record { out = sets w.out w.n xs; n = w.n + length xs; errors = suc w.errors; warnings = w.warnings }
store xs Warning w = record { out = sets w.out w.n xs; n = w.n + length xs; errors = w.errors; warnings = suc w.warnings }

-- the bytes of one diagnostic: its line, and its note's
unfoldable pub bytes_of : List Text → Diagnostic → List ℕ
bytes_of t d = ended (diagnostic_lines t (d ∷ []))

unfoldable pub emit_one : List Text → Diagnostic → Written → Written
emit_one t d w = elim (leb (w.errors + w.warnings) diagnostic_limit) [ true ↦ store (bytes_of t d) d.severity w | false ↦ w ]

unfoldable pub emit : List Text → List Diagnostic → Written → Written
emit t [] w = w
emit t (d ∷ ds) w = emit t ds (emit_one t d w)
