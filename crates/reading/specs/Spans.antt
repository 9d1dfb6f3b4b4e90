-- The eight bytes of a span.
use Rattle.std.specs.Prelude.{ℕ, List, [], ◌∷◌, slice_index}
use Rattle.std.specs.Int.{from_be_bytes, w32}
use Rattle.span.specs.declared.Span.{Span}

abbrev pub span_of : List ℕ → Span
span_of bs = record {
  start = from_be_bytes w32 (slice_index bs 0 ∷ slice_index bs 1 ∷ slice_index bs 2 ∷ slice_index bs 3 ∷ []);
  end = from_be_bytes w32 (slice_index bs 4 ∷ slice_index bs 5 ∷ slice_index bs 6 ∷ slice_index bs 7 ∷ []);
}
