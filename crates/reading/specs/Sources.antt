-- What a reader over the texts of a file says of the file.
use Rattle.std.specs.Prelude.{ℕ, List}
use Rattle.ast.specs.Tree.{Text}
use Rattle.tree.specs.Ans.{Ans, Reader}
use Rattle.tree.specs.Decode.{texts_of}
use Rattle.reading.specs.declared.source.Source.{Source}

abbrev pub in_file : {A : Type 0} → (List Text → Reader A) → Source → ℕ → Ans A
in_file reader source at = reader (texts_of source.bytes.now) source.bytes.now at
