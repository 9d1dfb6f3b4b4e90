-- The texts of a file, once they are read. Assumes nothing.
use Rattle.std.proofs.Common.{◌≡◌, ℕ, List}
use Rattle.ast.specs.Tree.{Text}
use Rattle.tree.specs.Ans.{ok, given}
use Rattle.tree.specs.Texts.{texts}
use Rattle.tree.specs.Decode.{texts_of}
use Rattle.reading.proofs.Gathered.{texts_counted, count-few}

pub texts_are : (s : List ℕ) (t : List Text) (k : ℕ) → texts s 0 ≡ ok t k → texts_of s ≡ t
unfolding texts_of given
texts_are s t k e = rw e

pub ruleset file_texts = (texts_are, texts_counted, count-few)
