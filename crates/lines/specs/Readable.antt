-- The text with a number can be read.
use Rattle.std.specs.Prelude.{ℕ, ◌<◌, List, length}
use Rattle.context.specs.View.{TextAt}

pub record Readable (tree places : List ℕ) (x : ℕ) : Type 0 where
  pub inside : x < length places
  pub text_at : TextAt tree places x
