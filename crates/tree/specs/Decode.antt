-- The decoder: from the bytes of a file to its program, or to a refusal's number (2 to 6) and place.
use Rattle.std.specs.Prelude.{ℕ, List, [], length, leb}
use Rattle.ast.specs.Tree.{Text, Program}
use Rattle.tree.specs.Limits.{file_limit, stmt_levels}
use Rattle.tree.specs.Ans.{Ans, ok, Reader, ◌>>=◌, ◌>>◌, done, here, check, given}
use Rattle.tree.specs.Texts.{texts}
use Rattle.tree.specs.Stmts.{body, stmt}

-- the number of bytes of the file
unfoldable pub size : Reader ℕ
size = λ s at. ok (length s) at

-- "Nothing follows."
unfoldable pub nothing_left : Reader (Unit {0})
nothing_left = do
  at ← here
  n ← size
  check (leb n at) 3 at

unfoldable pub file : Reader Program
file = do
  n ← size
  check (leb n file_limit) 2 file_limit
  t ← texts
  b ← body (stmt t stmt_levels)
  nothing_left
  done (record { texts = t; statements = b })

unfoldable pub decode : List ℕ → Ans Program
decode s = file s 0

-- the texts of a file; none where they are refused
unfoldable pub texts_of : List ℕ → List Text
texts_of s = given [] (λ t. t) (texts s 0)
