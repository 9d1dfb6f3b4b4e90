-- The limits of the tree file, each named once.
use Rattle.std.specs.Prelude.{ℕ}

-- bytes of a file
abbrev pub file_limit : ℕ
file_limit = 16384

-- texts of a file
abbrev pub texts_limit : ℕ
texts_limit = 256

-- bytes of a text
abbrev pub text_limit : ℕ
text_limit = 64

-- values of a Vec with a one-byte count
abbrev pub vec_limit : ℕ
vec_limit = 16

-- levels of statements, and of expressions
abbrev pub stmt_levels : ℕ
stmt_levels = 8

abbrev pub expr_levels : ℕ
expr_levels = 32
