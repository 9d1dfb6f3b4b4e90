-- The limits of the analysis, each named once.
use Rattle.std.specs.Prelude.{ℕ}

-- keys that the measure statements of a tree may set
abbrev pub key_limit : ℕ
key_limit = 256

-- diagnostics of a tree
abbrev pub diagnostic_limit : ℕ
diagnostic_limit = 256
