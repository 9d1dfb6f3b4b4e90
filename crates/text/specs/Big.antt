-- Numbers of bytes. Assumes nothing.
use Rattle.std.specs.Prelude.{ℕ, ◌+◌, ◌*◌, List, [], ◌∷◌}

-- the number whose bytes go on with these, the first of which counts most
unfoldable pub value : ℕ → List ℕ → ℕ
value high [] = high
value high (b ∷ bs) = value (high * 256 + b) bs
