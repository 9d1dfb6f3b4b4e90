use Rattle.std.proofs.Common.{◌≡◌, ℕ, ◌<◌, ◌/◌, ◌%◌, List, [], ◌∷◌, length, get_or, arith, rules}
use Rattle.std.proofs.lemmas.Nat.{be_bytes_4}
use Rattle.std.specs.Int.{w32, from_be_bytes}
use Rattle.cases.specs.Case.{length_bytes}
use Rattle.cases.proofs.size_in.Goals as goal

-- a number below 2 ^ 32 has no more than four bytes
length_bytes_is : (bs : List ℕ) (n : ℕ) → n < 4294967296 → length bs ≡ 4 → ((i : ℕ) → get_or bs i 0 < 256) → n ≡ from_be_bytes w32 bs → length_bytes n ≡ bs
length_bytes_is bs n small l bytes e =
    let high : n / 16777216 % 256 ≡ n / 16777216 = omega arith in
    let given : n / 16777216 % 256 ∷ n / 65536 % 256 ∷ n / 256 % 256 ∷ n % 256 ∷ [] ≡ bs = be_bytes_4 bs n l bytes e in
    rw high at given

pub returns : goal.returns
returns c = length_bytes_is _ _ (omega arith) (omega arith) (search rules) c.from_be_bytes.ensures
