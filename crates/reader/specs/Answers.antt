-- Why a file is refused, by the decoder and by `validate`: the document's number and the place, or nothing where the file is accepted.
use Rattle.std.specs.Prelude.{ℕ, Option, Some, None, Result, Ok, Err}
use Rattle.tree.specs.Ans.{Ans, ok, refused}
use Rattle.refusal.specs.Refusal.{number_of}
use Rattle.refusal.specs.declared.Refused.{Refused}

abbrev pub refusal_of : {A : Type 0} → Ans A → Option (ℕ × ℕ)
refusal_of (ok value next) = None
refusal_of (refused number place) = Some (number, place)

abbrev pub told : Result (Unit {0}) Refused → Option (ℕ × ℕ)
told (Ok u) = None
told (Err r) = Some (number_of r.refusal, r.place)
