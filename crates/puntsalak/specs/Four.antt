-- "accepted 0, errors, warnings, listing length; refused number, place, 0, 0"
use Rattle.std.specs.Prelude.{ℕ, List, [], ◌∷◌}
use Rattle.answer.specs.Answer.{Answer, accepted, refusal}

abbrev pub four_of : Answer → List ℕ
four_of (accepted errors warnings size) = 0 ∷ errors ∷ warnings ∷ size ∷ []
four_of (refusal number place) = number ∷ place ∷ 0 ∷ 0 ∷ []
