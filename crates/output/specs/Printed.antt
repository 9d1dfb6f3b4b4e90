-- What is printed of an answer: the listing, or refused, number and place.
use Rattle.std.specs.Prelude.{ℕ, List, [], ◌∷◌, ◌++◌, take}
use Rattle.std.specs.Fmt.{decimal}
use Rattle.text.specs.Text.{text}
use Rattle.answer.specs.Answer.{Answer, accepted, refusal}

-- the listing stands at the beginning of its buffer
abbrev pub printed : Answer → List ℕ → List ℕ
printed (accepted errors warnings size) listing = take size listing
printed (refusal number place) listing = text "refused " ++ (decimal number ++ (32 ∷ (decimal place ++ (10 ∷ []))))
