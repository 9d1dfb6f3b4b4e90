-- What a reader answers: a value and the place past it, or a refusal's number and place. Readers are written one after the other in `do`
-- blocks: each starts where the one before it ended, and the first refusal is the answer.
use Rattle.std.specs.Prelude.{ℕ, List, Bool, true, false}

pub data Ans (A : Type 0) : Type 0 where
  ok : (value : A) (next : ℕ) → Ans A
  refused : (number place : ℕ) → Ans A

-- from the bytes of the file and a place in it
abbrev pub Reader : Type 0 → Type 0
Reader A = List ℕ → ℕ → Ans A

unfoldable pub bind : {A B : Type 0} → Ans A → (A → ℕ → Ans B) → Ans B
bind (ok a next) f = f a next
bind (refused number place) f = refused number place

unfoldable pub ◌>>=◌ : {A B : Type 0} → Reader A → (A → Reader B) → Reader B
◌>>=◌ r f = λ s at. bind (r s at) (λ a next. f a s next)

unfoldable pub ◌>>◌ : {A : Type 0} → Reader (Unit {0}) → Reader A → Reader A
◌>>◌ r q = λ s at. bind (r s at) (λ _ next. q s next)

-- a value that takes no bytes
unfoldable pub done : {A : Type 0} → A → Reader A
done a = λ s at. ok a at

-- the place itself
unfoldable pub here : Reader ℕ
here = λ s at. ok at at

unfoldable pub refuse : {A : Type 0} → ℕ → ℕ → Reader A
refuse number place = λ s at. refused number place

-- go on if the test holds, refuse if not
unfoldable pub check : Bool → ℕ → ℕ → Reader (Unit {0})
check true number place = done tt
check false number place = refuse number place

-- the answer is a value
unfoldable pub IsOk : {A : Type 0} → Ans A → Type 0
IsOk (ok a next) = Unit {0}
IsOk (refused number place) = ⊥

-- the place past the value; 0 where there is none
unfoldable pub next_of : {A : Type 0} → Ans A → ℕ
next_of (ok a next) = next
next_of (refused number place) = 0

-- what f makes of the value; the first argument stands in where there is none
unfoldable pub given : {A B : Type 0} → B → (A → B) → Ans A → B
given b f (ok a next) = f a
given b f (refused number place) = b
