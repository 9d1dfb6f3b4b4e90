-- What the code's answer says: the value and the next place, or the document's number of the refusal and its place.
use Rattle.std.specs.Prelude.{◌≡◌, ℕ, Bool, cond, List}
use Rattle.refusal.specs.Refusal.{number_of}
use Rattle.tree.specs.Ans.{Ans, ok, refused, Reader, bind}
use Rattle.reading.specs.declared.answers.Read.{Read}
use Rattle.reading.specs.declared.answers.Read.TheVariants.{At, Refused}

abbrev pub answer : {A : Type 0} → Read A → Ans A
answer (At value next) = ok value next
answer (Refused r) = refused (number_of r.refusal) r.place

-- an answer without its value
unfoldable pub forget : {A : Type 0} → Ans A → Ans (Unit {0})
forget (ok value next) = ok tt next
forget (refused number place) = refused number place

-- the second answer is the first with another value, which the relation allows for the first one's
abbrev pub Mapped : {A B : Type 0} → (A → B → Type 0) → Ans A → Ans B → Type 0
Mapped {A} {B} f (ok value next) y = (w : B) × f value w × (y ≡ ok w next)
Mapped f (refused number place) y = y ≡ refused number place

-- an answer of whose value the test holds, or the refusal
unfoldable pub tested : {A : Type 0} → (A → Bool) → ℕ → ℕ → Ans A → Ans A
tested test number place x = bind x (λ value next. cond (test value) (ok value next) (refused number place))

-- what a closure's calls answer is what the reader says of the file from the same place
abbrev pub Reads : (ℕ → Read (Unit {0}) → Type 0) → Reader (Unit {0}) → List ℕ → Type 0
Reads post p s = (k : ℕ) (r : Read (Unit {0})) → post k r → answer r ≡ p s k
