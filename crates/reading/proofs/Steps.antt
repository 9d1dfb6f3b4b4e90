-- A `do` block of the decoder, step by step, also where of a step the place alone is known. Assumes nothing.
use Rattle.std.proofs.Common.{◌≡◌, refl, ℕ, List}
use Rattle.tree.specs.Ans.{Ans, ok, refused, Reader, bind, ◌>>=◌, ◌>>◌}
use Rattle.reading.specs.Answers.{forget}

pub then_is : {A B : Type 0} (r : Reader A) (f : A → Reader B) (s : List ℕ) (at : ℕ) → ◌>>=◌ r f s at ≡ bind (r s at) (λ a k. f a s k)
unfolding ◌>>=◌
then_is r f s at = refl

pub and_is : {A : Type 0} (r : Reader (Unit {0})) (q : Reader A) (s : List ℕ) (at : ℕ) → ◌>>◌ r q s at ≡ bind (r s at) (λ u k. q s k)
unfolding ◌>>◌
and_is r q s at = refl

pub bind_ok : {A B : Type 0} (a : A) (k : ℕ) (f : A → ℕ → Ans B) → bind (ok a k) f ≡ f a k
unfolding bind
bind_ok a k f = refl

pub bind_refused : {A B : Type 0} (n p : ℕ) (f : A → ℕ → Ans B) → bind (refused n p) f ≡ refused n p
unfolding bind
bind_refused n p f = refl

pub forget_goes : {A : Type 0} (x : Ans A) (k : ℕ) → ok tt k ≡ forget x → (v : A) × (x ≡ ok v k)
unfolding forget
forget_goes (ok v m) k e = (v, (let z : m ≡ k = cc in rw z))
forget_goes (refused n p) k e = absurd cc

pub forget_stops : {A : Type 0} (x : Ans A) (n p : ℕ) → refused n p ≡ forget x → x ≡ refused n p
unfolding forget
forget_stops (ok v m) n p e = absurd cc
forget_stops (refused o q) n p e = let z : n ≡ o = cc in let y : p ≡ q = cc in rw (z, y)

pub ruleset steps = (then_is, and_is, bind_ok, bind_refused, forget_goes, forget_stops)
