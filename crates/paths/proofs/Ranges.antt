-- The numbers of the statements in a list of steps, or of places, lie in a range. Assumes nothing.
use mathlib.Core.Path.{ap}
use mathlib.Core.List.Memᴰ
use mathlib.Core.List.{List, [], ◌∷◌, ◌++◌, Memᴰ}
use mathlib.Core.Logic.{inl, inr, ⊎_elim}
use Prim.Native.Nat.{ℕ, ◌≤◌, ◌<◌}
use native.Mathlib.Omega.{arith}
use Rattle.paths.specs.Steps.{Step, State, next, Reaches}
use Rattle.paths.specs.Places.{Place}

-- the numbers of all of a list are at least lo and below hi
pub data Within {A : Type 0} (f : A → ℕ) (lo hi : ℕ) : List A → Type 0 where
  bare : Within f lo hi []
  more : {a : A} {l : List A} → lo ≤ f a → f a < hi → Within f lo hi l → Within f lo hi (a ∷ l)

-- a list of places, and a list of steps, by the numbers of the statements
abbrev pub PlacesIn : ℕ → ℕ → List Place → Type 0
PlacesIn lo hi qs = Within (λ q. q.number) lo hi qs

abbrev pub StepsIn : ℕ → ℕ → List Step → Type 0
StepsIn lo hi π = Within (λ x. x.number) lo hi π

pub widen : {A : Type 0} {f : A → ℕ} {lo hi : ℕ} (lo' hi' : ℕ) → lo' ≤ lo → hi ≤ hi' → {l : List A} → Within f lo hi l → Within f lo' hi' l
widen lo' hi' x y bare = bare
widen lo' hi' x y (more {a = a} u v w) = more {a = a} (omega arith) (omega arith) (widen lo' hi' x y w)

pub within-append : {A : Type 0} {f : A → ℕ} {lo hi : ℕ} {k l : List A} → Within f lo hi k → Within f lo hi l → Within f lo hi (k ++ l)
within-append bare w = w
within-append (more x y v) w = more x y (within-append v w)

pub within_at : {A : Type 0} {f : A → ℕ} {lo hi : ℕ} {l : List A} → Within f lo hi l → {a : A} → Memᴰ a l → (lo ≤ f a) × (f a < hi)
within_at bare m = absurd (Memᴰ.not-nil m)
within_at {f} (more u v w) m = ⊎_elim (λ e. let d = ap f e in omega arith) (λ t. within_at w t) (Memᴰ.cases_cons m)

-- what a path reaches is one of its statements
pub reaches_in : (P : State → Type 0) {lo hi : ℕ} (m : State) {π : List Step} (a : ℕ) → StepsIn lo hi π → Reaches P m π a → (lo ≤ a) × (a < hi)
reaches_in P m a bare h = absurd h
reaches_in P m a (more u v w) (inl h) = let d = h.0 in omega arith
reaches_in P m a (more {a = x} u v w) (inr h) = reaches_in P (next m x) a w h
