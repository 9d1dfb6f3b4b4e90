-- Tests and facts. Assumes nothing.
use mathlib.Core.Path.{◌≡◌, refl}
use mathlib.Core.Bool.{Bool, true, false, ◌&&◌, ◌||◌}
use mathlib.Core.Logic.{◌⊎◌, inl, inr, ⊎_elim, ◌↔◌}
use lib.Dec.{T}

-- a test that passes is true
pub true_of : (b : Bool) → T b → b ≡ true
true_of true t = refl
true_of false t = absurd t

pub and_both : (a b : Bool) → T (a && b) ↔ T a × T b
and_both true b = (λ t. (tt, t), λ t. t.1)
and_both false b = (absurd, λ t. t.0)

pub or-either : (a b : Bool) → T (a || b) ↔ T a ⊎ T b
or-either true b = (inl, λ t. tt)
or-either false b = (inr, ⊎_elim absurd (λ t. t))
