-- Statements by their case byte. Assumes nothing.
use Prim.Native.Nat.{ℕ, ◌≤◌, ◌<◌}
use mathlib.Core.Path.{◌≡◌}
use mathlib.Core.Bool.{true, false, not, and-eq-true_iff}
use lib.Dec.{eqb, ltb}
use borrow.Author.Tests.{ltb-true, ltb-false, ne_eqb, eqb-false, not-true}
use Rattle.walk.specs.Bodies.{is_plain}

-- what a plain statement is not
plain-parts : (n : ℕ) → is_plain n ≡ true → (eqb n 6 ≡ false) × (n < 12)
unfolding is_plain
plain-parts n e =
    let g = (and-eq-true_iff (not (eqb n 6)) (ltb n 12)).0 e in
    (not-true (eqb n 6) g.0, ltb-true n 12 g.1)

pub plain-below : (n : ℕ) → is_plain n ≡ true → n < 12
plain-below n e = (plain-parts n e).1

pub plain_other : (n : ℕ) → is_plain n ≡ true → n ≡ 6 → ⊥
plain_other n e = eqb-false n 6 (plain-parts n e).0

-- the others, but for gate definitions, have the last case bytes
pub late : (n : ℕ) → is_plain n ≡ false → (n ≡ 6 → ⊥) → 12 ≤ n
unfolding is_plain
late n e h = ltb-false n 12 (rw (ne_eqb n 6 h) at e)
