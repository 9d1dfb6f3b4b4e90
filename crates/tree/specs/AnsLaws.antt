-- What is known of answers. Assumes nothing.
use Rattle.std.specs.Prelude.{ℕ, ◌≡◌, refl, List, Bool, true, false}
use Rattle.std.proofs.Common.{arith}
use Rattle.tree.specs.Ans.{Ans, ok, refused, bind, refuse, check}

-- a refusal is no value
pub never_ok : {A : Type 0} {x : Ans A} {v : A} {k number place : ℕ} → x ≡ ok v k → x ≡ refused number place → ⊥
never_ok e h = let z : ◌≡◌ {A = ℕ} 0 1 = cc in omega arith

-- a value came of two readers: the first gave one, and the second goes on from it
pub record Came {A B : Type 0} (a : Ans A) (f : A → ℕ → Ans B) (b : B) (n : ℕ) : Type 0 where
  pub value : A
  pub next : ℕ
  pub from : a ≡ ok value next
  pub then : f value next ≡ ok b n

pub came : {A B : Type 0} (a : Ans A) (f : A → ℕ → Ans B) (b : B) (n : ℕ) → bind a f ≡ ok b n → Came a f b n
unfolding bind
came (ok a k) f b n e = record { value = a; next = k; from = refl; then = e }
came (refused k p) f b n e = absurd (never_ok e refl)

-- a check that was passed
pub passed : (b : Bool) (number place : ℕ) (s : List ℕ) (at next : ℕ) (u : Unit {0}) → check b number place s at ≡ ok u next → b ≡ true
unfolding check refuse
passed true number place s at next u e = refl
passed false number place s at next u e = absurd (never_ok e refl)
