-- What is accepted by levels: where its case byte stands, that a level is left, what its case reads, and that the place goes forward.
-- Assumes nothing.
use Rattle.std.specs.Prelude.{ℕ, zero, suc, ◌+◌, ◌-◌, ◌≤◌, ◌<◌, ◌≡◌, refl, List, length, get_or}
use Rattle.std.proofs.Common.{arith, sub-one}
use Rattle.tree.specs.Ans.{Reader, IsOk, next_of}
use Rattle.tree.specs.Levels.{Levelled}
use Rattle.accepted.specs.Parts.{Goes, start, stops}
use Rattle.accepted.specs.Fields.{choice_in, choice-below, choice}
use Rattle.accepted.specs.Ends.{Moves, refuse-moves, choice-moves}

module _ {A : Type 0} {cases : ℕ} {arm : Reader A → ℕ → ℕ → Reader A} {f : ℕ → Reader A} (L : Levelled cases arm f) where
  pub level_in : (left : ℕ) (s : List ℕ) (at : ℕ) → IsOk (f left s at) → at < length s
  level_in zero s at h = choice_in s at cases _ (start (rw L.none at h))
  level_in (suc left) s at h = choice_in s at cases _ (start (rw (L.more left) at h))

  pub level-below : (left : ℕ) (s : List ℕ) (at : ℕ) → IsOk (f left s at) → get_or s at 0 < cases
  level-below zero s at h = choice-below s at cases _ (start (rw L.none at h))
  level-below (suc left) s at h = choice-below s at cases _ (start (rw (L.more left) at h))

  pub level-left : (left : ℕ) (s : List ℕ) (at : ℕ) → IsOk (f left s at) → 0 < left
  level-left zero s at h = absurd (stops _ _ (choice s at cases _ (start (rw L.none at h)) _ refl))
  level-left (suc left) s at h = omega arith

  -- behind the case byte
  pub level-goes : (left : ℕ) (s : List ℕ) (at : ℕ) → IsOk (f left s at) → (c : ℕ) → get_or s at 0 ≡ c → Goes (f left s at) (arm (f (left - 1)) at c) s (at + 1)
  level-goes zero s at h c e = let l = level-left 0 s at h in absurd (omega arith)
  level-goes (suc left) s at h c e = rw (sub-one, L.more left) (choice s at cases _ (start (rw (L.more left) at h)) c e)

  -- forward, if each case goes forward where what is inside does
  module _ (m : (inner : Reader A) → Moves inner → (place c : ℕ) → Moves (arm inner place c)) where
    pub level-moves : (left : ℕ) → Moves (f left)
    level-moves zero = rw L.none (choice-moves cases _ (λ place c. refuse-moves 6 place))
    level-moves (suc left) = rw (L.more left) (choice-moves cases _ (m (f left) (level-moves left)))

    module _ (left : ℕ) (s : List ℕ) (at : ℕ) (h : IsOk (f left s at)) where
      within : at ≤ length s
      within = let i = level_in left s at h in omega arith

      pub level_forward : at ≤ next_of (f left s at)
      level_forward = ((level-moves left).moves s at within h).0

      pub level-end : next_of (f left s at) ≤ length s
      level-end = ((level-moves left).moves s at within h).1
