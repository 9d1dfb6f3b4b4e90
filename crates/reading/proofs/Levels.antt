-- What is read by levels: the ways out before its cases, and the way through one of them. Assumes nothing.
use Rattle.std.proofs.Common.{◌≡◌, refl, ℕ, zero, suc, ◌-◌, List, sub-one}
use Rattle.tree.specs.Ans.{Reader, ok, refused, bind, ◌>>=◌, here, refuse}
use Rattle.tree.specs.Read.{case_byte}
use Rattle.tree.specs.Levels.{Levelled}

module _ {A : Type 0} {cases : ℕ} {arm : Reader A → ℕ → ℕ → Reader A} {f : ℕ → Reader A} (L : Levelled cases arm f) (left : ℕ) (s : List ℕ) (at : ℕ) where
  pub level-refused : (n p : ℕ) → case_byte cases s at ≡ refused n p → f left s at ≡ refused n p
  unfolding here ◌>>=◌ bind
  level-refused n p e = go left
    where
      go : (left : ℕ) → f left s at ≡ refused n p
      go zero = rw (L.none, e)
      go (suc left) = rw (L.more left, e)

  module _ (b k : ℕ) (e : case_byte cases s at ≡ ok b k) where
    pub level-over : left ≡ 0 → f left s at ≡ refused 6 at
    unfolding here refuse ◌>>=◌ bind
    level-over z = rw (z, L.none, e)

    pub level-arm : (left ≡ 0 → ⊥) → f left s at ≡ arm (f (left - 1)) at b s k
    unfolding here ◌>>=◌ bind
    level-arm deep = go left deep
      where
        go : (left : ℕ) → (left ≡ 0 → ⊥) → f left s at ≡ arm (f (left - 1)) at b s k
        go zero d = absurd (d refl)
        go (suc left) d = rw (L.more left, e, sub-one)
