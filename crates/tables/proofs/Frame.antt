-- What a store leaves as it was. Assumes nothing.
use Prim.Native.Nat.{ℕ, suc, ◌+◌, ◌≤◌, ◌<◌}
use mathlib.Core.Path.{◌≡◌, refl, sym, ◌∙◌}
use mathlib.Core.List.{List, [], ◌∷◌}
use mathlib.Core.Logic.{◌⊎◌, inl, inr, ⊎_elim}
use native.Mathlib.Omega.{arith}
use lib.ListN.{length, get_or, set, take, drop, length-set, length-take, length-drop}
use lib.Seq.{sets, get_or-set_other, get_or-take, get_or-drop, ext_get_or}

-- t is as long as s, and differs from it at most from a up to b
pub record Outside (a b : ℕ) (s t : List ℕ) : Type 0 where
  pub size : length t ≡ length s
  pub same : (i : ℕ) → (i < a) ⊎ (b ≤ i) → get_or t i 0 ≡ get_or s i 0

pub outside-none : (a b : ℕ) (s : List ℕ) → Outside a b s s
outside-none a b s = record { size = refl; same = λ i h. refl }

pub outside_set : {a b : ℕ} {s t : List ℕ} (i v : ℕ) → Outside a b s t → a ≤ i → i < b → Outside a b s (set t i v)
outside_set {a} {b} {s} {t} i v r h k =
    record {
      size = length-set t i v ∙ r.size;
      same = λ j o. get_or-set_other t i j v 0 (⊎_elim (λ (l : j < a). omega arith) (λ (l : b ≤ j). omega arith) o) ∙ r.same j o;
    }

pub outside-sets : {a b : ℕ} {s t : List ℕ} (vs : List ℕ) (i : ℕ) → Outside a b s t → a ≤ i → i + length vs ≤ b → Outside a b s (sets t i vs)
outside-sets [] i r h k = r
outside-sets (v ∷ vs) i r h k = outside-sets vs (suc i) (outside_set i v r h (omega arith)) (omega arith) (omega arith)

module _ {a b : ℕ} {s t : List ℕ} (r : Outside a b s t) where
  pub same-part : (p w : ℕ) → (p + w ≤ a) ⊎ (b ≤ p) → take w (drop p t) ≡ take w (drop p s)
  same-part p w o =
      let l : length (take w (drop p t)) ≡ length (take w (drop p s)) = simp (length-take, length-drop, r.size) in
      ext_get_or 0 (take w (drop p t)) (take w (drop p s)) l
      (λ i h.
      let k : i < w = omega (arith, h, length-take w (drop p t)) in
      let q : (p + i < a) ⊎ (b ≤ p + i) = ⊎_elim (λ (u : p + w ≤ a). inl (omega arith)) (λ (u : b ≤ p). inr (omega arith)) o in
      get_or-take w (drop p t) i 0 k ∙ get_or-drop p t i 0 ∙ r.same (p + i) q ∙ sym (get_or-take w (drop p s) i 0 k ∙ get_or-drop p s i 0))

  pub same_drop : (p : ℕ) → b ≤ p → drop p t ≡ drop p s
  same_drop p o =
      let l : length (drop p t) ≡ length (drop p s) = simp (length-drop, r.size) in
      ext_get_or 0 (drop p t) (drop p s) l (λ i h. get_or-drop p t i 0 ∙ r.same (p + i) (inr (omega arith)) ∙ sym (get_or-drop p s i 0))
