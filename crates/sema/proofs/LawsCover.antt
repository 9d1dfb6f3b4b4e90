-- The smallest covered index of a slice: what it is. Assumes nothing.
use Prim.Native.Nat.{ℕ, zero, suc, ◌+◌, ◌-◌, ◌≤◌, ◌<◌}
use Rattle.std.specs.Prelude.{◌≡◌, ◌↔◌, ◌⊎◌}
use Rattle.std.proofs.Math.Path.{refl}
use Rattle.std.proofs.Common.{sym, ap, subst, ◌∙◌, ⊎_elim, arith}
use Rattle.std.proofs.Math.Logic.{inl, inr}
use Rattle.std.proofs.Math.Option.{Option, none, some}
use Rattle.std.proofs.Math.Decide.{ℕ_discrete, dec_lt}
use Rattle.span.specs.declared.Span.{Span}
use Rattle.ast.specs.Tree.{TextNumber}
use Rattle.sema.specs.Marks.{Marks, lookup_measured, first_covered, smallest_covered}
use Rattle.sema.specs.LawsCover.{Least, Within}

both : (o : Option Span) (sp : Span) → o ≡ none → o ≡ some sp → ⊥
both o sp p q = let z : ◌≡◌ {A = ℕ} 0 1 = cc in omega arith

module _ (D : ℕ → Type 0) (f : ℕ → Option Span) where
  -- there is one alone
  pub least-same : (r s : Option (ℕ × Span)) → Least D f r → Least D f s → r ≡ s
  least-same none none l m = refl
  least-same none (some s) l m = absurd (both (f s.0) s.1 (l s.0 m.0) m.1)
  least-same (some r) none l m = absurd (both (f r.0) r.1 (m r.0 l.0) l.1)
  least-same (some r) (some s) l m = go (dec_lt r.0 s.0) (dec_lt s.0 r.0)
    where
      go : Dec (r.0 < s.0) → Dec (s.0 < r.0) → some r ≡ some s
      go (yes p) q = absurd (both (f r.0) r.1 (m.2 r.0 l.0 p) l.1)
      go (no p) (yes q) = absurd (both (f s.0) s.1 (l.2 s.0 m.0 q) m.1)
      go (no p) (no q) =
          let e : r.0 ≡ s.0 = omega arith in
          let g : some r.1 ≡ some s.1 = sym l.1 ∙ (ap f e ∙ m.1) in
          let h : r.1 ≡ s.1 = cc in
          λ t. some (e t, h t)

  -- more indices, at which there is no mark
  pub least_on : (E : ℕ → Type 0) (r : Option (ℕ × Span)) → ((i : ℕ) → D i → E i) → ((i : ℕ) → E i → D i ⊎ (f i ≡ none)) → Least D f r → Least E f r
  least_on E none to from l = λ i e. ⊎_elim (l i) (λ n. n) (from i e)
  least_on E (some r) to from l = (to r.0 l.0, l.1, λ i e b. ⊎_elim (λ d. l.2 i d b) (λ n. n) (from i e))

-- one of so many indices, from a on
abbrev Next : ℕ → ℕ → ℕ → Type 0
Next n a i = (a ≤ i) × (i < a + n)

module _ (m : Marks) (x : TextNumber) where
  -- an index's mark, its own or that of the whole key
  abbrev covering : ℕ → Option Span
  covering i = lookup_measured m x (some i)

  first_covered_lem : (n a : ℕ) → Least (Next n a) covering (first_covered m x n a)
  unfolding first_covered
  first_covered_lem zero a = λ i d. absurd (omega arith)
  first_covered_lem (suc n) a = go (covering a) refl (first_covered_lem n (suc a))
    where
      next : covering a ≡ none → (i : ℕ) → Next (suc n) a i → Dec (i ≡ a) → Next n (suc a) i ⊎ (covering i ≡ none)
      next e i d (yes p) = inr (rw p e)
      next e i d (no p) = inl (omega arith)

      go : (o : Option Span) → covering a ≡ o → Least (Next n (suc a)) covering (first_covered m x n (suc a)) → Least (Next (suc n) a) covering (elim o [ none ↦ first_covered m x n (suc a) | some sp ↦ some (a, sp) ])
      go none e l = least_on (Next n (suc a)) covering (Next (suc n) a) (first_covered m x n (suc a)) (λ i d. omega arith) (λ i d. next e i d (ℕ_discrete i a)) l
      go (some sp) e l = (omega arith, e, λ i d b. absurd (omega arith))

  pub smallest_covered_lem : (r : ℕ × ℕ) → Least (Within r) covering (smallest_covered m x r)
  unfolding smallest_covered
  smallest_covered_lem r =
      let n = suc r.1 - r.0 in
      least_on (Next n r.0) covering (Within r) (first_covered m x n r.0) (λ i d. omega arith) (λ i d. inl (omega arith)) (first_covered_lem n r.0)

  module _ (a b : ℕ) where
    -- no index of the range is covered
    pub smallest-none : (smallest_covered m x (a, b) ≡ none) ↔ ((i : ℕ) → a ≤ i → i ≤ b → covering i ≡ none)
    smallest-none = (
      λ e i l h. subst (Least (Within (a, b)) covering) e (smallest_covered_lem (a, b)) i (l, h),
      λ n. least-same (Within (a, b)) covering (smallest_covered m x (a, b)) none (smallest_covered_lem (a, b)) (λ i d. n i d.0 d.1),
    )

    -- the index is in the range and covered, and no smaller one of the range is
    pub smallest-some : (i : ℕ) (sp : Span) → (smallest_covered m x (a, b) ≡ some (i, sp)) ↔ (a ≤ i) × (i ≤ b) × (covering i ≡ some sp) × ((j : ℕ) → a ≤ j → j < i → covering j ≡ none)
    smallest-some i sp = (
      λ e.
          let l : Least (Within (a, b)) covering (some (i, sp)) = subst (Least (Within (a, b)) covering) e (smallest_covered_lem (a, b)) in
          let d = l.0.1 in
          (l.0.0, d, l.1, λ j h s. l.2 j (h, omega arith) s),
      λ h. least-same (Within (a, b)) covering (smallest_covered m x (a, b)) (some (i, sp)) (smallest_covered_lem (a, b)) ((h.0, h.1), h.2, λ j d s. h.3 j d.0 s),
    )

    -- "start > end by none"
    pub smallest-empty : b < a → smallest_covered m x (a, b) ≡ none
    smallest-empty l = smallest-none.1 (λ i p q. absurd (omega arith))
