-- How a path reaches a statement through the parts that the path is made of. Assumes nothing.
use mathlib.Core.Path.{◌≡◌, refl, sym, subst}
use mathlib.Core.List.{List, [], ◌∷◌, ◌++◌}
use mathlib.Core.Logic.{◌⊎◌, inl, inr, ◌↔◌}
use Prim.Native.Nat.{ℕ}
use Rattle.paths.specs.Steps.{Step, State, next, run, Reaches, Some, either}

-- ── One list after the other ──

pub run-append : (m : State) (xs ys : List Step) → run m (xs ++ ys) ≡ run (run m xs) ys
run-append m [] ys = refl
run-append m (x ∷ xs) ys = run-append (next m x) xs ys

⊎-right : {A B C : Type 0} → (B → C) → A ⊎ B → A ⊎ C
⊎-right f (inl a) = inl a
⊎-right f (inr b) = inr (f b)

⊎-assoc : {A B C : Type 0} → A ⊎ (B ⊎ C) → (A ⊎ B) ⊎ C
⊎-assoc (inl a) = inl (inl a)
⊎-assoc (inr (inl b)) = inl (inr b)
⊎-assoc (inr (inr c)) = inr c

drop-left : {A B : Type 0} → (A → ⊥) → A ⊎ B → B
drop-left f (inl a) = absurd (f a)
drop-left f (inr b) = b

drop-right : {A B : Type 0} → (B → ⊥) → A ⊎ B → A
drop-right f (inl a) = a
drop-right f (inr b) = absurd (f b)

module _ (P : State → Type 0) where
  reaches-split : (m : State) (xs ys : List Step) (a : ℕ) → Reaches P m (xs ++ ys) a → Reaches P m xs a ⊎ Reaches P (run m xs) ys a
  reaches-split m [] ys a h = inr h
  reaches-split m (x ∷ xs) ys a h = ⊎-assoc (⊎-right (reaches-split (next m x) xs ys a) h)

  reaches-left : (m : State) (xs ys : List Step) (a : ℕ) → Reaches P m xs a → Reaches P m (xs ++ ys) a
  reaches-left m [] ys a h = absurd h
  reaches-left m (x ∷ xs) ys a h = ⊎-right (reaches-left (next m x) xs ys a) h

  reaches-right : (m : State) (xs ys : List Step) (a : ℕ) → Reaches P (run m xs) ys a → Reaches P m (xs ++ ys) a
  reaches-right m [] ys a h = h
  reaches-right m (x ∷ xs) ys a h = inr (reaches-right (next m x) xs ys a h)

-- ── The paths that go a part's way ──

-- the part's choices C among the choices E
module _ {I C E : Type 0} (st : I → State) (l : C → List Step) (π : E → List Step) (a : ℕ) (P : State → Type 0) where
  part : (f : C → E) → ((m : State) (c : C) → Reaches P m (l c) a → Reaches P m (π (f c)) a)
      → ((m : State) (e : E) → Reaches P m (π e) a → (c : C) × Reaches P m (l c) a)
      → Some {J = I × C} (λ j. st j.0) (λ j. l j.1) a P ↔ Some {J = I × E} (λ j. st j.0) (λ j. π j.1) a P
  part f to from = (
    λ w. let j = w.path in record { path = (j.0, f j.1); reaches = to (st j.0) j.1 w.reaches },
    λ w. let j = w.path in let c = from (st j.0) j.1 w.reaches in record { path = (j.0, c.0); reaches = c.1 },
  )

module _ {I C D : Type 0} (st : I → State) (l : C → List Step) (r : D → List Step) (a : ℕ) (P : State → Type 0) where
  -- one list and then another
  pub seq-left : D → ((m : State) (d : D) → Reaches P m (r d) a → ⊥) → Some {J = I × C} (λ j. st j.0) (λ j. l j.1) a P
      ↔ Some {J = I × (C × D)} (λ j. st j.0) (λ j. l j.1.0 ++ r j.1.1) a P
  seq-left d f =
      part st l (λ e. l e.0 ++ r e.1) a P (λ c. (c, d)) (λ m c. reaches-left P m (l c) (r d) a)
      (λ m e w. (e.0, drop-right (f _ e.1) (reaches-split P m (l e.0) (r e.1) a w)))

  pub seq-right : ((m : State) (c : C) → Reaches P m (l c) a → ⊥) → Some {J = (I × C) × D} (λ j. run (st j.0.0) (l j.0.1)) (λ j. r j.1) a P
      ↔ Some {J = I × (C × D)} (λ j. st j.0) (λ j. l j.1.0 ++ r j.1.1) a P
  seq-right f = (
    λ w. let c = w.path in
        record { path = (c.0.0, (c.0.1, c.1)); reaches = reaches-right P (st c.0.0) (l c.0.1) (r c.1) a w.reaches },
    λ w. let c = w.path in
        record { path = ((c.0, c.1.0), c.1.1); reaches = drop-left (f _ c.1.0) (reaches-split P (st c.0) (l c.1.0) (r c.1.1) a w.reaches) },
  )

  -- one of two
  fork_split : (m : State) (e : C ⊎ D) → Reaches P m (either l r e) a → ((c : C) × Reaches P m (l c) a) ⊎ ((d : D) × Reaches P m (r d) a)
  fork_split m (inl c) w = inl (c, w)
  fork_split m (inr d) w = inr (d, w)

  pub fork_left : ((m : State) (d : D) → Reaches P m (r d) a → ⊥) → Some {J = I × C} (λ j. st j.0) (λ j. l j.1) a P
      ↔ Some {J = I × (C ⊎ D)} (λ j. st j.0) (λ j. either l r j.1) a P
  fork_left f = part st l (either l r) a P inl (λ m c w. w) (λ m e w. drop-right (λ d. f m d.0 d.1) (fork_split m e w))

  pub fork_right : ((m : State) (c : C) → Reaches P m (l c) a → ⊥) → Some {J = I × D} (λ j. st j.0) (λ j. r j.1) a P
      ↔ Some {J = I × (C ⊎ D)} (λ j. st j.0) (λ j. either l r j.1) a P
  fork_right f = part st r (either l r) a P inr (λ m d w. w) (λ m e w. drop-left (λ c. f m c.0 c.1) (fork_split m e w))

-- ── Behind a statement that leaves the marks as they are ──

module _ {J : Type 0} (st : J → State) (h : Step) (silent : (m : State) → next m h ≡ m) (π : J → List Step) (a : ℕ) (apart : h.number ≡ a → ⊥)
    (P : State → Type 0) where
  past : (m : State) (ρ : List Step) → Reaches P m (h ∷ ρ) a → Reaches P m ρ a
  past m ρ (inl x) = absurd (apart x.0)
  past m ρ (inr x) = subst (λ (q : State). Reaches P q ρ a) (silent m) x

  pub behind : Some st π a P ↔ Some st (λ j. h ∷ π j) a P
  behind = (
    λ w. record { path = w.path; reaches = inr (subst (λ (q : State). Reaches P q (π w.path) a) (sym (silent (st w.path))) w.reaches) },
    λ w. record { path = w.path; reaches = past (st w.path) (π w.path) w.reaches },
  )
