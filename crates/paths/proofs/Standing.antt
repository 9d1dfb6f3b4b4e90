-- The marks of the analysis are those that stand on some path: how this is kept along a path. Assumes nothing.
use mathlib.Core.Path.{◌≡◌, refl, sym, ap, subst}
use mathlib.Core.Bool.{Bool}
use mathlib.Core.Option.{Option, none, some}
use mathlib.Core.List.{List, ◌∷◌, ◌++◌}
use mathlib.Core.Logic.{◌⊎◌, inl, inr, ◌↔◌}
use lib.Dec.{T}
use Prim.Native.Nat.{ℕ}
use Rattle.text.proofs.Tests.{or-either}
use Rattle.span.specs.declared.Span.{Span}
use Rattle.ast.specs.Tree.{TextNumber, Stmt}
use Rattle.sema.specs.Symbols.{Symbols, or_else}
use Rattle.sema.specs.Operands.{is_some}
use Rattle.sema.specs.Marks.{Key, key, Marks, Effect, set, clear, keep, effect, mark, apply, unite, lookup_measured}
use Rattle.paths.specs.Steps.{Step, step, State, stands, next, run, either, covers}
use Rattle.paths.proofs.Reach.{run-append}

-- a key is marked where it stands on some of the paths i, which come with the marks st i
abbrev pub Sound : {I : Type 0} → Marks → (I → State) → Type 0
Sound {I} M st = (k : Key) → T (is_some (M k)) ↔ ((i : I) × T (st i k))

-- the same states, under other names
sound_via : {I J : Type 0} (M : Marks) (st : I → State) (st' : J → State) → Sound M st
    → ((i : I) → (j : J) × (st i ≡ st' j)) → ((j : J) → (i : I) × (st' j ≡ st i)) → Sound M st'
sound_via M st st' S f g k = (
  λ h. let w = (S k).0 h in ((f w.0).0, subst (λ (m : State). T (m k)) (f w.0).1 w.1),
  λ w. (S k).1 ((g w.0).0, subst (λ (m : State). T (m k)) (g w.0).1 w.1),
)

-- ── No statement, one statement ──

pub sound_nil : {I : Type 0} (M : Marks) (st : I → State) → Sound M st → Sound M (λ (j : I × Unit {0}). st j.0)
sound_nil M st S = sound_via M st (λ j. st j.0) S (λ i. ((i, tt), refl)) (λ j. (j.0, refl))

sound_effect : {I : Type 0} (e : Effect) (sp : Span) (o : Option Span) (b : I → Bool) → I → (T (is_some o) ↔ ((i : I) × T (b i)))
    → T (is_some (mark sp e o)) ↔ ((j : I × Unit {0}) × T (stands e (b j.0)))
unfolding mark
sound_effect set sp o b i S = (λ h. ((i, tt), tt), λ w. tt)
sound_effect clear sp o b i S = (λ h. absurd h, λ w. absurd w.1)
sound_effect keep sp o b i S = (λ h. let w = S.0 h in ((w.0, tt), w.1), λ w. S.1 (w.0.0, w.1))

-- after a statement, by its effect
pub sound_alone : {I : Type 0} (s : Stmt) (ss : Symbols) (n : ℕ) (sp : Span) (M : Marks) (st : I → State) → I → Sound M st
    → Sound (apply (effect ss s) sp M) (λ (j : I × Unit {0}). next (st j.0) (step ss n s))
unfolding apply
sound_alone s ss n sp M st i S k = sound_effect (effect ss s k) sp (M k) (λ j. st j k) i (S k)

-- behind a statement that leaves the marks as they are
pub sound_head : {J : Type 0} (M : Marks) (st : J → State) (h : Step) → ((m : State) → next m h ≡ m) → (π : J → List Step)
    → Sound M (λ j. run (st j) (π j)) → Sound M (λ j. run (st j) (h ∷ π j))
sound_head M st h silent π S =
    sound_via M _ _ S (λ j. (j, ap (λ (m : State). run m (π j)) (sym (silent (st j))))) (λ j. (j, ap (λ (m : State). run m (π j)) (silent (st j))))

-- ── One list after the other ──

pub sound_seq : {I C D : Type 0} (M : Marks) (st : I → State) (l : C → List Step) (r : D → List Step)
    → Sound M (λ (j : (I × C) × D). run (run (st j.0.0) (l j.0.1)) (r j.1))
    → Sound M (λ (j : I × (C × D)). run (st j.0) (l j.1.0 ++ r j.1.1))
sound_seq M st l r S =
    sound_via M _ _ S
    (λ j. ((j.0.0, (j.0.1, j.1)), sym (run-append (st j.0.0) (l j.0.1) (r j.1))))
    (λ j. (((j.0, j.1.0), j.1.1), run-append (st j.0) (l j.1.0) (r j.1.1)))

-- ── One of two ──

is_some-or_else : {A : Type 0} (a b : Option A) → T (is_some (or_else a b)) ↔ (T (is_some a) ⊎ T (is_some b))
is_some-or_else none b = (λ h. inr h, λ w. let go : (⊥ ⊎ T (is_some b)) → T (is_some b) = elim [ inl x ↦ absurd x | inr y ↦ y ] in go w)
is_some-or_else (some a) b = (λ h. inl tt, λ w. tt)

-- the marks of two exits together
abbrev pub United : Marks → Marks → Marks → Type 0
United M₁ M₂ M = (k : Key) → T (is_some (M k)) ↔ (T (is_some (M₁ k)) ⊎ T (is_some (M₂ k)))

pub united : (M N : Marks) → United M N (unite M N)
unfolding unite
united M N k = is_some-or_else (M k) (N k)

⊎-turn : {A B : Type 0} → A ⊎ B → B ⊎ A
⊎-turn (inl a) = inr a
⊎-turn (inr b) = inl b

pub united_turned : (M N : Marks) → United N M (unite M N)
united_turned M N k = let e = united M N k in (λ h. ⊎-turn (e.0 h), λ w. e.1 (⊎-turn w))

module _ {I C D : Type 0} (M₁ M₂ M : Marks) (st : I → State) (l : C → List Step) (r : D → List Step) (u : United M₁ M₂ M)
    (S₁ : Sound M₁ (λ (j : I × C). run (st j.0) (l j.1))) (S₂ : Sound M₂ (λ (j : I × D). run (st j.0) (r j.1))) where
  into : (k : Key) → (T (is_some (M₁ k)) ⊎ T (is_some (M₂ k))) → (j : I × (C ⊎ D)) × T (run (st j.0) (either l r j.1) k)
  into k (inl t) = let w = (S₁ k).0 t in ((w.0.0, inl w.0.1), w.1)
  into k (inr t) = let w = (S₂ k).0 t in ((w.0.0, inr w.0.1), w.1)

  out : (k : Key) (i : I) (c : C ⊎ D) → T (run (st i) (either l r c) k) → T (is_some (M₁ k)) ⊎ T (is_some (M₂ k))
  out k i (inl c) t = inl ((S₁ k).1 ((i, c), t))
  out k i (inr c) t = inr ((S₂ k).1 ((i, c), t))

  pub sound_fork : Sound M (λ (j : I × (C ⊎ D)). run (st j.0) (either l r j.1))
  sound_fork k = (λ t. into k ((u k).0 t), λ w. (u k).1 (out k w.0.0 w.0.1 w.1))

-- ── Covering ──

-- the analysis finds a covering mark where one stands on some path
module _ {I : Type 0} (M : Marks) (st : I → State) (S : Sound M st) (ss : Symbols) (x : TextNumber) where
  cover-into : (i : ℕ) → T (is_some (M (key x (some i)))) ⊎ T (is_some (M (key x none))) → (j : I) × T (covers ss (st j) x (some i))
  cover-into i (inl h) = let w = (S (key x (some i))).0 h in (w.0, (or-either (st w.0 (key x (some i))) (st w.0 (key x none))).1 (inl w.1))
  cover-into i (inr h) = let w = (S (key x none)).0 h in (w.0, (or-either (st w.0 (key x (some i))) (st w.0 (key x none))).1 (inr w.1))

  cover-out : (i : ℕ) (j : I) → T (st j (key x (some i))) ⊎ T (st j (key x none)) → T (is_some (M (key x (some i)))) ⊎ T (is_some (M (key x none)))
  cover-out i j (inl h) = inl ((S (key x (some i))).1 (j, h))
  cover-out i j (inr h) = inr ((S (key x none)).1 (j, h))

  pub cover : (i : Option ℕ) → T (is_some (lookup_measured M x i)) ↔ ((j : I) × T (covers ss (st j) x i))
  unfolding lookup_measured
  cover none = S (key x none)
  cover (some i) = (
    λ h. cover-into i ((is_some-or_else (M (key x (some i))) (M (key x none))).0 h),
    λ w. (is_some-or_else (M (key x (some i))) (M (key x none))).1 (cover-out i w.0 ((or-either (st w.0 (key x (some i))) (st w.0 (key x none))).0 w.1)),
  )
