-- What holds of every part of a tree, its paths and its places: each statement has a number of its own, and each place is what it
-- seems. Assumes nothing.
use mathlib.Core.Path.{◌≡◌, refl, sym, ap, subst, ◌∙◌}
use mathlib.Core.Option.{some}
use mathlib.Core.List.Memᴰ
use mathlib.Core.List.{List, [], ◌∷◌, ◌++◌, Memᴰ, append-nil}
use mathlib.Core.Logic.{◌⊎◌, inl, inr, ⊎_elim}
use Prim.Native.Nat.{ℕ, suc, ◌+◌, ◌≤◌, ◌<◌}
use native.Mathlib.Omega.{arith}
use Rattle.span.specs.declared.Span.{Span}
use Rattle.ast.specs.Tree.{GateOperand, Stmt}
use Rattle.sema.specs.Symbols.{Symbols, empty as noSymbols, after}
use Rattle.paths.specs.Flow.{Flow, Flows, alone, once, arms, loop, no_flow, more_flow, head}
use Rattle.paths.specs.Steps.{Step, step, size, sizes, either, turns, steps₁, steps}
use Rattle.paths.specs.Places.{uses, Place, place, listed, places₁, places, AllAfter, Ordered, nth_of, Fits}
use Rattle.paths.proofs.Ranges.{bare, more, PlacesIn, StepsIn, widen, within-append, within_at}

-- a part of a tree: it has a path; its statements and places are numbered from lo to hi; the statement that has the number of a place is
-- that place's
pub record Part {C : Type 0} (π : C → List Step) (qs : List Place) (lo hi : ℕ) : Type 0 where
  pub any : C
  pub order : lo ≤ hi
  pub numbers : (c : C) → StepsIn lo hi (π c)
  pub within : PlacesIn lo hi qs
  pub ordered : Ordered qs
  pub fits : (c : C) (q : Place) (x : Step) → Memᴰ q qs → Memᴰ x (π c) → x.number ≡ q.number → Fits q x

-- ── Order ──

after-within : (p : Place) {lo hi : ℕ} → p.number < lo → {qs : List Place} → PlacesIn lo hi qs → AllAfter p qs
after-within p h bare = tt
after-within p h (more u v w) = (inl (omega arith), after-within p h w)

after-append : (p : Place) (qs rs : List Place) → AllAfter p qs → AllAfter p rs → AllAfter p (qs ++ rs)
after-append p [] rs v w = w
after-append p (q ∷ qs) rs v w = (v.0, after-append p qs rs v.1 w)

ordered-append : {lo mid hi : ℕ} {ps qs : List Place} → PlacesIn lo mid ps → PlacesIn mid hi qs → Ordered ps → Ordered qs → Ordered (ps ++ qs)
ordered-append bare w x y = y
ordered-append {qs} (more {a = p} {l = ps} u v r) w x y = (after-append p ps qs x.0 (after-within p v w), ordered-append r w x.1 y)

-- ── One statement ──

module _ (n : ℕ) (ss : Symbols) (sp : Span) where
  listed_in : (i : ℕ) (ops : List GateOperand) → PlacesIn n (n + 1) (listed n ss sp i ops)
  listed_in i [] = bare
  listed_in i (op ∷ ops) = more {a = place n ss sp i op} (omega arith) (omega arith) (listed_in (suc i) ops)

  listed-after : (i j : ℕ) (op : GateOperand) → i < j → (ops : List GateOperand) → AllAfter (place n ss sp i op) (listed n ss sp j ops)
  listed-after i j op h [] = tt
  listed-after i j op h (o ∷ ops) = (inr (refl, h), listed-after i (suc j) op (omega arith) ops)

  listed-ordered : (i : ℕ) (ops : List GateOperand) → Ordered (listed n ss sp i ops)
  listed-ordered i [] = tt
  listed-ordered i (op ∷ ops) = (listed-after i (suc i) op (omega arith) ops, listed-ordered (suc i) ops)

  listed_at : (i : ℕ) (ops : List GateOperand) (q : Place) → Memᴰ q (listed n ss sp i ops)
      → (j : ℕ) × (q.nth ≡ i + j) × (q.span ≡ sp) × (q.symbols ≡ ss) × (nth_of ops j ≡ some q.op)
  listed_at i [] q m = absurd (Memᴰ.not-nil m)
  listed_at i (op ∷ ops) q m =
      ⊎_elim
      (λ e. let d = ap (λ (r : Place). r.nth) e in
      (0, omega arith, ap (λ (r : Place). r.span) e, ap (λ (r : Place). r.symbols) e, ap (λ (r : Place). some r.op) (sym e)))
      (λ t. let w = listed_at (suc i) ops q t in let d = w.1 in (suc w.0, omega arith, w.2, w.3, w.4))
      (Memᴰ.cases_cons m)

pub part-alone : (s : Stmt) (ss : Symbols) (n : ℕ) → Part {C = Unit {0}} (λ c. step ss n s ∷ []) (listed n ss (uses s).1 0 (uses s).0) n (n + 1)
part-alone s ss n =
    record {
      any = tt;
      order = omega arith;
      numbers = λ c. more {a = step ss n s} (omega arith) (omega arith) bare;
      within = listed_in n ss (uses s).1 0 (uses s).0;
      ordered = listed-ordered n ss (uses s).1 0 (uses s).0;
      fits = λ c q x m k e. go q x (listed_at n ss (uses s).1 0 (uses s).0 q m) (Memᴰ.cases_cons k);
    }
  where
    go : (q : Place) (x : Step) → (j : ℕ) × (q.nth ≡ 0 + j) × (q.span ≡ (uses s).1) × (q.symbols ≡ ss) × (nth_of (uses s).0 j ≡ some q.op)
        → (x ≡ step ss n s) ⊎ Memᴰ x [] → Fits q x
    go q x w (inl p) =
        let d = w.1 in
        let eq : q.nth ≡ w.0 = omega arith in
        record {
          operand = ap (λ (y : Step). nth_of (uses y.stmt).0 q.nth) p ∙ ap (λ (j : ℕ). nth_of (uses s).0 j) eq ∙ w.4;
          span = ap (λ (y : Step). (uses y.stmt).1) p ∙ sym w.2;
          symbols = ap (λ (y : Step). y.symbols) p ∙ sym w.3;
        }
    go q x w (inr t) = absurd (Memᴰ.not-nil t)

-- ── The forms ──

pub part-nil : (lo : ℕ) → Part {C = Unit {0}} (λ c. []) [] lo lo
part-nil lo = record { any = tt; order = omega arith; numbers = λ c. bare; within = bare; ordered = tt; fits = λ c q x m k e. absurd (Memᴰ.not-nil m) }

-- behind a statement with a lower number
pub part-head : {C : Type 0} {π : C → List Step} {qs : List Place} {hi : ℕ} (h : Step) → Part π qs (suc h.number) hi → Part (λ c. h ∷ π c) qs h.number hi
part-head {C} {π} {qs} {hi} h p =
    record {
      any = p.any;
      order = let l = p.order in omega arith;
      numbers = λ c. let l = p.order in more {a = h} (omega arith) (omega arith) (widen _ _ (omega arith) (omega arith) (p.numbers c));
      within = widen _ _ (omega arith) (omega arith) p.within;
      ordered = p.ordered;
      fits = λ c q x m k e. go c q x m e (Memᴰ.cases_cons k);
    }
  where
    go : (c : C) (q : Place) (x : Step) → Memᴰ q qs → x.number ≡ q.number → (x ≡ h) ⊎ Memᴰ x (π c) → Fits q x
    go c q x m e (inl y) =
        let d = ap (λ (z : Step). z.number) y in let r = within_at p.within m in
        absurd (let z : ⊥ = omega arith in z)
    go c q x m e (inr t) = p.fits c q x m t e

-- two parts, numbered one after the other
module _ {C D : Type 0} {π : C → List Step} {ρ : D → List Step} {ps qs : List Place} {lo mid hi : ℕ} (p : Part π ps lo mid) (q : Part ρ qs mid hi) where
  upper : lo ≤ mid
  upper = p.order

  lower : mid ≤ hi
  lower = q.order

  places-both : PlacesIn lo hi (ps ++ qs)
  places-both = let l = upper in let u = lower in within-append (widen lo hi (omega arith) (omega arith) p.within) (widen lo hi (omega arith) (omega arith) q.within)

  steps_first : (c : C) → StepsIn lo hi (π c)
  steps_first c = let u = lower in widen lo hi (omega arith) (omega arith) (p.numbers c)

  steps_second : (d : D) → StepsIn lo hi (ρ d)
  steps_second d = let l = upper in widen lo hi (omega arith) (omega arith) (q.numbers d)

  -- a statement of one and a place of the other have different numbers
  apart-first : (c : C) (r : Place) (x : Step) → Memᴰ r qs → Memᴰ x (π c) → x.number ≡ r.number → Fits r x
  apart-first c r x m k e = let u = within_at q.within m in let v = within_at (p.numbers c) k in absurd (let z : ⊥ = omega arith in z)

  apart_second : (d : D) (r : Place) (x : Step) → Memᴰ r ps → Memᴰ x (ρ d) → x.number ≡ r.number → Fits r x
  apart_second d r x m k e = let u = within_at p.within m in let v = within_at (q.numbers d) k in absurd (let z : ⊥ = omega arith in z)

  fits-first : (c : C) (r : Place) (x : Step) → Memᴰ r (ps ++ qs) → Memᴰ x (π c) → x.number ≡ r.number → Fits r x
  fits-first c r x m k e = ⊎_elim (λ t. p.fits c r x t k e) (λ t. apart-first c r x t k e) (Memᴰ.append_cases ps m)

  fits_second : (d : D) (r : Place) (x : Step) → Memᴰ r (ps ++ qs) → Memᴰ x (ρ d) → x.number ≡ r.number → Fits r x
  fits_second d r x m k e = ⊎_elim (λ t. apart_second d r x t k e) (λ t. q.fits d r x t k e) (Memᴰ.append_cases ps m)

  pub part_fork : Part (either π ρ) (ps ++ qs) lo hi
  part_fork =
      record {
        any = inl p.any;
        order = let l = upper in let u = lower in omega arith;
        numbers = elim [ inl c ↦ steps_first c | inr d ↦ steps_second d ];
        within = places-both;
        ordered = ordered-append p.within q.within p.ordered q.ordered;
        fits = elim [ inl c ↦ fits-first c | inr d ↦ fits_second d ];
      }

  pub part-seq : Part {C = C × D} (λ c. π c.0 ++ ρ c.1) (ps ++ qs) lo hi
  part-seq =
      record {
        any = (p.any, q.any);
        order = let l = upper in let u = lower in omega arith;
        numbers = λ c. within-append (steps_first c.0) (steps_second c.1);
        within = places-both;
        ordered = ordered-append p.within q.within p.ordered q.ordered;
        fits = λ c r x m k e. ⊎_elim (λ t. fits-first c.0 r x m t e) (λ t. fits_second c.1 r x m t e) (Memᴰ.append_cases (π c.0) k);
      }

pub part-turns : {C : Type 0} {π : C → List Step} {qs : List Place} {lo hi : ℕ} → Part π qs lo hi → Part (turns π) qs lo hi
part-turns {π} {qs} {lo} {hi} p = subst (λ (l : List Place). Part (turns π) l lo hi) (append-nil qs) (part_fork p (part-nil hi))

-- ── Every part of a tree ──

up_to : {C : Type 0} {π : C → List Step} {qs : List Place} {lo hi : ℕ} (hi' : ℕ) → hi ≡ hi' → Part π qs lo hi → Part π qs lo hi'
up_to {π} {qs} {lo} hi' e p = subst (λ (z : ℕ). Part π qs lo z) e p

mutual
  pub part₁ : (f : Flow) (ss : Symbols) (n : ℕ) → Part (λ c. steps₁ f ss n c) (places₁ f ss n) n (n + size f)
  part₁ (alone s) ss n = part-alone s ss n
  part₁ (once s sc b) ss n = up_to (n + suc (sizes b)) (omega arith) (part-head (step ss n s) (part b (sc ∷ ss) (suc n)))
  part₁ (arms s a b) ss n =
      up_to (n + suc (sizes a + sizes b)) (omega arith)
      (part-head (step ss n s) (part_fork (part a (noSymbols ∷ ss) (suc n)) (part b (noSymbols ∷ ss) (suc n + sizes a))))
  part₁ (loop s sc b) ss n = up_to (n + suc (sizes b)) (omega arith) (part-head (step ss n s) (part-turns (part b (sc ∷ ss) (suc n))))

  pub part : (b : Flows) (ss : Symbols) (n : ℕ) → Part (λ c. steps b ss n c) (places b ss n) n (n + sizes b)
  part no_flow ss n = up_to (n + 0) (omega arith) (part-nil n)
  part (more_flow f r) ss n = up_to (n + (size f + sizes r)) (omega arith) (part-seq (part₁ f ss n) (part r (after ss (head f)) (n + size f)))
