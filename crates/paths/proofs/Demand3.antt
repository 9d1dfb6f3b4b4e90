-- For every program: the analysis errs for a measured qubit exactly where some path reaches an operand with a covering mark standing.
-- Assumes nothing.
use mathlib.Core.Path.{◌≡◌, refl, sym, ap, ◌∙◌, subst}
use mathlib.Core.Option.{Option, none, some}
use mathlib.Core.List.{List, [], ◌∷◌, Memᴰ}
use mathlib.Core.Logic.{◌↔◌}
use Prim.Native.Nat.{ℕ, suc, ◌+◌, ◌≤◌, ◌<◌}
use native.Mathlib.Omega.{arith}
use lib.Dec.{T}
use native.Mathlib.Decide.{dec_lt}
use Rattle.span.specs.declared.Span.{Span}
use Rattle.ast.specs.Tree.{GateOperand, Program}
use Rattle.sema.specs.Messages
use Rattle.sema.specs.Symbols.{empty as noSymbols}
use Rattle.sema.specs.Marks.{no_marks}
use Rattle.sema.specs.Stmts.{new, analyze}
use Rattle.paths.specs.Flow.{flows}
use Rattle.paths.specs.Steps.{sizes, no_mark, Step, Some, covers, PathOf, path_steps}
use Rattle.paths.specs.Places.{Place, places_of, Ordered, Fits}
use Rattle.paths.specs.Errors.{Line, line, use_lines, Named, ErrsOn, Lists, done, has, skip, Number, nil, one, not, tally, count, Prints, prints}
use Rattle.paths.proofs.Standing.{Sound}
use Rattle.paths.proofs.Part.{Part, part}
use Rattle.paths.proofs.Lists.{move}
use Rattle.paths.proofs.Walk.{walk}

-- ── In order ──

start : Sound {I = Unit {0}} no_marks (λ i. no_mark)
start k = (λ h. absurd h, λ w. absurd w.1)

-- "A path .. begun with no mark standing": the whole tree
pub whole : (p : Program) → Part (λ c. path_steps p c) (places_of p) 0 (0 + sizes (flows p.statements))
whole p = part (flows p.statements) (noSymbols ∷ []) 0

-- In the order of the places: exactly one error for each place that some path reaches with a covering mark standing, none for the others.
pub in_order : (p : Program) → Lists (ErrsOn p) (places_of p) (use_lines (analyze p))
unfolding analyze
in_order p =
    move {J = Unit {0} × PathOf p} (λ j. no_mark) (λ j. path_steps p j.1) (λ c. no_mark) (λ c. path_steps p c)
    (λ a lo hi P. (λ w. record { path = w.path.1; reaches = w.reaches }, λ w. record { path = (tt, w.path); reaches = w.reaches }))
    (whole p).within ((walk p.texts p.statements new 0).errors (λ i. no_mark) tt start)

-- ── A place has one error at most ──

smallest : (C : ℕ → Type 0) (lo i j : ℕ) → lo ≤ i → lo ≤ j → C i → C j → ((a : ℕ) → lo ≤ a → a < i → C a → ⊥) → ((a : ℕ) → lo ≤ a → a < j → C a → ⊥) → i ≡ j
smallest C lo i j p q ci cj f g = go (dec_lt i j) (dec_lt j i)
  where
    go : Dec (i < j) → Dec (j < i) → i ≡ j
    go (yes x) d = absurd (g i p x ci)
    go (no x) (yes y) = absurd (f j q y cj)
    go (no x) (no y) = omega arith

named-one : (C : Option ℕ → Type 0) (op : GateOperand) (sp : Span) (r : Option (ℕ × ℕ)) (k l : Line) → Named C op sp r k → Named C op sp r l → k ≡ l
named-one C op sp none k l v w = v.1 ∙ sym w.1
named-one C op sp (some r) k l v w =
    let e = smallest (λ i. C (some i)) r.0 v.0 w.0 v.1 w.1 v.3 w.3 v.4 w.4 in
    v.5 ∙ ap (λ (j : ℕ). line sp (Messages.used_index op.name j)) e ∙ sym w.5

pub errs_one : (p : Program) (q : Place) (k l : Line) → ErrsOn p q k → ErrsOn p q l → k ≡ l
errs_one p q k l v w =
    named-one (λ i. Some {J = PathOf p} (λ c. no_mark) (λ c. path_steps p c) q.number (λ m. T (covers q.symbols m q.op.name i))) q.op q.span q.op.slice k l v w

-- ── How many ──

count-number : {A : Type 0} {P : A → Type 0} (d : (a : A) → Dec (P a)) (l : List A) → Number P l (count d l)
count-number d [] = nil
count-number {A} {P} d (a ∷ l) = go (d a) (count-number d l)
  where
    go : (e : Dec (P a)) → Number P l (count d l) → Number P (a ∷ l) (tally e (count d l))
    go (yes e) w = one e w
    go (no e) w = not e w

-- as many lines that have P as places with such a line
module _ {R : Place → Line → Type 0} (u : (q : Place) (k l : Line) → R q k → R q l → k ≡ l) (P : Line → Type 0) where
  to_places : {qs : List Place} {ls : List Line} → Lists R qs ls → {n : ℕ} → Number P ls n → Number (λ q. (l : Line) × R q l × P l) qs n
  to_places done nil = nil
  to_places (has {l = k} h v) (one e w) = one (k, h, e) (to_places v w)
  to_places (has {q = q} {l = k} h v) (not e w) = not (λ x. e (subst P (u q x.0 k x.1 h) x.2)) (to_places v w)
  to_places (skip h v) w = not (λ x. h x.0 x.1) (to_places v w)

  to_lines : {qs : List Place} {ls : List Line} → Lists R qs ls → {n : ℕ} → Number (λ q. (l : Line) × R q l × P l) qs n → Number P ls n
  to_lines done nil = nil
  to_lines (has {q = q} {l = k} h v) (one x w) = one (subst P (u q x.0 k x.1 h) x.2) (to_lines v w)
  to_lines (has {l = k} h v) (not x w) = not (λ e. x (k, h, e)) (to_lines v w)
  to_lines (skip h v) (one x w) = absurd (h x.0 x.1)
  to_lines (skip h v) (not x w) = to_lines v w

-- whatever is asked of span and message: exactly n of the errors counted have it where exactly n places have an error that has it
pub demand_3_for : (p : Program) (P : Line → Type 0) (n : ℕ) → Number (λ q. (l : Line) × ErrsOn p q l × P l) (places_of p) n ↔ Number P (use_lines (analyze p)) n
demand_3_for p P n = (λ w. to_lines (errs_one p) P (in_order p) w, λ w. to_places (errs_one p) P (in_order p) w)

-- "for every span and message, the listing has exactly as many of these lines as there are places whose error has both and that some path
-- reaches with a covering mark standing": the message as it is printed
pub demand_3 : (p : Program) (sp : Span) (bytes : List ℕ)
    → Number (λ q. (l : Line) × ErrsOn p q l × Prints p.texts sp bytes l) (places_of p) (count (prints p.texts sp bytes) (use_lines (analyze p)))
demand_3 p sp bytes = (demand_3_for p (Prints p.texts sp bytes) _).1 (count-number (prints p.texts sp bytes) (use_lines (analyze p)))

-- ── That the claim says what it seems to ──

pub number_unique : {A : Type 0} {P : A → Type 0} {l : List A} {n m : ℕ} → Number P l n → Number P l m → n ≡ m
number_unique nil nil = refl
number_unique (one h v) (one k w) = ap suc (number_unique v w)
number_unique (one h v) (not k w) = absurd (k h)
number_unique (not h v) (one k w) = absurd (h k)
number_unique (not h v) (not k w) = number_unique v w

-- no place is listed twice
pub places-ordered : (p : Program) → Ordered (places_of p)
places-ordered p = (whole p).ordered

-- the statement of a path that has the number of a place is that place's
pub places_fit : (p : Program) (c : PathOf p) (q : Place) (x : Step) → Memᴰ q (places_of p) → Memᴰ x (path_steps p c) → x.number ≡ q.number → Fits q x
places_fit p c q x m k e = (whole p).fits c q x m k e
