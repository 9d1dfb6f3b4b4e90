-- Laws of marks at a key: which keys a measure sets and a reset clears, and marks that are applied and united. Those that no proof
-- uses hold the definitions: wrong ones are refused by them (must-fail). Assumes nothing.
use Rattle.std.specs.Prelude.{ℕ, ◌≤◌, ◌≡◌, refl, ◌↔◌, ◌⊎◌, Bool, true, false, cond, ◌&&◌, ◌||◌, T, eqb, leb}
use Rattle.std.proofs.Common.{ap, subst, inl, inr, arith, eqb→eq, leb→le, le→leb, ltb→lt, lt→ltb}
use Rattle.std.proofs.Math.Option.{Option, none, some}
use Rattle.std.proofs.Math.Dec.{eqb_refl}
use Rattle.text.proofs.Tests.{and_both}
use Rattle.span.specs.declared.Span.{Span}
use Rattle.ast.specs.Tree.{TextNumber, GateOperand}
use Rattle.sema.specs.Symbols.{Symbols, get, or_else}
use Rattle.sema.specs.Marks.{Key, key, Marks, Effect, set, clear, keep, between, in_slice, is_index, below_size, size_of, measures, resets, mark_measured, clear_measured, unite, after_loop, lookup_measured}
use Rattle.sema.specs.Operands.{is_some}
use Rattle.sema.specs.LawsMarks.{Named, InSlice, Below, Measures, Resets}

-- tests and facts
pub eqb-iff : (a b : ℕ) → T (eqb a b) ↔ (a ≡ b)
eqb-iff a b = (eqb→eq a b, λ e. subst (λ (n : ℕ). T (eqb a n)) e (eqb_refl a))

pub some-eq : (a b : ℕ) → some a ≡ some b → a ≡ b
some-eq a b e = cc

pub not_some : (a : ℕ) → none ≡ some a → ⊥
not_some a e = let z : ◌≡◌ {A = ℕ} 0 1 = cc in omega arith

pub between-iff : (r : ℕ × ℕ) (i : ℕ) → T (between r i) ↔ (r.0 ≤ i) × (i ≤ r.1)
between-iff r i =
    let b = and_both (leb r.0 i) (leb i r.1) in
    (λ t. (leb→le r.0 i (b.0 t).0, leb→le i r.1 (b.0 t).1), λ h. b.1 (le→leb r.0 i h.0, le→leb i r.1 h.1))

in_slice-iff : (r : ℕ × ℕ) (i : Option ℕ) → T (in_slice r i) ↔ InSlice r i
unfolding in_slice
in_slice-iff r none = (λ t. t, λ t. t)
in_slice-iff r (some i) = between-iff r i

is_index-iff : (j : ℕ) (i : Option ℕ) → T (is_index j i) ↔ (i ≡ some j)
unfolding is_index
is_index-iff j none = (absurd, not_some j)
is_index-iff j (some i) = (λ t. ap some (eqb→eq i j t), λ e. (eqb-iff i j).1 (some-eq i j e))

below-iff : (size i : Option ℕ) → T (below_size size i) ↔ Below size i
unfolding below_size
below-iff size none = (λ t. t, λ t. t)
below-iff none (some i) = (λ t. t, λ t. t)
below-iff (some n) (some i) = (ltb→lt i n, lt→ltb i n)

measures-iff : (size : Option ℕ) (slice : Option (ℕ × ℕ)) (index i : Option ℕ) → T (measures size slice index i) ↔ Measures size slice index i
unfolding measures
measures-iff size (some r) index i = in_slice-iff r i
measures-iff size none (some j) i = is_index-iff j i
measures-iff size none none i = below-iff size i

resets-iff : (slice : Option (ℕ × ℕ)) (index i : Option ℕ) → T (resets slice index i) ↔ Resets slice index i
unfolding resets
resets-iff (some r) index i = in_slice-iff r i
resets-iff none (some j) i = is_index-iff j i
resets-iff none none i = (λ t. t, λ t. t)

cond-set : (b : Bool) → (cond b set keep ≡ set) ↔ T b
cond-set true = (λ e. tt, λ t. refl)
cond-set false = (λ e. let z : ◌≡◌ {A = ℕ} 0 1 = cc in omega arith, absurd)

cond-clear : (b : Bool) → (cond b clear keep ≡ clear) ↔ T b
cond-clear true = (λ e. tt, λ t. refl)
cond-clear false = (λ e. let z : ◌≡◌ {A = ℕ} 0 1 = cc in omega arith, absurd)

-- a test of a name and of an index, as facts
pub named-iff : (a b : ℕ) (t : Bool) (P : Type 0) → T t ↔ P → T (eqb a b && t) ↔ (a ≡ b) × P
named-iff a b t P e = (
  λ h. let p = (and_both (eqb a b) t).0 h in (eqb→eq a b p.0, e.0 p.1),
  λ h. (and_both (eqb a b) t).1 ((eqb-iff a b).1 h.0, e.1 h.1),
)

-- "Measure q sets the whole key and, if the q now visible has a size, each index below it. Measure q[i] sets that key alone; a slice
-- sets each index in it." It does nothing else.
pub measure-sets : (ss : Symbols) (op : GateOperand) (k : Key) → (mark_measured ss op k ≡ set) ↔ Named op.name (Measures (size_of (get ss op.name)) op.slice op.index) k
unfolding mark_measured
measure-sets ss op k =
    let size = size_of (get ss op.name) in
    let b = measures size op.slice op.index k.index in
    let e = named-iff k.name op.name b (Measures size op.slice op.index k.index) (measures-iff size op.slice op.index k.index) in
    let c = cond-set (eqb k.name op.name && b) in
    (λ h. e.0 (c.0 h), λ h. c.1 (e.1 h))

-- "Reset q clears every key of that text. Reset q[i] clears one index, a slice its indices; the whole key remains." It does nothing else.
pub reset_clears : (op : GateOperand) (k : Key) → (clear_measured op k ≡ clear) ↔ Named op.name (Resets op.slice op.index) k
unfolding clear_measured
reset_clears op k =
    let b = resets op.slice op.index k.index in
    let e = named-iff k.name op.name b (Resets op.slice op.index k.index) (resets-iff op.slice op.index k.index) in
    let c = cond-clear (eqb k.name op.name && b) in
    (λ h. e.0 (c.0 h), λ h. c.1 (e.1 h))

cond-or : (b : Bool) (e : Effect) → (cond b e keep ≡ e) ⊎ (cond b e keep ≡ keep)
cond-or true e = inl refl
cond-or false e = inr refl

pub reset-or-keep : (op : GateOperand) (k : Key) → (clear_measured op k ≡ clear) ⊎ (clear_measured op k ≡ keep)
unfolding clear_measured
reset-or-keep op k = cond-or (eqb k.name op.name && resets op.slice op.index k.index) clear

-- Marks united, at a key: the mark of the first side wins.
is_some-or : {A : Type 0} (a b : Option A) → is_some (or_else a b) ≡ is_some a || is_some b
is_some-or none b = refl
is_some-or (some x) b = refl

module _ (a b : Marks) (k : Key) where
  pub unite-either : is_some (unite a b k) ≡ is_some (a k) || is_some (b k)
  unfolding unite
  unite-either = is_some-or (a k) (b k)

  pub unite-first : (sp : Span) → a k ≡ some sp → unite a b k ≡ some sp
  unfolding unite
  unite-first sp e = rw e

  pub unite_second : a k ≡ none → unite a b k ≡ b k
  unfolding unite
  unite_second e = rw e

-- after a loop: the mark of the entry wins
pub after_loop_lem : (entry exit : Marks) → after_loop entry exit ≡ unite entry exit
unfolding after_loop
after_loop_lem entry exit = refl

-- "q[i] by its own and the whole key", its own first
module _ (m : Marks) (x : TextNumber) (i : ℕ) where
  pub covered-own : (sp : Span) → m (key x (some i)) ≡ some sp → lookup_measured m x (some i) ≡ some sp
  unfolding lookup_measured
  covered-own sp e = rw e

  pub covered_whole : m (key x (some i)) ≡ none → lookup_measured m x (some i) ≡ m (key x none)
  unfolding lookup_measured
  covered_whole e = rw e
