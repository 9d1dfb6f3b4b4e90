-- Laws of a whole sheet: after a measure, a reset, a branch. Assumes nothing.
use Rattle.std.specs.Prelude.{ℕ, zero, suc, ◌≤◌, ◌≡◌, Bool, cond, ◌&&◌, length, replicate}
use Rattle.std.proofs.Math.Path.{refl}
use Rattle.std.proofs.Common.{sym, ap, ◌∙◌, arith}
use mathlib.Core.List.{List, [], ◌∷◌}
use Rattle.std.proofs.Math.Bool.{true, false}
use Rattle.std.proofs.lemmas.Bool.{false≢true}
use Rattle.span.specs.declared.Span.{Span}
use Rattle.ast.specs.Tree.{GateOperand}
use Rattle.sema.specs.Symbols.{Symbols, get}
use Rattle.sema.specs.Marks.{Key, no_marks, set, clear, keep, size_of, mark_measured, mark, apply, unite}
use Rattle.sema.specs.Keys.{same_key, has_key}
use Rattle.context.specs.View.{place_in, measure_span, mark_by, marks_of}
use Rattle.sheet.specs.Sheet.{first, Covers, measuring, stored, united}
use Rattle.sheet.specs.Places.{by_test, key-eq, has_here, has_there, place_here, place-there, unplaced, mark-first}

-- the place of a key after a store
module _ (t : Key → Bool) (p : ℕ) (k : Key) where
  pub place-stored : (ks : List Key) (vs : List ℕ) → length ks ≤ length vs
      → place_in ks (stored t p ks vs) k ≡ cond (has_key ks k && t k) p (place_in ks vs k)
  unfolding place_in stored has_key
  place-stored [] vs h = refl
  place-stored (l ∷ ls) [] h = absurd (omega arith)
  place-stored (l ∷ ls) (v ∷ vs) h =
      by_test (same_key l k)
      (λ e. place_here l ls k (cond (t l) p v) (stored t p ls vs) e ∙ rw (place_here l ls k v vs e, has_here l ls k e, key-eq l k e))
      (λ e. place-there l ls k (cond (t l) p v) (stored t p ls vs) e ∙ place-stored ls vs (omega arith) ∙ rw (place-there l ls k v vs e, has_there l ls k e))

-- a mark after a store of a place, where every key that passes the test is there
module _ (tree : List ℕ) (t : Key → Bool) (ks : List Key) (vs : List ℕ) (h : length ks ≤ length vs) where
  module _ (q : ℕ) (c : Covers ks (λ k. cond (t k) set keep)) where
    set_at : (k : Key) (b s : Bool) → has_key ks k ≡ b → t k ≡ s
        → mark_by tree (cond (b && s) (suc q) (place_in ks vs k)) ≡ mark (measure_span tree (suc q)) (cond s set keep) (mark_by tree (place_in ks vs k))
    unfolding mark_by mark Covers
    set_at k true true e f = refl
    set_at k true false e f = refl
    set_at k false true e f = absurd (false≢true (sym e ∙ c k (rw f)))
    set_at k false false e f = refl

    pub marks-set : marks_of tree ks (stored t (suc q) ks vs) ≡ apply (λ k. cond (t k) set keep) (measure_span tree (suc q)) (marks_of tree ks vs)
    unfolding marks_of apply
    marks-set = λ i k. (ap (mark_by tree) (place-stored t (suc q) k ks vs h) ∙ set_at k (has_key ks k) (t k) refl refl) i

  clear_at : (sp : Span) (k : Key) (b s : Bool) → has_key ks k ≡ b → t k ≡ s
      → mark_by tree (cond (b && s) 0 (place_in ks vs k)) ≡ mark sp (cond s clear keep) (mark_by tree (place_in ks vs k))
  unfolding mark_by mark
  clear_at sp k true true e f = refl
  clear_at sp k true false e f = refl
  clear_at sp k false true e f = rw (unplaced ks vs k e)
  clear_at sp k false false e f = refl

  pub marks-clear : (sp : Span) → marks_of tree ks (stored t 0 ks vs) ≡ apply (λ k. cond (t k) clear keep) sp (marks_of tree ks vs)
  unfolding marks_of apply
  marks-clear sp = λ i k. (ap (mark_by tree) (place-stored t 0 k ks vs h) ∙ clear_at sp k (has_key ks k) (t k) refl refl) i

-- `mark_measured` where the symbols are ss
pub measured_is : (ss : Symbols) (op : GateOperand) → mark_measured ss op ≡ measuring (size_of (get ss op.name)) op
unfolding mark_measured measuring
measured_is ss op = refl

-- a sheet with no place has no mark
place-blank : (n : ℕ) (ks : List Key) (k : Key) → place_in ks (replicate n 0) k ≡ 0
unfolding place_in
place-blank n [] k = refl
place-blank zero (l ∷ ls) k = refl
place-blank (suc n) (l ∷ ls) k =
    by_test (same_key l k)
    (λ e. place_here l ls k 0 (replicate n 0) e)
    (λ e. place-there l ls k 0 (replicate n 0) e ∙ place-blank n ls k)

pub marks-blank : (n : ℕ) (tree : List ℕ) (ks : List Key) → marks_of tree ks (replicate n 0) ≡ no_marks
unfolding marks_of mark_by
marks-blank n tree ks = λ i k. ap (mark_by tree) (place-blank n ks k) i

-- two sheets united
place-united : (ks : List Key) (xs ys : List ℕ) (k : Key) → length xs ≡ length ys → place_in ks (united xs ys) k ≡ first (place_in ks xs k) (place_in ks ys k)
unfolding place_in united
place-united [] xs ys k h = refl
place-united (l ∷ ls) [] [] k h = refl
place-united (l ∷ ls) [] (b ∷ ys) k h = absurd (omega arith)
place-united (l ∷ ls) (a ∷ xs) [] k h = absurd (omega arith)
place-united (l ∷ ls) (a ∷ xs) (b ∷ ys) k h =
    by_test (same_key l k)
    (λ e. rw (place_here l ls k (first a b) (united xs ys) e, place_here l ls k a xs e, place_here l ls k b ys e))
    (λ e. rw (place-there l ls k (first a b) (united xs ys) e, place-there l ls k a xs e, place-there l ls k b ys e) (place-united ls xs ys k (omega arith)))

pub marks-united : (tree : List ℕ) (ks : List Key) (xs ys : List ℕ) → length xs ≡ length ys
    → marks_of tree ks (united xs ys) ≡ unite (marks_of tree ks xs) (marks_of tree ks ys)
unfolding marks_of unite
marks-united tree ks xs ys h =
    λ i k. (ap (mark_by tree) (place-united ks xs ys k h) ∙ mark-first tree (place_in ks xs k) (place_in ks ys k)) i
