-- What is left to do in the loops that make a sheet. Assumes nothing.
use Prim.Native.Nat.{ℕ, zero, suc, ◌+◌, ◌≤◌, ◌<◌}
use mathlib.Core.Path.{◌≡◌, refl, sym, ◌∙◌}
use mathlib.Core.List.{List, [], ◌∷◌, ◌++◌, append_assoc, append-nil}
use mathlib.Core.Option.{Option}
use mathlib.Core.Bool.{Bool, true, false, cond}
use native.Mathlib.Omega.{arith}
use native.Mathlib.Numerals.{add-one}
use lib.ListN.{length, get_or, take, drop, set, length-set, take-append-drop}
use lib.Seq.{drop-cons, take-suc-set, drop-set-lt, set-get_or, drop-length, take-length}
use Rattle.span.specs.declared.Span.{Span}
use Rattle.ast.specs.Tree.{GateOperand}
use Rattle.sema.specs.Marks.{Key, apply, clear_measured, unite}
use Rattle.context.specs.declared.Key.{Key as KeyValue}
use Rattle.context.specs.Values.{key_of}
use Rattle.std.proofs.lemmas.List.{length-map}
use Rattle.context.specs.View.{keys_of, marks_of, measure_span, PlaceOk, Placed}
use Rattle.sheet.specs.Sheet.{first, stored, united, measuring, Covers}
use Rattle.sheet.specs.Effects.{marks-set, marks-clear, marks-united}
use Rattle.sheet.specs.Kept.{stored-placed, united-placed}
use Rattle.sheet.specs.Behind.{Blank, stored-behind, united-behind}
use Rattle.sheet.proofs.Tests.{set_by, cleared_by}
use Rattle.sheet.proofs.Loops.{rest, nth, rest_more, rest_end}

-- a store at i of what is next
module _ (r : List ℕ) (i v : ℕ) (h : i < length r) where
  one_more : (s : List ℕ) → take i r ++ v ∷ s ≡ take (i + 1) (set r i v) ++ s
  one_more s = rw (add-one i, take-suc-set r i v h, append_assoc) refl

  left_alone : drop (i + 1) (set r i v) ≡ drop (i + 1) r
  left_alone = drop-set-lt (i + 1) r i v (omega arith)

  from-here : drop i r ≡ get_or r i 0 ∷ drop (i + 1) r
  from-here = rw (add-one i) (drop-cons r i 0 h)

-- the first k keys have their places
pub record Storing (t : Key → Bool) (p : ℕ) (keys : List KeyValue) (sheet r : List ℕ) (k : ℕ) : Type 0 where
  pub within : k ≤ length keys
  pub few : length keys ≤ 256
  pub size : length r ≡ 256
  pub same : stored t p (keys_of keys) sheet ≡ take k r ++ stored t p (rest keys k) (drop k r)

module _ {t : Key → Bool} {p : ℕ} {keys : List KeyValue} {sheet r : List ℕ} {k : ℕ} (s : Storing t p keys sheet r k) (h : k < length keys) where
  abbrev l : KeyValue
  l = nth keys k

  storing-more : Storing t p keys sheet (set r k (cond (t (key_of l)) p (get_or r k 0))) (k + 1)
  unfolding stored
  storing-more =
      let v = cond (t (key_of l)) p (get_or r k 0) in
      let u : k < length r = omega (arith, s.few, s.size) in
      record {
        within = omega arith;
        few = s.few;
        size = length-set r k v ∙ s.size;
        same =
            s.same
            ∙ rw (rest_more keys k h, from-here r k 0 u, left_alone r k v u)
            (one_more r k v u (stored t p (rest keys (k + 1)) (drop (k + 1) r)));
      }

  module _ {r' : List ℕ} {b : Bool} (e : b ≡ t (key_of l)) where
    pub storing-then : b ≡ true → r' ≡ set r k p → Storing t p keys sheet r' (k + 1)
    storing-then f g = rw g (rw (← e, f) at storing-more)

    pub storing_else : b ≡ false → r' ≡ r → Storing t p keys sheet r' (k + 1)
    storing_else f g = rw g (rw (← e, f, set-get_or r k 0) at storing-more)

pub storing-end : {t : Key → Bool} {p : ℕ} {keys : List KeyValue} {sheet r : List ℕ} {k : ℕ} → Storing t p keys sheet r k → length keys ≤ k → r ≡ stored t p (keys_of keys) sheet
unfolding stored
storing-end {keys = keys} {r = r} {k = k} s h = sym (s.same ∙ rw (rest_end keys k h) (take-append-drop k r))

module _ (keys : List KeyValue) (sheet : List ℕ) (op : GateOperand) (r : List ℕ) (f : length keys ≤ 256) (l : length sheet ≡ 256) where
  fits : length (keys_of keys) ≤ length sheet
  fits = omega (arith, length-map keys key_of)

  pub set-marks : (size : Option ℕ) (p : ℕ) → 0 < p → Covers (keys_of keys) (measuring size op) → r ≡ stored (set_by size op) p (keys_of keys) sheet
      → (tree : List ℕ) → marks_of tree (keys_of keys) r ≡ apply (measuring size op) (measure_span tree p) (marks_of tree (keys_of keys) sheet)
  unfolding measuring
  set-marks size zero h c e tree = absurd (omega arith)
  set-marks size (suc q) h c e tree = rw e (marks-set tree (set_by size op) (keys_of keys) sheet fits q c)

  pub clear-marks : r ≡ stored (cleared_by op) 0 (keys_of keys) sheet
      → (tree : List ℕ) (sp : Span) → marks_of tree (keys_of keys) r ≡ apply (clear_measured op) sp (marks_of tree (keys_of keys) sheet)
  unfolding clear_measured
  clear-marks e tree sp = rw e (marks-clear tree (cleared_by op) (keys_of keys) sheet fits sp)

-- the places of a store
module _ (ks : List Key) (sheet r : List ℕ) (t : Key → Bool) where
  pub store-placed : (p : ℕ) → r ≡ stored t p ks sheet → (tree : List ℕ) → PlaceOk tree p → Placed tree sheet → Placed tree r
  store-placed p e tree h g = rw e (stored-placed tree t p ks sheet h g)

  pub clear-placed : r ≡ stored t 0 ks sheet → (tree : List ℕ) → Placed tree sheet → Placed tree r
  clear-placed e tree g = store-placed 0 e tree tt g

-- behind the keys nothing is stored
pub store-behind : (keys : List KeyValue) (sheet r : List ℕ) (t : Key → Bool) (p : ℕ) → r ≡ stored t p (keys_of keys) sheet
    → (n : ℕ) → length keys ≤ n → Blank n sheet → Blank n r
store-behind keys sheet r t p e n l h =
    rw e (stored-behind t p (keys_of keys) sheet n (omega (arith, length-map keys key_of)) h)

-- the first i places are united
pub record Uniting (a b r : List ℕ) (i : ℕ) : Type 0 where
  pub within : i ≤ 256
  pub size : length r ≡ 256
  pub left : length a ≡ 256
  pub right : length b ≡ 256
  pub same : united a b ≡ take i r ++ united (drop i a) (drop i r)

module _ {a b r r' : List ℕ} {i : ℕ} (u : Uniting a b r i) where
  pub uniting-more : i < 256 → r' ≡ set r i (first (get_or a i 0) (get_or r i 0)) → Uniting a b r' (i + 1)
  unfolding united
  uniting-more h e =
      let v = first (get_or a i 0) (get_or r i 0) in
      let hr : i < length r = omega (arith, u.size) in
      let ha : i < length a = omega (arith, u.left) in
      rw e
      (record {
        within = omega arith;
        size = length-set r i v ∙ u.size;
        left = u.left;
        right = u.right;
        same =
            u.same
            ∙ rw (from-here a i 0 ha, from-here r i 0 hr, left_alone r i v hr)
            (one_more r i v hr (united (drop (i + 1) a) (drop (i + 1) r)));
      })

module _ (a b r : List ℕ) (i : ℕ) (u : Uniting a b r i) (h : 256 ≤ i) where
  all-united : united a b ≡ r
  unfolding united
  all-united =
      let e : i ≡ length r = omega (arith, u.within, u.size) in
      let f : i ≡ length a = omega (arith, u.within, u.left) in
      let g : drop i a ≡ [] = rw f (drop-length a) in
      u.same ∙ rw (g, e, take-length r) (append-nil r)

  pub uniting-end : (tree : List ℕ) (ks : List Key) → marks_of tree ks r ≡ unite (marks_of tree ks a) (marks_of tree ks b)
  uniting-end tree ks = rw (← all-united) (marks-united tree ks a b (u.left ∙ sym u.right))

  pub uniting-placed : (tree : List ℕ) → Placed tree a → Placed tree b → Placed tree r
  uniting-placed tree e f = rw (← all-united) (united-placed tree a b e f)

  pub uniting-behind : (n : ℕ) → Blank n a → Blank n b → Blank n r
  uniting-behind n e f = rw (← all-united) (united-behind a b n e f)

pub ruleset uniting = (uniting-end, uniting-placed, uniting-behind)
