-- A sink that stores where there is room and always advances: what is left to write. Assumes nothing.
use Prim.Native.Nat.{ℕ, zero, suc, ◌<◌, ◌≤◌, ◌+◌, ◌-◌, min}
use mathlib.Core.Path.{◌≡◌, refl, ap, sym, ◌∙◌}
use mathlib.Core.List.{List, [], ◌∷◌, ◌++◌, append_assoc}
use mathlib.Core.Logic.{⊎_elim}
use native.Mathlib.Omega.{arith}
use lib.ListN.{length, take, drop, set, length-set, length-append}
use lib.Seq.{sets, set_out, take-nil, take-length, length-take-le}
use borrow.Rule.Slice.PartMut.{put_mid, put_same}
use Rattle.std.proofs.lemmas.List.{drop-drop, length-take, length-drop}
use Rattle.std.proofs.lemmas.List.Edits.{sets-eq}
use Rattle.text.proofs.Order.{le-or-lt}
use Rattle.text.proofs.Sets.{sets-append}
use Rattle.lines.specs.Stored.{Wrote}

-- what is past the end is not stored
pub sets-cut : (xs l : List ℕ) (i k : ℕ) → length l ≤ i + k → sets l i (take k xs) ≡ sets l i xs
sets-cut [] l i k h = rw (take-nil {A = ℕ} k)
sets-cut (x ∷ xs) l i zero h = rw (set_out l i x (omega arith)) (sets-cut xs l (suc i) zero (omega arith))
sets-cut (x ∷ xs) l i (suc k) h = sets-cut xs (set l i x) (suc i) k (omega (arith, length-set l i x))

pub wrote_then : {o : List ℕ} {n : ℕ} {b : List ℕ} {k : ℕ} {b' : List ℕ} {k' : ℕ} {xs ys : List ℕ} → Wrote o n b k xs → Wrote b k b' k' ys → Wrote o n b' k' (xs ++ ys)
wrote_then {o} {n} {b} {k} {b'} {k'} {xs} {ys} v w =
    record { holds = rw (sets-append xs ys o n, ← v.holds, ← v.after) w.holds; after = omega (arith, v.after, w.after, length-append xs ys) }

-- a copy under way: so many of the bytes are stored
pub record Copying (s b r : List ℕ) (i : ℕ) : Type 0 where
  pub within : i ≤ length b
  pub size : length r ≡ length b
  pub fits : length b ≤ length s
  pub same : take i r ≡ take i s

module _ {s b r : List ℕ} {i : ℕ} (u : Copying s b r i) where
  pub copying-end : {k : ℕ} → k ≡ length b → length b ≤ i → r ≡ take k s
  copying-end {k} h g =
      let e : i ≡ length r = omega (arith, u.within, u.size) in
      let f : k ≡ length r = omega (arith, u.size) in
      rw f (sym (take-length r) ∙ rw e at u.same)

-- a piece copied as far as there is room
module _ (o s : List ℕ) where
  copied-part : (n k : ℕ) → n + k ≤ length o → k ≤ length s → sets o n (take k s) ≡ sets o n s → put_mid n k o (take k s) ≡ sets o n s
  copied-part n k h g e =
      let l : length (take k s) ≡ k = length-take-le k s g in
      let p : put_mid n k o (take k s) ≡ sets o n (take k s) = rw (sets-eq (take k s) o n (omega arith), l, drop-drop k n o, append_assoc (take n o) (take k s) (drop (n + k) o)) in
      p ∙ e

  copied-whole : (n : ℕ) → n + length s ≤ length o → put_mid n (length s) o (take (length s) s) ≡ sets o n s
  copied-whole n h = copied-part n (length s) h (omega arith) (ap (sets o n) (take-length s))

  copied-front : (n : ℕ) → n ≤ length o → length o ≤ n + length s → put_mid n (length o - n) o (take (length o - n) s) ≡ sets o n s
  copied-front n h g = copied-part n (length o - n) (omega arith) (omega arith) (sets-cut s o n (length o - n) (omega arith))

  copied-none : (n : ℕ) → length o ≤ n → put_mid (length o) 0 o [] ≡ sets o n s
  copied-none n h = put_same (length o) 0 o ∙ sets-cut s o n 0 (omega arith)

copied : {o s ys : List ℕ} {n a e : ℕ} → a ≡ min n (length o) → e ≡ min (n + length s) (length o) → ys ≡ take (e - a) s → Wrote o n (put_mid a (e - a) o ys) (n + length s) s
copied {o} {s} {ys} {n} {a} {e} p q r = record { holds = rw r holds; after = refl }
  where
    holds : put_mid a (e - a) o (take (e - a) s) ≡ sets o n s
    holds =
        ⊎_elim
        (λ (h : length o ≤ n). let x : a ≡ length o = omega arith in let z : e - a ≡ 0 = omega arith in rw (z, x) (copied-none o s n h))
        (λ (h : n < length o). let x : a ≡ n = omega arith in
        ⊎_elim
        (λ (g : length o ≤ n + length s). let z : e - a ≡ length o - n = omega arith in rw (z, x) (copied-front o s n (omega arith) g))
        (λ (g : n + length s < length o). let z : e - a ≡ length s = omega arith in rw (z, x) (copied-whole o s n (omega arith)))
        (le-or-lt (length o) (n + length s)))
        (le-or-lt (length o) n)

-- at the end of the loop all that has room is stored
pub copied-all : {o s ys : List ℕ} {n a k i : ℕ} → a ≡ min n (length o) → k ≡ min (length s) (length o - a) → Copying s (take (a + k - a) (drop a o)) ys i → length (take (a + k - a) (drop a o)) ≤ i → Wrote o n (put_mid a (a + k - a) o ys) (n + length s) s
copied-all {o} {a = a} {k = k} p q u h =
    let e : a + k - a ≡ length (take (a + k - a) (drop a o)) = omega (arith, length-take (a + k - a) (drop a o), length-drop a o) in
    copied p (omega arith) (copying-end u e h)
