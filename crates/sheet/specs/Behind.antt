-- Laws of a sheet that is blank behind its keys. Assumes nothing.
use Rattle.std.specs.Prelude.{ℕ, zero, suc, ◌≤◌, ◌≡◌, refl, List, [], ◌∷◌, ◌++◌, Bool, length, get_or, replicate}
use Rattle.std.proofs.Common.{sym, ap, ◌∙◌, arith}
use Rattle.sema.specs.Marks.{Key}
use Rattle.sema.specs.Keys.{same_key}
use Rattle.context.specs.View.{place_in, mark_by, marks_of}
use Rattle.sheet.specs.Sheet.{stored, united}
use Rattle.sheet.specs.Places.{by_test, place_here, place-there}

-- a sheet has no place from number n on
pub record Blank (n : ℕ) (sheet : List ℕ) : Type 0 where
  pub each : (i : ℕ) → n ≤ i → get_or sheet i 0 ≡ 0

pub blank-more : {n m : ℕ} {sheet : List ℕ} → n ≤ m → Blank n sheet → Blank m sheet
blank-more l h = record { each = λ i g. h.each i (omega arith) }

-- the sheet without its first place
blank-rest : (n m v : ℕ) (vs : List ℕ) → n ≤ suc m → Blank n (v ∷ vs) → Blank m vs
blank-rest n m v vs l h = record { each = λ i g. h.each (suc i) (omega arith) }

-- one place after a store, in two sheets united, and in a blank sheet
stored_at : (t : Key → Bool) (p : ℕ) (ks : List Key) (vs : List ℕ) (i : ℕ) → length ks ≤ i → get_or vs i 0 ≡ 0 → get_or (stored t p ks vs) i 0 ≡ 0
unfolding stored
stored_at t p [] vs i l h = h
stored_at t p (k ∷ ks) [] i l h = h
stored_at t p (k ∷ ks) (v ∷ vs) zero l h = absurd (omega arith)
stored_at t p (k ∷ ks) (v ∷ vs) (suc i) l h = stored_at t p ks vs i (omega arith) h

united_at : (a b : List ℕ) (i : ℕ) → get_or a i 0 ≡ 0 → get_or b i 0 ≡ 0 → get_or (united a b) i 0 ≡ 0
unfolding united
united_at [] b i e f = e
united_at (x ∷ a) [] i e f = e
united_at (x ∷ a) (y ∷ b) zero e f = rw e f
united_at (x ∷ a) (y ∷ b) (suc i) e f = united_at a b i e f

blank_at : (m i : ℕ) → ◌≡◌ {A = ℕ} (get_or (replicate m 0) i 0) 0
blank_at zero i = refl
blank_at (suc m) zero = refl
blank_at (suc m) (suc i) = blank_at m i

pub stored-behind : (t : Key → Bool) (p : ℕ) (ks : List Key) (vs : List ℕ) (n : ℕ) → length ks ≤ n → Blank n vs → Blank n (stored t p ks vs)
stored-behind t p ks vs n l h = record { each = λ i g. stored_at t p ks vs i (omega arith) (h.each i g) }

pub united-behind : (a b : List ℕ) (n : ℕ) → Blank n a → Blank n b → Blank n (united a b)
united-behind a b n e f = record { each = λ i g. united_at a b i (e.each i g) (f.each i g) }

pub blank-behind : (m : ℕ) → Blank 0 (replicate m 0)
blank-behind m = record { each = λ i g. blank_at m i }

-- a sheet with no place has none for any key
place_none : (ks : List Key) (vs : List ℕ) → Blank 0 vs → (k : Key) → place_in ks vs k ≡ 0
unfolding place_in
place_none [] vs h k = refl
place_none (l ∷ ls) [] h k = refl
place_none (l ∷ ls) (v ∷ vs) h k =
    by_test (same_key l k)
    (λ e. place_here l ls k v vs e ∙ h.each 0 (omega arith))
    (λ e. place-there l ls k v vs e ∙ place_none ls vs (blank-rest 0 0 v vs (omega arith) h) k)

-- keys behind those there are show no mark
place-more : (ks more : List Key) (vs : List ℕ) → Blank (length ks) vs → (k : Key) → place_in (ks ++ more) vs k ≡ place_in ks vs k
unfolding place_in
place-more [] more vs h k = place_none more vs h k
place-more (l ∷ ls) more [] h k = refl
place-more (l ∷ ls) more (v ∷ vs) h k =
    by_test (same_key l k)
    (λ e. place_here l (ls ++ more) k v vs e ∙ sym (place_here l ls k v vs e))
    (λ e.
    place-there l (ls ++ more) k v vs e
    ∙ place-more ls more vs (blank-rest (suc (length ls)) (length ls) v vs (omega arith) h) k
    ∙ sym (place-there l ls k v vs e))

pub marks-more : (tree : List ℕ) (ks more : List Key) (vs : List ℕ) → Blank (length ks) vs → marks_of tree (ks ++ more) vs ≡ marks_of tree ks vs
unfolding marks_of
marks-more tree ks more vs h = λ i k. ap (mark_by tree) (place-more ks more vs h k) i
