-- A Vec stepped over value by value: what remains of it ends where the whole ends. Assumes nothing.
use Rattle.std.specs.Prelude.{ℕ, ◌+◌, ◌-◌, ◌≤◌, ◌<◌, ◌≡◌, List, get_or}
use Rattle.std.proofs.Common.{sym, ap, ◌∙◌, arith}
use Rattle.tree.specs.Ans.{Reader, IsOk, next_of}
use Rattle.tree.specs.Read.{repeat, counted}
use Rattle.accepted.specs.Parts.{next_is}
use Rattle.accepted.specs.Fields.{counted_is, counted-held, repeat-first, repeat-none, repeat-rest, repeat-next}

-- n values from k on are accepted, and the last ends at `end`
pub record Remains {A B : Type 0} (nil : B) (cons : A → B → B) (p : Reader A) (s : List ℕ) (end n k : ℕ) : Type 0 where
  pub rest : IsOk (repeat nil cons p n s k)
  pub same : end ≡ next_of (repeat nil cons p n s k)

module _ {A B : Type 0} {nil : B} {cons : A → B → B} {p : Reader A} {s : List ℕ} where
  pub remains-more : {end n k m : ℕ} → Remains nil cons p s end n k → 0 < n → m ≡ next_of (p s k) → Remains nil cons p s end (n - 1) m
  remains-more {n = n} {k = k} {m = m} r l e = record {
    rest = repeat-rest s k nil cons p n r.rest l m e;
    same = r.same ∙ repeat-next s k nil cons p n r.rest l m e;
  }

  pub remains-end : {end n k : ℕ} → Remains nil cons p s end n k → n ≤ 0 → k ≡ end
  remains-end {n = n} {k = k} r l = sym (r.same ∙ next_is (repeat-none s k nil cons p n l))

  -- the same where i values of n were stepped over
  pub remains-step : {end n i k m : ℕ} → Remains nil cons p s end (n - i) k → i < n → m ≡ next_of (p s k) → Remains nil cons p s end (n - (i + 1)) m
  remains-step {n = n} {i = i} r l e = let q : n - (i + 1) ≡ n - i - 1 = omega arith in rw q (remains-more r (omega arith) e)

  pub remains-first : {end n i k : ℕ} → Remains nil cons p s end (n - i) k → i < n → IsOk (p s k)
  remains-first {n = n} {i = i} {k = k} r l = repeat-first s k nil cons p (n - i) r.rest (omega arith)

  pub remains-done : {end n i k : ℕ} → Remains nil cons p s end (n - i) k → n ≤ i → k ≡ end
  remains-done r l = remains-end r (omega arith)

pub remains-start : {A B : Type 0} (nil : B) (cons : A → B → B) (p : Reader A) (s : List ℕ) (at n : ℕ) → IsOk (counted nil cons p s at) → n ≡ get_or s at 0 → Remains nil cons p s (next_of (counted nil cons p s at)) n (at + 1)
remains-start nil cons p s at n h e = rw e (record { rest = counted-held s at nil cons p h; same = ap next_of (counted_is s at nil cons p h) })

-- where none was stepped over yet
pub remains-none : {A B : Type 0} (nil : B) (cons : A → B → B) (p : Reader A) (s : List ℕ) (at n : ℕ) → IsOk (counted nil cons p s at) → n ≡ get_or s at 0 → Remains nil cons p s (next_of (counted nil cons p s at)) (n - 0) (at + 1)
remains-none nil cons p s at n h e = remains-start nil cons p s at (n - 0) h (omega (arith, e))
