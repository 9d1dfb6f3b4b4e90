-- The views of an entry go by its bytes alone. Assumes nothing.
use Prim.Native.Nat.{ℕ, zero, suc, ◌+◌, ◌≤◌, ◌<◌}
use mathlib.Core.Path.{◌≡◌, refl, sym, ap, ◌∙◌}
use mathlib.Core.List.{List, ◌++◌, append_assoc}
use mathlib.Core.Logic.{◌⊎◌, inl, inr, ⊎_elim}
use native.Mathlib.Omega.{arith}
use native.Mathlib.Nat.{add-zero}
use lib.ListN.{length, get_or, take, drop, length-drop, get_or-append}
use lib.Seq.{sets, sets-eq, length-take-le, take-append-le, drop-append-le, drop_at, drop-drop, get_or-drop}
use Rattle.text.specs.Big.{value}
use Rattle.context.specs.View.{number_at, span_at, symbol_by, gate_by, function_by}
use Rattle.tables.proofs.Frame.{Outside, same-part}

-- so many bytes of s from a on are those of t from b on
pub record Alike (w : ℕ) (s : List ℕ) (a : ℕ) (t : List ℕ) (b : ℕ) : Type 0 where
  pub byte : (i : ℕ) → i < w → get_or s (a + i) 0 ≡ get_or t (b + i) 0
  pub part : (i n : ℕ) → i + n ≤ w → take n (drop (a + i) s) ≡ take n (drop (b + i) t)

-- what a store elsewhere leaves
pub untouched : {a b : ℕ} {s t : List ℕ} → Outside a b s t → (w p : ℕ) → (p + w ≤ a) ⊎ (b ≤ p) → Alike w t p s p
untouched {a} {b} r w p o =
    record {
      byte = λ i h. r.same (p + i) (⊎_elim (λ (u : p + w ≤ a). inl (omega arith)) (λ (u : b ≤ p). inr (omega arith)) o);
      part = λ i n h. same-part r (p + i) n (⊎_elim (λ (u : p + w ≤ a). inl (omega arith)) (λ (u : b ≤ p). inr (omega arith)) o);
    }

drop-sets : (s e : List ℕ) (at : ℕ) → at + length e ≤ length s → drop at (sets s at e) ≡ e ++ drop (at + length e) s
drop-sets s e at h =
    let p : sets s at e ≡ take at s ++ (e ++ drop (at + length e) s) = sets-eq e s at h ∙ append_assoc (take at s) e (drop (at + length e) s) in
    ap (drop at) p ∙ drop_at (take at s) (e ++ drop (at + length e) s) at (length-take-le at s (omega arith))

-- what was stored
pub stored : (s e : List ℕ) (at : ℕ) → at + length e ≤ length s → Alike (length e) (sets s at e) at e 0
stored s e at h =
    let t = sets s at e in
    let rest = drop (at + length e) s in
    record {
      byte = λ i k.
          let z : 0 + i ≡ i = omega arith in
          sym (get_or-drop at t i 0) ∙ ap (λ (l : List ℕ). get_or l i 0) (drop-sets s e at h) ∙ rw z (get_or-append e rest 0 i k);
      part = λ i n k.
          let z : 0 + i ≡ i = omega arith in
          let d : drop i (drop at t) ≡ drop i e ++ rest = ap (drop i) (drop-sets s e at h) ∙ drop-append-le i e rest (omega arith) in
          let l : n ≤ length (drop i e) = rw length-drop (omega arith) in
          ap (take n) (sym (drop-drop i at t) ∙ d) ∙ rw z (take-append-le n (drop i e) rest l);
    }

module _ {w : ℕ} {s : List ℕ} {a : ℕ} {t : List ℕ} {b : ℕ} (r : Alike w s a t b) where
  head-alike : 0 < w → get_or s a 0 ≡ get_or t b 0
  head-alike h = rw (add-zero a, add-zero b) at (r.byte 0 h)

  number-alike : (i n : ℕ) → i + n ≤ w → number_at n s (a + i) ≡ number_at n t (b + i)
  number-alike i n h = ap (value 0) (r.part i n h)

  span-alike : (i : ℕ) → i + 8 ≤ w → span_at s (a + i) ≡ span_at t (b + i)
  span-alike i h =
      let e : a + (i + 4) ≡ a + i + 4 = omega arith in
      let f : b + (i + 4) ≡ b + i + 4 = omega arith in
      let p : number_at 4 s (a + i + 4) ≡ number_at 4 t (b + i + 4) = rw (e, f) at (number-alike (i + 4) 4 (omega arith)) in
      rw (number-alike i 4 (omega arith), p)

  pub symbol_by_lem : (code : ℕ) → 17 ≤ w → symbol_by s a code ≡ symbol_by t b code
  symbol_by_lem zero h = refl
  symbol_by_lem (suc code) h = rw (head-alike (omega arith), number-alike 1 8 (omega arith), span-alike 9 (omega arith))

  gate_by_lem : (code : ℕ) → 11 ≤ w → gate_by s a code ≡ gate_by t b code
  gate_by_lem zero h = refl
  gate_by_lem (suc code) h = rw (r.byte 1 (omega arith), r.byte 2 (omega arith), span-alike 3 (omega arith))

  pub gate-alike : 11 ≤ w → gate_by s a (get_or s a 0) ≡ gate_by t b (get_or t b 0)
  gate-alike h = rw (head-alike (omega arith)) (gate_by_lem (get_or t b 0) h)

  function_by_lem : (code : ℕ) → 11 ≤ w → ((code ≡ 0 → ⊥) → 11 + get_or t (b + 2) 0 ≤ w) → function_by s a code ≡ function_by t b code
  function_by_lem zero h k = refl
  function_by_lem (suc code) h k =
      let l = k (λ z. omega arith) in
      rw (r.byte 1 (omega arith), r.byte 2 (omega arith), span-alike 3 (omega arith), r.part 11 (get_or t (b + 2) 0) l)

  -- as many bytes as the parameters of a defined function take
  pub function_alike : 11 ≤ w → ((get_or t b 0 ≡ 0 → ⊥) → 11 + get_or t (b + 2) 0 ≤ w) → function_by s a (get_or s a 0) ≡ function_by t b (get_or t b 0)
  function_alike h k = rw (head-alike (omega arith)) (function_by_lem (get_or t b 0) h k)
