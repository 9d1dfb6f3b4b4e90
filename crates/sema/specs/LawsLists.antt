-- Lists without equal elements, and how many elements such a list can have. Assumes nothing.
use Rattle.std.specs.Prelude.{ℕ, zero, suc, ◌≤◌, ◌≡◌, refl, ◌↔◌, ◌⊎◌, length, take}
use Rattle.std.proofs.Common.{zero-le, sym, ap, inl, inr, ⊎_elim, arith}
use mathlib.Core.List.Memᴰ
use mathlib.Core.List.{List, [], ◌∷◌, ◌++◌, Memᴰ}

module _ {A : Type 0} where
  -- an element stands in a list
  abbrev pub Has : List A → A → Type 0
  Has ls a = Memᴰ a ls

  -- no two elements are equal
  abbrev pub Distinct : List A → Type 0
  Distinct [] = Unit {0}
  Distinct (a ∷ ls) = (Has ls a → ⊥) × Distinct ls

  pub has-cons : (ls : List A) (b a : A) → (a ≡ b) ⊎ Has ls a ↔ Has (b ∷ ls) a
  has-cons ls b a = (⊎_elim Memᴰ.head Memᴰ.tail, Memᴰ.cases_cons)

  pub distinct_snoc : (ls : List A) (b : A) → Distinct ls → (Has ls b → ⊥) → Distinct (ls ++ (b ∷ []))
  distinct_snoc [] b d n = (Memᴰ.not-nil, tt)
  distinct_snoc (a ∷ ls) b d n = (fresh, distinct_snoc ls b d.1 (λ h. n (Memᴰ.tail h)))
    where
      split : Has ls a ⊎ Has (b ∷ []) a → ⊥
      split (inl h) = d.0 h
      split (inr h) = n (Memᴰ.head (sym (Memᴰ.eq_of_singleton h)))

      fresh : Has (ls ++ (b ∷ [])) a → ⊥
      fresh h = split (Memᴰ.append_cases ls h)

  pub has-take : (n : ℕ) (ls : List A) {a : A} → Has (take n ls) a → Has ls a
  has-take zero ls h = absurd (Memᴰ.not-nil h)
  has-take (suc n) [] h = h
  has-take (suc n) (b ∷ ls) {a} h = go (Memᴰ.cases_cons h) (has-take n ls)
    where
      go : (a ≡ b) ⊎ Has (take n ls) a → (Has (take n ls) a → Has ls a) → Has (b ∷ ls) a
      go (inl e) below = Memᴰ.head e
      go (inr m) below = Memᴰ.tail (below m)

  pub distinct-take : (n : ℕ) (ls : List A) → Distinct ls → Distinct (take n ls)
  distinct-take zero ls d = tt
  distinct-take (suc n) [] d = tt
  distinct-take (suc n) (a ∷ ls) d = (λ h. d.0 (has-take n ls h), distinct-take n ls d.1)

  -- a list without the element at a place
  record Without (ls : List A) (a : A) : Type 0 where
    rest : List A
    one_less : length ls ≡ suc (length rest)
    others : (b : A) → Has ls b → (b ≡ a → ⊥) → Has rest b

  without : {a : A} {ls : List A} → Has ls a → Without ls a
  without {a = a} (Memᴰ.head {x = x} {xs = xs} e) = record { rest = xs; one_less = refl; others = λ b h n. keep b n (Memᴰ.cases_cons h) }
    where
      keep : (b : A) → (b ≡ a → ⊥) → (b ≡ x) ⊎ Has xs b → Has xs b
      keep b n (inl p) = absurd (n (cc))
      keep b n (inr m) = m
  without {a = a} (Memᴰ.tail {x = x} {xs = xs} h) =
      let w = without h in
      record { rest = x ∷ w.rest; one_less = ap suc w.one_less; others = λ b m n. keep w b n (Memᴰ.cases_cons m) }
    where
      keep : (w : Without xs a) (b : A) → (b ≡ a → ⊥) → (b ≡ x) ⊎ Has xs b → Has (x ∷ w.rest) b
      keep w b n (inl p) = Memᴰ.head p
      keep w b n (inr m) = Memᴰ.tail (w.others b m n)

  -- different elements of a list are no more than the list is long
  pub pigeonhole : (ls bs : List A) → Distinct ls → ((a : A) → Has ls a → Has bs a) → length ls ≤ length bs
  pigeonhole [] bs d h = zero-le
  pigeonhole (a ∷ ls) bs d h =
      let w = without (h a (Memᴰ.head refl)) in
      let r = pigeonhole ls w.rest d.1 (λ b m. w.others b (h b (Memᴰ.tail m)) (λ e. d.0 (Memᴰ.cast (sym e) m))) in
      let l = w.one_less in
      omega arith
