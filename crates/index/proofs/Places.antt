-- One accepted text, and all of them one after the other, with their places as the code stores them. Assumes nothing.
use Prim.Native.Nat.{ℕ, zero, suc, ◌+◌, ◌-◌, ◌≤◌, ◌<◌}
use mathlib.Core.Path.{◌≡◌, refl, sym, ap, subst, ◌∙◌}
use mathlib.Core.List.{List, [], ◌∷◌, ◌++◌}
use mathlib.Core.Bool.{Bool, true, false, not, and-eq-true_iff}
use mathlib.Core.Logic.{⊎_elim}
use native.Mathlib.Omega.{arith}
use native.Mathlib.Nat.{eq-or-lt_of_le}
use lib.ListN.{length, get_or, take, set, length-set, length-append, get_or-append}
use lib.Seq.{take-append_seam, take-length, take-take, get_or_at, get_or-take, get_or-set_same, get_or-set_other}
use lib.Dec.{leb}
use borrow.Author.Tests.{leb-true}
use Rattle.ast.specs.Tree.{Text}
use Rattle.tree.specs.Limits.{texts_limit, text_limit}
use Rattle.tree.specs.Ans.{Ans, ok, ◌>>=◌, ◌>>◌, done, here, check, IsOk, next_of}
use Rattle.tree.specs.Read.{within, bytes}
use Rattle.tree.specs.Texts.{between, allowed, among, text, more_texts, texts, text_at, past}
use Rattle.tree.specs.Decode.{decode, texts_of}
use Rattle.context.specs.View.{number_at, text_place, TextAt, TextsAt}
use Rattle.accepted.specs.Parts.{value_or, next_is, value_is, Goes, start, field, known, past-here, checked, past-check, past_unit, ends}
use Rattle.accepted.specs.Fields.{byte_is, number_in, number_is}
use Rattle.accepted.specs.Files.{file-texts, texts-few, texts_are}

-- a text stands where other places have the same place for it
text_moved : (tree before after : List ℕ) (x : ℕ) → TextAt tree before x → text_place after x ≡ text_place before x → TextAt tree after x
text_moved tree before after x t e = record { inside = rw e t.inside; same = rw e t.same; short = rw e t.short }

within_is : {A : Type 0} (b : Bool) (size : ℕ) (x : Ans A) → IsOk (within b size x) → (b ≡ true) × (within b size x ≡ x)
unfolding within IsOk
within_is true size x h = (refl, refl)
within_is false size x h = absurd h

allowed_is : (cs : List ℕ) (place : ℕ) (s : List ℕ) (k : ℕ) → IsOk (allowed cs place s k) → allowed cs place s k ≡ ok tt k
unfolding allowed
allowed_is [] place s k h = ends tt (start h)
allowed_is (c ∷ cs) place s k h =
    let g = past-check _ _ _ _ (start h) in
    g.is ∙ allowed_is cs (place + 1) s k (subst IsOk g.is h)

-- one text
module _ (s : List ℕ) (at : ℕ) where
  bytes-step : IsOk (bytes (get_or s at 0) s (at + 1)) → (past s at ≤ length s) × (bytes (get_or s at 0) s (at + 1) ≡ ok (text_at s at) (past s at))
  unfolding bytes
  bytes-step h = let w = within_is _ _ _ h in (leb-true _ _ w.0, w.1)

  module _ (earlier : List Text) (h : IsOk (text earlier s at)) where
    length-goes : Goes (text earlier s at) (◌>>◌ (check (between 1 text_limit (get_or s at 0)) 4 at) (◌>>=◌ here (λ k. ◌>>=◌ (bytes (get_or s at 0)) (λ cs. ◌>>◌ (allowed cs k) (◌>>◌ (check (not (among cs earlier)) 4 at) (done cs)))))) s (at + 1)
    unfolding text
    length-goes = known _ _ (at + 1) (byte_is s at) refl (past-here _ (start h))

    bytes-goes : Goes (text earlier s at) (◌>>=◌ (bytes (get_or s at 0)) (λ cs. ◌>>◌ (allowed cs (at + 1)) (◌>>◌ (check (not (among cs earlier)) 4 at) (done cs)))) s (at + 1)
    bytes-goes = past-here _ (past-check _ _ _ _ length-goes)

    text-short : get_or s at 0 ≤ text_limit
    text-short = leb-true _ _ ((and-eq-true_iff (leb 1 (get_or s at 0)) (leb (get_or s at 0) text_limit)).0 (checked _ _ _ _ length-goes)).1

    text-inside : past s at ≤ length s
    text-inside = (bytes-step (field _ _ bytes-goes)).0

    text_is : text earlier s at ≡ ok (text_at s at) (past s at)
    text_is = ends _ (past-check _ _ _ _ (past_unit _ _ (past s at) (allowed_is (text_at s at) (at + 1) s (past s at)) (known _ _ (past s at) (λ o. (bytes-step o).1) refl bytes-goes)))

-- texts one after the other
more-first : (n : ℕ) (earlier : List Text) (s : List ℕ) (at : ℕ) → IsOk (more_texts (suc n) earlier s at) → IsOk (text earlier s at)
unfolding more_texts
more-first n earlier s at h = field _ _ (start h)

more-step : (n : ℕ) (earlier : List Text) (s : List ℕ) (at : ℕ) → IsOk (more_texts (suc n) earlier s at) → more_texts (suc n) earlier s at ≡ more_texts n (earlier ++ (text_at s at ∷ [])) s (past s at)
unfolding more_texts
more-step n earlier s at h = (known _ _ (past s at) (text_is s at earlier) refl (start h)).is

-- they begin with the earlier ones
more_begins : (n : ℕ) (earlier : List Text) (s : List ℕ) (at : ℕ) → IsOk (more_texts n earlier s at) → take (length earlier) (value_or [] (more_texts n earlier s at)) ≡ earlier
unfolding more_texts
more_begins zero earlier s at h = rw (value_is (ends earlier (start h)) []) (take-length earlier)
more_begins (suc n) earlier s at h =
    let x = text_at s at ∷ [] in
    let e = more-step n earlier s at h in
    let b = more_begins n (earlier ++ x) s (past s at) (subst IsOk e h) in
    let v : List Text = value_or [] (more_texts n (earlier ++ x) s (past s at)) in
    let l : length earlier ≤ length (earlier ++ x) = omega (arith, length-append earlier x) in
    ap (λ a. take (length earlier) (value_or [] a)) e ∙ sym (take-take (length earlier) (length (earlier ++ x)) v l) ∙ ap (take (length earlier)) b ∙ take-append_seam earlier x

-- i of n texts are placed, and the others are read from `at` on
pub record Placing (s index : List ℕ) (n i at : ℕ) : Type 0 where
  pub fine : IsOk (texts s 0)
  pub room : length index ≡ n
  pub count : length (take i (texts_of s)) ≡ i
  pub same : texts s 0 ≡ more_texts (n - i) (take i (texts_of s)) s at
  pub each : (x : ℕ) → x < i → TextAt s index x

module _ (s : List ℕ) (h : IsOk (decode s)) where
  pub count_in : 0 + 2 ≤ length s
  unfolding texts
  count_in = number_in s 0 2 (field _ _ (past-here _ (start (file-texts s h))))

  counted-goes : Goes (texts s 0) (◌>>◌ (check (leb (number_at 2 s 0) texts_limit) 5 0) (more_texts (number_at 2 s 0) [])) s 2
  unfolding texts
  counted-goes = known _ _ 2 (number_is s 0 2) refl (past-here _ (start (file-texts s h)))

  pub few_placed : (n : ℕ) → n ≡ number_at 2 s 0 → n ≤ texts_limit
  few_placed n e = rw e (leb-true _ _ (checked _ _ _ _ counted-goes))

  pub placing_start : (index : List ℕ) (n : ℕ) → length index ≡ n → n ≡ number_at 2 s 0 → Placing s index n 0 2
  placing_start index n l e =
      let g = counted-goes in
      let z : n - 0 ≡ n = omega arith in
      record {
        fine = file-texts s h;
        room = l;
        count = refl;
        same = rw (z, e) (past-check _ _ _ _ g).is;
        each = λ x b. absurd (omega arith);
      }

module _ (s index : List ℕ) (n i at : ℕ) (p : Placing s index n i at) where
  abbrev before : List Text
  before = take i (texts_of s)

  texts-value : value_or [] (texts s 0) ≡ texts_of s
  texts-value = value_is (texts_are s p.fine) []

  module _ (l : i < n) where
    remains : texts s 0 ≡ more_texts (suc (n - (i + 1))) before s at
    remains = let e : n - i ≡ suc (n - (i + 1)) = omega arith in rw e at p.same

    rest : IsOk (more_texts (suc (n - (i + 1))) before s at)
    rest = subst IsOk remains p.fine

    first : IsOk (text before s at)
    first = more-first _ before s at rest

    pub place_inside : past s at ≤ length s
    place_inside = text-inside s at before first

    next : texts s 0 ≡ more_texts (n - (i + 1)) (before ++ (text_at s at ∷ [])) s (past s at)
    next = remains ∙ more-step _ before s at rest

    counted : length (before ++ (text_at s at ∷ [])) ≡ i + 1
    counted = omega (arith, length-append before (text_at s at ∷ []), p.count)

    taken : take (i + 1) (texts_of s) ≡ before ++ (text_at s at ∷ [])
    taken =
        let b = more_begins _ _ s _ (subst IsOk next p.fine) in
        rw (counted, ← next, texts-value) at b

    text-here : get_or (texts_of s) i [] ≡ text_at s at
    text-here = sym (get_or-take (i + 1) (texts_of s) i [] (omega arith)) ∙ ap (λ t. get_or t i []) taken ∙ get_or_at before (text_at s at) [] [] i p.count

    placed : text_place (set index i at) i ≡ at
    placed = get_or-set_same index i at 0 (omega (arith, p.room))

    text-placed : TextAt s (set index i at) i
    text-placed =
        let z : at + 1 + get_or s at 0 - (at + 1) ≡ get_or s at 0 = omega arith in
        record { inside = rw placed place_inside; same = rw (placed, z) (sym text-here); short = rw placed (text-short s at before first) }

    each_placed : (x : ℕ) → x < i + 1 → TextAt s (set index i at) x
    each_placed x b =
        ⊎_elim
        (λ (q : x ≡ i). rw q text-placed)
        (λ (q : x < i). text_moved s index (set index i at) x (p.each x q) (get_or-set_other index i x at 0 (omega arith)))
        (eq-or-lt_of_le (omega arith))

    pub placing_more : (end : ℕ) → end ≡ past s at → Placing s (set index i at) n (i + 1) end
    placing_more end e = record {
      fine = p.fine;
      room = omega (arith, p.room, length-set index i at);
      count = ap length taken ∙ counted;
      same = rw (e, taken) next;
      each = each_placed;
    }

  pub placing_end : n ≤ i → i ≤ length index → (rest : List ℕ) → length (index ++ rest) ≡ 256 → (at ≡ next_of (texts s 0)) × TextsAt s (index ++ rest)
  unfolding more_texts done
  placing_end l k rest e =
      let z : n - i ≡ 0 = omega arith in
      let t : texts s 0 ≡ ok before at = rw z at p.same in
      let all = sym texts-value ∙ value_is t [] in (
        sym (next_is t),
        record {
          size = e;
          few = texts-few s p.fine;
          each = λ x b.
              let below : x < i = omega (arith, ap length all, p.count) in
              text_moved s index (index ++ rest) x (p.each x below) (get_or-append index rest 0 x (omega arith));
        },
      )
