-- All texts, and their kinds and checksums as the code stores them: what holds while they are read, and at each way out. Assumes nothing.
use Rattle.std.proofs.Common.{◌≡◌, refl, sym, ap, ◌∙◌, ℕ, zero, suc, ◌+◌, ◌-◌, ◌<◌, ◌≤◌, ◌⊎◌, inl, inr, List, [], ◌∷◌, ◌++◌, map, length, get_or, take, drop, set, Bool, true, false, not, leb, ltb, arith, add-one}
use native.Mathlib.Decide.{ℕ_discrete}
use mathlib.Core.List.{map-append}
use lib.ListN.{length-set, length-take}
use lib.Seq.{take-suc-set, get_or-set_same, get_or-set_other}
use borrow.Author.Tests.{le-leb, lt-leb}
use Rattle.text.proofs.Order.{le-or-lt}
use Rattle.ast.specs.Tree.{Text}
use Rattle.tree.specs.AnsLaws.{came}
use Rattle.tree.specs.Limits.{texts_limit, text_limit}
use Rattle.tree.specs.Ans.{Ans, ok, refused, bind, ◌>>=◌, ◌>>◌, done, here, check, refuse, given}
use Rattle.tree.specs.Read.{byte, bytes, within, number}
use Rattle.tree.specs.Texts.{between, allowed, among, text, more_texts, texts, text_at, past}
use Rattle.tree.specs.Decode.{texts_of}
use Rattle.tree.proofs.Steps.{number_in, number-end}
use Rattle.refusal.specs.Refusal.{number_of}
use Rattle.refusal.specs.declared.Refused.{Refused}
use Rattle.reading.specs.declared.answers.Read.{Read}
use Rattle.reading.specs.declared.spelling.Spelling.{Spelling}
use Rattle.reading.specs.Answers.{answer, forget}
use Rattle.reading.specs.Section.{texts_from, past_texts, text_count, kind_of, kind_read, kinds_of, checksum, slot_of, Gathered}
use Rattle.reading.proofs.Repeated.{has_sum, no_sum, sum-last}

-- what the parts of a text give
module _ (s : List ℕ) (at : ℕ) where
  byte-told : (n k : ℕ) → byte s at ≡ ok n k → (n ≡ get_or s at 0) × (k ≡ at + 1)
  unfolding byte within
  byte-told n k e = go (ltb at (length s)) e
    where
      go : (b : Bool) → within b (length s) (ok (get_or s at 0) (at + 1)) ≡ ok n k → (n ≡ get_or s at 0) × (k ≡ at + 1)
      go true e = (cc, cc)
      go false e = absurd cc

  bytes-told : (n : ℕ) (x : Text) (k : ℕ) → bytes n s at ≡ ok x k → (x ≡ take n (drop at s)) × (k ≡ at + n) × (k ≤ length s)
  unfolding bytes within
  bytes-told n x k e = go (le-or-lt (at + n) (length s)) e
    where
      go : (at + n ≤ length s) ⊎ (length s < at + n) → within (leb (at + n) (length s)) (length s) (ok (take n (drop at s)) (at + n)) ≡ ok x k → (x ≡ take n (drop at s)) × (k ≡ at + n) × (k ≤ length s)
      go (inl h) e = let z : ok (take n (drop at s)) (at + n) ≡ ok x k = rw (le-leb (at + n) (length s) h) at e in let y : k ≡ at + n = cc in (cc, y, rw y h)
      go (inr h) e = let z : refused 3 (length s) ≡ ok x k = rw (lt-leb (at + n) (length s) h) at e in absurd cc

  check-told : (b : Bool) (place : ℕ) (u : Unit {0}) (k : ℕ) → check b 4 place s at ≡ ok u k → k ≡ at
  unfolding check done refuse
  check-told true place u k e = cc
  check-told false place u k e = absurd cc

  allowed-told : (x : Text) (place : ℕ) (u : Unit {0}) (k : ℕ) → allowed x place s at ≡ ok u k → k ≡ at
  unfolding allowed check done refuse ◌>>◌ bind
  allowed-told [] place u k e = cc
  allowed-told (c ∷ cs) place u k e = go (allowed-told cs (place + 1) u k) (between 33 126 c) e
    where
      go : (allowed cs (place + 1) s at ≡ ok u k → k ≡ at) → (b : Bool) → bind (check b 4 place s at) (λ v next. allowed cs (place + 1) s next) ≡ ok u k → k ≡ at
      go f true e = f e
      go f false e = absurd cc

-- taken apart: its first part, then the rest
bind-into : {A B C : Type 0} (x : Ans A) (f : A → ℕ → Ans C) (g : A → ℕ → Ans B) (h : B → ℕ → Ans C) → ((a : A) (k : ℕ) → f a k ≡ bind (g a k) h) → bind x f ≡ bind (bind x g) h
unfolding bind
bind-into (ok a k) f g h e = e a k
bind-into (refused m p) f g h e = refl

module _ (s : List ℕ) (at : ℕ) where
  -- what the parts tell of the whole
  joined : (a b n k c d f g h i next : ℕ) (x y : Text) → ok at at ≡ ok a b → (n ≡ get_or s b 0) × (k ≡ b + 1) → c ≡ k → ok c c ≡ ok d f → (y ≡ take n (drop f s)) × (g ≡ f + n) × (g ≤ length s)
      → h ≡ g → i ≡ h → ok y i ≡ ok x next → (x ≡ text_at s at) × (next ≡ past s at) × (past s at ≤ length s)
  joined a b n k c d f g h i next x y e0 e1 e2 e3 e4 e5 e6 e7 =
      let last : g ≡ past s at = let e = e1.1 in let r = e4.1 in cc in
      let part : x ≡ text_at s at = let e = e1.0 in let o = e1.1 in let r = e4.0 in cc in
      let past-is : next ≡ past s at = cc in
      (part, past-is, rw last at e4.2)

  -- a text with no others before it
  text-told : (x : Text) (k : ℕ) → text [] s at ≡ ok x k → (x ≡ text_at s at) × (k ≡ past s at) × (past s at ≤ length s)
  unfolding text here done among ◌>>=◌ ◌>>◌
  text-told x k e =
      let a = came (ok at at) _ x k e in
      let b = came _ _ x k a.then in
      let c = came _ _ x k b.then in
      let d = came (ok c.next c.next) _ x k c.then in
      let f = came _ _ x k d.then in
      let g = came _ _ x k f.then in
      let h = came _ _ x k g.then in
      joined _ _ _ _ _ _ _ _ _ _ _ _ _ a.from (byte-told s a.next _ _ b.from) (check-told s b.next _ _ _ _ c.from) d.from (bytes-told s d.next _ _ _ f.from) (allowed-told s f.next _ _ _ _ g.from) (check-told s g.next _ _ _ _ h.from) h.then

  kind-told : (v : Spelling) (k : ℕ) → ok v k ≡ kind_read s at → (text [] s at ≡ ok (text_at s at) k) × (v ≡ kind_of (text_at s at)) × (k ≡ past s at) × (past s at ≤ length s)
  unfolding kind_read done ◌>>=◌
  kind-told v k e =
      let a = came (text [] s at) _ v k (sym e) in
      let b = text-told a.value a.next a.from in
      let z : (kind_of a.value ≡ v) × (a.next ≡ k) = let w = a.then in (cc, cc) in
      (a.from ∙ rw (b.0, z.1) refl, sym z.0 ∙ rw b.0 refl, sym z.1 ∙ b.1, b.2)

  -- first a text with no others before it, then the test on those before it
  text-after : (earlier : List Text) → text earlier s at ≡ bind (text [] s at) (λ x next. ◌>>◌ (check (not (among x earlier)) 4 at) (done x) s next)
  unfolding text among here check done ◌>>=◌ ◌>>◌ bind
  text-after earlier = bind-into (byte s at) _ _ _ (λ n k. bind-into (check (between 1 text_limit n) 4 at s k) _ _ _ (λ u k. bind-into (bytes n s k) _ _ _ (λ x next. bind-into (allowed x k s next) _ _ _ (λ u next. refl))))

  kind_stops : (m p : ℕ) → refused m p ≡ kind_read s at → text [] s at ≡ refused m p
  unfolding kind_read done ◌>>=◌ bind
  kind_stops m p e = go (text [] s at) e
    where
      go : (x : Ans Text) → refused m p ≡ bind x (λ y next. ok (kind_of y) next) → x ≡ refused m p
      go (ok y next) e = absurd cc
      go (refused n q) e = let z : n ≡ m = cc in let y : q ≡ p = cc in rw (z, y)

-- one text more from a place on
texts-more : (s : List ℕ) (i at : ℕ) → texts_from s (suc i) at ≡ texts_from s i at ++ (text_at s (past_texts s i at) ∷ [])
unfolding texts_from past_texts
texts-more s zero at = refl
texts-more s (suc i) at = ap (λ (l : List Text). text_at s at ∷ l) (texts-more s i (past s at))

past_more : (s : List ℕ) (i at : ℕ) → past_texts s (suc i) at ≡ past s (past_texts s i at)
unfolding past_texts
past_more s zero at = refl
past_more s (suc i) at = past_more s i (past s at)

-- the texts behind their count
pub texts_counted : (s : List ℕ) → texts s 0 ≡ bind (text_count s 0) (λ n next. more_texts n [] s next)
unfolding texts text_count here done ◌>>=◌ ◌>>◌ bind
texts_counted s = bind-into (number 2 s 0) _ _ _ (λ n k. bind-into (check (leb n texts_limit) 5 0 s k) _ _ _ (λ u k. refl))

module _ (s : List ℕ) (n k : ℕ) (counted : text_count s 0 ≡ ok n k) where
  count-told : (2 ≤ length s) ⊎ (length s < 2) → (k ≡ 2) × (n ≤ texts_limit)
  unfolding text_count here check done refuse ◌>>=◌ ◌>>◌ bind
  count-told (inr h) = let z : refused 3 (length s) ≡ ok n k = rw (number-end s 0 2 h) at counted in absurd cc
  count-told (inl h) = go _ (number_in s 0 2 h) (le-or-lt _ texts_limit)
    where
      go : (m : ℕ) → number 2 s 0 ≡ ok m 2 → (m ≤ texts_limit) ⊎ (texts_limit < m) → (k ≡ 2) × (n ≤ texts_limit)
      go m e (inr f) = let z : refused 5 0 ≡ ok n k = rw (e, lt-leb m texts_limit f) at counted in absurd cc
      go m e (inl f) =
          let z : ok m 2 ≡ ok n k = rw (e, le-leb m texts_limit f) at counted in
          let v : m ≡ n = cc in
          (cc, rw v at f)

  count_next : k ≡ 2
  count_next = (count-told (le-or-lt _ _)).0

  pub count-few : n ≤ texts_limit
  count-few = (count-told (le-or-lt _ _)).1

-- a refusal leaves no kinds
gathered_none : (s : List ℕ) (kinds : List Spelling) (n : ℕ) (r : Read (Unit {0})) (m p : ℕ) → answer r ≡ refused m p → length kinds ≡ 256 → texts s 0 ≡ refused m p → Gathered s kinds n r
unfolding forget
gathered_none s kinds n r m p g l e = record {
  told = g ∙ rw e refl;
  stored = λ k h. let z : ok tt k ≡ refused m p = sym (ap answer h) ∙ g in absurd cc;
  long = l;
}

-- a checksum whose slot was not met is not among these
abbrev pub Met : List Bool → List ℕ → Type 0
Met met sums = (x : ℕ) → get_or met (slot_of x) false ≡ false → has_sum x sums ≡ false

met_more : (met : List Bool) (sums : List ℕ) (w slot : ℕ) → slot ≡ slot_of w → slot < length met → Met met sums → Met (set met slot true) (sums ++ (w ∷ []))
met_more met sums w slot e l told x z = go (ℕ_discrete (slot_of x) slot)
  where
    go : Dec (slot_of x ≡ slot) → has_sum x (sums ++ (w ∷ [])) ≡ false
    go (yes f) = let y : true ≡ false = sym (get_or-set_same met slot true false l) ∙ (rw f at z) in absurd cc
    go (no f) = sum-last x w sums (λ g. f (rw (sym g) (sym e))) (told x (sym (get_or-set_other met slot (slot_of x) true false f) ∙ z))

-- while texts are read: `i` of `n` stand before `k`
pub record Going (s : List ℕ) (kinds : List Spelling) (sums : List ℕ) (met : List Bool) (n i k : ℕ) : Type 0 where
  pub done-few : i ≤ n
  pub few : n ≤ texts_limit
  pub place : past_texts s i 2 ≡ k
  pub remain : texts s 0 ≡ more_texts (n - i) (texts_from s i 2) s k
  pub kept : take i kinds ≡ map kind_of (texts_from s i 2)
  pub long : length kinds ≡ 256
  pub summed : take i sums ≡ map checksum (texts_from s i 2)
  pub room : length sums ≡ 256
  pub known : Met met (take i sums)
  pub slots : length met ≡ 1024

pub going_start : (s : List ℕ) (k n : ℕ) (kinds : List Spelling) (sums : List ℕ) (met : List Bool) → text_count s 0 ≡ ok n k → length kinds ≡ 256 → length sums ≡ 256 → length met ≡ 1024 → Going s kinds sums met n 0 k
unfolding bind past_texts texts_from
going_start s k n kinds sums met counted long room slots = record {
  done-few = omega arith;
  few = count-few s n k counted;
  place = sym (count_next s n k counted);
  remain = texts_counted s ∙ (let z : n - 0 ≡ n = omega arith in rw (counted, z) refl);
  kept = refl;
  long = long;
  summed = refl;
  room = room;
  known = λ x z. refl;
  slots = slots;
}

module _ (s : List ℕ) (kinds : List Spelling) (sums : List ℕ) (met : List Bool) (n i k : ℕ) (going : Going s kinds sums met n i k) where
  -- the checksums of the earlier texts
  pub going_few : i ≤ 256
  going_few = omega (arith, going.few, going.done-few)

  pub going_part : i ≡ length (take i sums)
  going_part = omega (arith, going_few, going.room, length-take i sums)

  pub going_summed : take i sums ≡ map checksum (texts_from s (length (take i sums)) 2)
  going_summed = rw (← going_part) going.summed

  left : i < n → n - i ≡ suc (n - (i + 1))
  left h = omega arith

  remain-more : i < n → texts s 0 ≡ bind (text (texts_from s i 2) s k) (λ x next. more_texts (n - (i + 1)) (texts_from s i 2 ++ (x ∷ [])) s next)
  unfolding more_texts ◌>>=◌
  remain-more h = going.remain ∙ rw (left h) refl

  module _ (h : i < n) where
    pub going_refused : (a : Read Spelling) (r : Refused) → answer a ≡ kind_read s k → a ≡ Read.Refused r → (b : Read (Unit {0})) → answer b ≡ forget (answer a) → Gathered s kinds n b
    unfolding forget bind
    going_refused a r e g b f =
        let stops = kind_stops s k (number_of r.refusal) r.place (sym (ap answer g) ∙ e) in
        gathered_none s kinds n b (number_of r.refusal) r.place (f ∙ rw g refl) going.long (remain-more h ∙ rw (text-after s k (texts_from s i 2), stops) refl)

    module _ (v : Spelling) (next : ℕ) (g : ok v next ≡ kind_read s k) where
      told : (text [] s k ≡ ok (text_at s k) next) × (v ≡ kind_of (text_at s k)) × (next ≡ past s k) × (past s k ≤ length s)
      told = kind-told s k v next g

      pub going_within : past_texts s (length (take i sums)) 2 ≤ length s
      going_within = rw (← going_part) (omega (arith, going.place, told.3))

      part_is : take (next - (k + 1)) (drop (k + 1) s) ≡ text_at s k
      part_is = let z : next - (k + 1) ≡ get_or s k 0 = omega (arith, told.2) in rw z

      module _ (r : Bool) (known : r ≡ among (take (next - (k + 1)) (drop (k + 1) s)) (texts_from s (length (take i sums)) 2)) where
        text_is : text (texts_from s i 2) s k ≡ ◌>>◌ (check (not r) 4 k) (done (text_at s k)) s next
        unfolding bind
        text_is = text-after s k (texts_from s i 2) ∙ rw (told.0, rw (← going_part, part_is) at known) refl

        pub going_again : r ≡ true → (b : Read (Unit {0})) → answer b ≡ refused 4 k → Gathered s kinds n b
        unfolding check refuse ◌>>◌ bind
        going_again t b e = gathered_none s kinds n b 4 k e going.long (remain-more h ∙ rw (text_is, t) refl)

        pub going_more : r ≡ false → (w slot : ℕ) → w ≡ checksum (take (next - (k + 1)) (drop (k + 1) s)) → slot ≡ slot_of w → slot < 1024 → Going s (set kinds i v) (set sums i w) (set met slot true) n (i + 1) next
        unfolding check done ◌>>◌ bind
        going_more t w slot u o p =
            let l : i < length kinds = omega (arith, going.long, going.few) in
            let m : i < length sums = omega (arith, going.room, going.few) in
            record {
              done-few = omega arith;
              few = going.few;
              place = rw add-one (past_more s i 2 ∙ rw going.place (sym told.2));
              remain = remain-more h ∙ rw (text_is, t, add-one i, texts-more s i 2, going.place) refl;
              kept = rw (add-one, take-suc-set kinds i v l, texts-more s i 2, map-append, going.kept, going.place, told.1) refl;
              long = length-set kinds i v ∙ going.long;
              summed = rw (add-one, take-suc-set sums i w m, texts-more s i 2, map-append, going.summed, going.place, u, part_is) refl;
              room = length-set sums i w ∙ going.room;
              known = rw (add-one, take-suc-set sums i w m) (met_more met (take i sums) w slot o (omega (arith, going.slots)) going.known);
              slots = length-set met slot true ∙ going.slots;
            }

      -- where the slot was not met, the text is new
      pub going_new : (w slot : ℕ) → w ≡ checksum (take (next - (k + 1)) (drop (k + 1) s)) → slot ≡ slot_of w → slot < 1024 → get_or met slot false ≡ false → Going s (set kinds i v) (set sums i w) (set met slot true) n (i + 1) next
      going_new w slot u o p z = going_more false (no_sum _ _ (rw (← going_summed, ← u) (going.known w (rw (← o) z)))) refl w slot u o p

  pub going_end : n ≤ i → Gathered s kinds n (Read.At tt k)
  unfolding more_texts done forget texts_of given kinds_of
  going_end h =
      let z : n - i ≡ 0 = omega arith in
      let j : i ≡ n = omega (arith, going.done-few) in
      let t : texts s 0 ≡ ok (texts_from s i 2) k = going.remain ∙ rw z refl in
      record { told = rw t; stored = λ m g. rw (t, ← j) going.kept; long = going.long }
