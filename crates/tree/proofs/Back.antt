-- A reader gives a value back from that value's bytes: what this means, how it goes from reader to reader, and for the readers of
-- specs/Read.antt. Assumes nothing.
use Prim.Native.Nat.{ℕ, zero, suc, ◌<◌, ◌≤◌, ◌+◌, ◌*◌, ◌/◌, ◌%◌, ◌^◌}
use mathlib.Core.Path.{◌≡◌, refl, ap, ◌∙◌}
use mathlib.Core.List.{List, [], ◌∷◌, ◌++◌, append_assoc, append-nil, map, flatten}
use mathlib.Core.Option.{Option, none, some}
use mathlib.Core.Bool.{Bool, true, false}
use native.Mathlib.Omega.{arith}
use native.Mathlib.Nat.{div-add-mod', div-lt_iff_lt-mul, pow-zero, pow-suc}
use native.Mathlib.Numerals.{add-one}
use lib.ListN.{length, get_or, take, drop, length-append}
use lib.Seq.{take_at, drop_at, get_or_at}
use lib.Dec.{lit<}
use borrow.Author.Tests.{lt-ltb, le-leb}
use Rattle.text.specs.Big.{value}
use Rattle.span.specs.declared.Span.{Span}
use Rattle.tree.specs.Limits.{vec_limit}
use Rattle.tree.specs.Ans.{ok, Reader, bind, ◌>>=◌, ◌>>◌, done, here, check}
use Rattle.tree.specs.Read.{within, byte, bytes, number, span, case_byte, one_of, bool, option_case, option, repeat, count, counted, vec}
use Rattle.tree.specs.Encode.{big, put_span, put_option, put_vec, put_bool}
use Rattle.tree.specs.Fits.{NumberFits, SpanFits, OptionFits, Each, VecFits}

-- the bytes of `s` from the place on begin with `bs`
pub record Holds (s : List ℕ) (at : ℕ) (bs : List ℕ) : Type 0 where
  pub front : List ℕ
  pub rest : List ℕ
  pub parts : s ≡ front ++ (bs ++ rest)
  pub place : length front ≡ at

-- where `s` holds `bs`, the reader gives `a` and the place behind them
pub record Reads (s : List ℕ) (at : ℕ) {A : Type 0} (r : Reader A) (bs : List ℕ) (a : A) : Type 0 where
  pub reads : Holds s at bs → r s at ≡ ok a (at + length bs)

module _ {s : List ℕ} {at : ℕ} where
  holds-first : (bs cs : List ℕ) → Holds s at (bs ++ cs) → Holds s at bs
  holds-first bs cs h = record {
    front = h.front;
    rest = cs ++ h.rest;
    parts = rw (append_assoc bs cs h.rest) at h.parts;
    place = h.place;
  }

  holds_second : (bs cs : List ℕ) → Holds s at (bs ++ cs) → Holds s (at + length bs) cs
  holds_second bs cs h = record {
    front = h.front ++ bs;
    rest = h.rest;
    parts = rw (append_assoc h.front bs (cs ++ h.rest)) (rw (append_assoc bs cs h.rest) at h.parts);
    place = length-append h.front bs ∙ ap (λ n. n + length bs) h.place;
  }

  pub seq : {A B : Type 0} {r : Reader A} (f : A → Reader B) {bs cs : List ℕ} {a : A} {b : B} → Reads s at r bs a → Reads s (at + length bs) (f a) cs b → Reads s at (◌>>=◌ r f) (bs ++ cs) b
  unfolding ◌>>=◌ bind
  seq f {bs} {cs} {a} {b} p q = record {
    reads = λ h.
        let e : at + length bs + length cs ≡ at + length (bs ++ cs) = omega (arith, length-append bs cs) in
        rw (p.reads (holds-first bs cs h)) (q.reads (holds_second bs cs h) ∙ ap (ok b) e);
  }

  pub done-reads : {A : Type 0} {a : A} → Reads s at (done a) [] a
  unfolding done
  done-reads {a} = record { reads = λ h. let e : at ≡ at + 0 = omega arith in ap (ok a) e }

  -- the last of several readers that takes bytes, and a value made of what it gives
  pub seq_end : {A B : Type 0} {r : Reader A} (f : A → Reader B) {bs : List ℕ} {a : A} {b : B} → Reads s at r bs a → Reads s (at + length bs) (f a) [] b → Reads s at (◌>>=◌ r f) bs b
  seq_end f {bs} p q = rw (append-nil bs) at (seq f p q)

  pub seq-here : {B : Type 0} (f : ℕ → Reader B) {cs : List ℕ} {b : B} → Reads s at (f at) cs b → Reads s at (◌>>=◌ here f) cs b
  unfolding ◌>>=◌ bind here
  seq-here f p = record { reads = λ h. p.reads h }

  pub seq-check : {B : Type 0} {q : Reader B} {test : Bool} (number place : ℕ) {cs : List ℕ} {b : B} → test ≡ true → Reads s at q cs b → Reads s at (◌>>◌ (check test number place) q) cs b
  unfolding ◌>>◌ bind check done
  seq-check number place e p = record { reads = λ h. rw e (p.reads h) }

  pub byte_reads : {b : ℕ} → Reads s at byte (b ∷ []) b
  unfolding byte within
  byte_reads {b} = record {
    reads = λ h.
        let here : at < length s = omega (arith, simp length-append at (ap length h.parts), h.place) in
        let there : get_or s at 0 ≡ b = ap (λ l. get_or l at 0) h.parts ∙ get_or_at h.front b h.rest 0 at h.place in
        rw (lt-ltb at (length s) here, there);
  }

  pub bytes-reads : (n : ℕ) (bs : List ℕ) → length bs ≡ n → Reads s at (bytes n) bs bs
  unfolding bytes within
  bytes-reads n bs e = record {
    reads = λ h.
        let here : at + n ≤ length s = omega (arith, simp length-append at (ap length h.parts), h.place) in
        let rest : drop at s ≡ bs ++ h.rest = ap (drop at) h.parts ∙ drop_at h.front (bs ++ h.rest) at h.place in
        let there : take n (drop at s) ≡ bs = ap (take n) rest ∙ take_at bs h.rest n e in
        rw (le-leb (at + n) (length s) here, there, e);
  }

pub last : {s : List ℕ} {at : ℕ} {A B : Type 0} {r : Reader A} (g : A → B) {bs : List ℕ} {a : A} → Reads s at r bs a → Reads s at (◌>>=◌ r (λ x. done (g x))) bs (g a)
last g p = seq_end _ p done-reads

-- numbers: one law for every width
pub length-big : (width n : ℕ) → length (big width n) ≡ width
unfolding big
length-big zero n = refl
length-big (suc width) n = length-append (big width (n / 256)) (n % 256 ∷ []) ∙ rw (length-big width (n / 256), add-one)

value_snoc : (bs : List ℕ) (high b : ℕ) → value high (bs ++ (b ∷ [])) ≡ value high bs * 256 + b
unfolding value
value_snoc [] high b = refl
value_snoc (c ∷ bs) high b = value_snoc bs (high * 256 + c) b

pub value-big : (width n : ℕ) → NumberFits width n → value 0 (big width n) ≡ n
unfolding big value
value-big zero n h = omega (arith, rw (pow-zero 256) at h)
value-big (suc width) n h =
    let less : n / 256 < 256 ^ width = (div-lt_iff_lt-mul (lit< tt)).1 (rw (pow-suc 256 width) at h) in
    value_snoc (big width (n / 256)) 0 (n % 256) ∙ rw (value-big width (n / 256) less) (div-add-mod' n 256)

pub number-reads : {s : List ℕ} {at : ℕ} (width n : ℕ) → NumberFits width n → Reads s at (number width) (big width n) n
unfolding number
number-reads {s} {at} width n h =
    let p : Reads s at (number width) (big width n) (value 0 (big width n)) = last _ (bytes-reads width (big width n) (length-big width n)) in
    rw (value-big width n h) at p

pub span-reads : {s : List ℕ} {at : ℕ} {sp : Span} → SpanFits sp → Reads s at span (put_span sp) sp
unfolding span put_span flatten
span-reads h = seq _ (number-reads 4 _ h.start_fits) (seq _ (number-reads 4 _ h.end_fits) done-reads)

pub case-reads : {s : List ℕ} {at cases b : ℕ} → b < cases → Reads s at (case_byte cases) (b ∷ []) b
unfolding case_byte
case-reads {cases} {b} h = seq-here _ (seq _ byte_reads (seq-check _ _ (lt-ltb b cases h) done-reads))

-- a case byte, and the reader that it chooses
pub choice-reads : {s : List ℕ} {at : ℕ} {B : Type 0} (cases : ℕ) (f : ℕ → ℕ → Reader B) (c : ℕ) {bs : List ℕ} {b : B} → c < cases → Reads s (at + 1) (f at c) bs b → Reads s at (◌>>=◌ here (λ place. ◌>>=◌ (case_byte cases) (f place))) (c ∷ bs) b
choice-reads cases f c h p = seq-here _ (seq _ (case-reads h) p)

pub one-reads : {s : List ℕ} {at : ℕ} {A : Type 0} (c : A) (cs : List A) (b : ℕ) → b < suc (length cs) → Reads s at (one_of c cs) (b ∷ []) (get_or (c ∷ cs) b c)
unfolding one_of
one-reads c cs b h = last _ (case-reads h)

pub bool-reads : {s : List ℕ} {at : ℕ} (b : Bool) → Reads s at bool (put_bool b) b
unfolding bool put_bool
bool-reads false = one-reads _ _ 0 (lit< tt)
bool-reads true = one-reads _ _ 1 (lit< tt)

-- a part that is read back wherever it stands
abbrev pub Back : {A : Type 0} → Reader A → (A → List ℕ) → (A → Type 0) → Type 0
Back {A} r put Fits = (s : List ℕ) (at : ℕ) (a : A) → Fits a → Reads s at r (put a) a

pub none_reads : {s : List ℕ} {at : ℕ} {A : Type 0} (r : Reader A) → Reads s at (option r) (0 ∷ []) none
unfolding option option_case
none_reads r = seq _ (case-reads (lit< tt)) done-reads

pub some-reads : {s : List ℕ} {at : ℕ} {A : Type 0} (r : Reader A) {bs : List ℕ} {a : A} → Reads s (at + 1) r bs a → Reads s at (option r) (1 ∷ bs) (some a)
unfolding option option_case
some-reads r p = seq _ (case-reads (lit< tt)) (last some p)

pub option-reads : {s : List ℕ} {at : ℕ} {A : Type 0} (r : Reader A) (put : A → List ℕ) (Fits : A → Type 0) → Back r put Fits → (o : Option A) → OptionFits Fits o → Reads s at (option r) (put_option put o) o
unfolding put_option OptionFits
option-reads r put Fits back none h = none_reads r
option-reads r put Fits back (some a) h = some-reads r (back _ _ a h)

each-reads : {A : Type 0} {s : List ℕ} {at : ℕ} (r : Reader A) (put : A → List ℕ) (Fits : A → Type 0) → Back r put Fits → (xs : List A) → Each Fits xs → Reads s at (repeat [] ◌∷◌ r (length xs)) (flatten (map put xs)) xs
unfolding repeat flatten Each
each-reads r put Fits back [] h = done-reads
each-reads {A = A} {s = s} {at = at} r put Fits back (x ∷ xs) h =
    seq _ (back _ _ x h.0) (last _ (each-reads {at = at + length (put x)} r put Fits back xs h.1))

-- a Vec, from its values read one after the other
pub counted-reads : {s : List ℕ} {at : ℕ} {A B : Type 0} (nil : B) (cons : A → B → B) (r : Reader A) (n : ℕ) {bs : List ℕ} {b : B} → n ≤ vec_limit → Reads s (at + 1) (repeat nil cons r n) bs b → Reads s at (counted nil cons r) (n ∷ bs) b
unfolding counted count
counted-reads nil cons r n h p = seq _ (seq-here _ (seq _ byte_reads (seq-check _ _ (le-leb n vec_limit h) done-reads))) p

pub vec-reads : {s : List ℕ} {at : ℕ} {A : Type 0} (r : Reader A) (put : A → List ℕ) (Fits : A → Type 0) → Back r put Fits → (xs : List A) → VecFits Fits xs → Reads s at (vec r) (put_vec put xs) xs
unfolding put_vec
vec-reads r put Fits back xs h = counted-reads [] ◌∷◌ r (length xs) h.few (each-reads r put Fits back xs h.each)
