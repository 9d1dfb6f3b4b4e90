-- The mark sheet by places: what is looked up in it, and what it is after a measure, a reset and a branch.
use Rattle.std.specs.Prelude.{ℕ, zero, suc, ◌≤◌, ◌<◌, ◌≡◌, List, [], ◌∷◌, Bool, true, false, cond, ◌&&◌, length, eqb, leb}
use Rattle.std.proofs.Math.Option.{Option, none, some}
use Rattle.span.specs.declared.Span.{Span}
use Rattle.ast.specs.Tree.{TextNumber, GateOperand}
use Rattle.sema.specs.Limits.{key_limit}
use Rattle.sema.specs.Marks.{Key, key, Effect, set, keep, in_slice, is_index, measures}
use Rattle.sema.specs.Keys.{has_key}
use Rattle.context.specs.View.{place_in, keys_in, measure_span}
use Rattle.std.specs.Prelude.{Option as Maybe, Some, None}
use Rattle.context.specs.declared.Key.{Key as KeyValue}
use Rattle.std.specs.Option.{option_eq}

-- an index with room for all keys, and so many keys in it
pub record Indexed (index : List KeyValue) (count : ℕ) : Type 0 where
  pub size : length index ≡ 256
  pub few : count ≤ key_limit

-- keys of the code are equal
abbrev pub same : KeyValue → KeyValue → Bool
same a b = eqb a.name b.name && option_eq eqb a.index b.index

-- a place, or another where it is none
abbrev pub first : ℕ → ℕ → ℕ
first zero b = b
first (suc a) b = suc a

-- a place of the sheet, where 0 is none
abbrev pub marked : ℕ → Maybe ℕ
marked zero = None
marked (suc p) = Some (suc p)

-- "q by its whole key only; q[i] by its own and the whole key"
unfoldable pub lookup_in : List Key → List ℕ → TextNumber → Option ℕ → ℕ
lookup_in ks sheet x none = place_in ks sheet (key x none)
lookup_in ks sheet x (some i) = first (place_in ks sheet (key x (some i))) (place_in ks sheet (key x none))

-- the smaller index
unfoldable pub smaller : ℕ → ℕ → Maybe (ℕ × ℕ) → Maybe (ℕ × ℕ)
smaller i p None = Some (i, p)
smaller i p (Some (j, q)) = cond (leb i j) (Some (i, p)) (Some (j, q))

-- of two the smaller, and the first where they are equal
unfoldable pub nearer : Maybe (ℕ × ℕ) → Maybe (ℕ × ℕ) → Maybe (ℕ × ℕ)
nearer None c = c
nearer (Some (i, p)) c = smaller i p c

-- an index with its place, if it has one
unfoldable pub offer : Option ℕ → ℕ → Maybe (ℕ × ℕ) → Maybe (ℕ × ℕ)
offer none p c = c
offer (some i) zero c = c
offer (some i) (suc p) c = smaller i (suc p) c

-- the smallest index of a slice whose own key is marked
unfoldable pub least_in : TextNumber → ℕ × ℕ → List Key → List ℕ → Maybe (ℕ × ℕ)
least_in x r [] vs = None
least_in x r (k ∷ ks) [] = None
least_in x r (k ∷ ks) (v ∷ vs) =
    cond (eqb k.name x && in_slice r k.index) (offer k.index v (least_in x r ks vs)) (least_in x r ks vs)

-- by the place of the whole key: there is none, or there is one
abbrev pub by_whole : ℕ → Maybe (ℕ × ℕ) → Maybe (ℕ × ℕ) → Maybe (ℕ × ℕ)
by_whole zero c d = c
by_whole (suc p) c d = d

-- "a slice with start ≤ end by the whole key and its indices; start > end by none"
unfoldable pub smallest_in : List Key → List ℕ → TextNumber → ℕ × ℕ → Maybe (ℕ × ℕ)
smallest_in ks sheet x r =
    cond (leb r.0 r.1)
    (by_whole (place_in ks sheet (key x none)) (least_in x r ks sheet) (Some (r.0, (lookup_in ks sheet x (some r.0)))))
    None

abbrev pub covered_of : List ℕ → Maybe (ℕ × ℕ) → Option (ℕ × Span)
covered_of tree (Some (i, place)) = some (i, measure_span tree place)
covered_of tree None = none

-- no two keys are equal
unfoldable pub Distinct : List Key → Type 0
Distinct [] = Unit {0}
Distinct (k ∷ ks) = (has_key ks k ≡ false) × Distinct ks

-- every key that an effect sets is there
unfoldable pub Covers : List Key → (Key → Effect) → Type 0
Covers ks f = (k : Key) → f k ≡ set → has_key ks k ≡ true

-- `mark_measured`, where the name shows a size
unfoldable pub measuring : Option ℕ → GateOperand → Key → Effect
measuring size op k = cond (eqb k.name op.name && measures size op.slice op.index k.index) set keep

-- One test for both: a measure sets a key of the name, or a reset clears it. They differ where the operand is a name alone: there
-- `whole` says so.
unfoldable pub reached : Option (ℕ × ℕ) → Option ℕ → Option ℕ → Bool → Bool
reached (some r) index i whole = in_slice r i
reached none (some j) i whole = is_index j i
reached none none i whole = whole

-- a place for each key that passes a test
unfoldable pub stored : (Key → Bool) → ℕ → List Key → List ℕ → List ℕ
stored t p [] vs = vs
stored t p (k ∷ ks) [] = []
stored t p (k ∷ ks) (v ∷ vs) = cond (t k) p v ∷ stored t p ks vs

-- the places of the first sheet, and where it has none those of the second
unfoldable pub united : List ℕ → List ℕ → List ℕ
united [] bs = []
united (a ∷ r) [] = a ∷ r
united (a ∷ r) (b ∷ bs) = first a b ∷ united r bs

-- the index where its keys are to be ks, and how many there are: none where they are too many
abbrev pub Grown : List KeyValue → Maybe ℕ → List Key → Type 0
Grown after (Some count) ks = (keys_in after count ≡ ks) × (count ≤ key_limit)
Grown after None ks = key_limit < length ks
