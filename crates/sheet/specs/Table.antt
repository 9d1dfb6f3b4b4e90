-- Laws of the key table: keys are added behind the others, and none is lost. Assumes nothing.
use Prim.Native.Nat.{ℕ, zero, suc, ◌+◌, ◌≤◌, ◌<◌, min}
use Rattle.std.specs.Prelude.{◌≡◌, List, [], ◌∷◌, ◌++◌, true, false, length, take, set}
use Rattle.std.proofs.Common.{ap, ◌∙◌, arith, length-append}
use Rattle.std.proofs.Math.Option.{some}
use Rattle.ast.specs.Tree.{TextNumber}
use Rattle.sema.specs.Marks.{Key, key}
use Rattle.sema.specs.Keys.{has_key, add_key, add_indices, add_range}
use Rattle.context.specs.declared.Key.{Key as KeyValue}
use Rattle.context.specs.Values.{key_of}
use Rattle.context.specs.View.{keys_of, keys_in}
use Rattle.sheet.specs.Sheet.{Indexed}
use Rattle.std.proofs.lemmas.List.{length-map, take_more_set, map-append, length-take}
use Rattle.sheet.specs.Places.{by_test}

-- an index holds so many keys, and never more
pub keys-few : (index : List KeyValue) (n : ℕ) → length (keys_in index n) ≤ n
keys-few index n = omega (arith, length-map (take n index) key_of, length-take n index)

pub length-keys : {index : List KeyValue} {n : ℕ} → Indexed index n → length (keys_in index n) ≡ n
length-keys {index} {n} t = omega (arith, length-map (take n index) key_of, length-take n index, t.size, t.few)

-- a key more
module _ (ks : List Key) (k : Key) where
  pub add-there : has_key ks k ≡ true → add_key ks k ≡ ks
  unfolding add_key
  add-there e = rw (e, add_key)

  pub add-new : has_key ks k ≡ false → add_key ks k ≡ ks ++ k ∷ []
  unfolding add_key
  add-new e = rw (e, add_key)

  pub length-new : has_key ks k ≡ false → length (add_key ks k) ≡ suc (length ks)
  length-new e = rw (add-new e, length-append ks (k ∷ [])) (omega arith)

  pub length-add : length ks ≤ length (add_key ks k)
  length-add = by_test (has_key ks k) (λ e. rw (add-there e) (omega arith)) (λ e. omega (arith, length-new e))

-- what holds of the keys, and of the keys with one more, holds of all that is made of them
module _ (P : List Key → Type 0) (more : (ks : List Key) (k : Key) → P ks → P (add_key ks k)) where
  pub keep-indices : (ks : List Key) (x : TextNumber) (n i : ℕ) → P ks → P (add_indices ks x n i)
  unfolding add_indices
  keep-indices ks x zero i h = h
  keep-indices ks x (suc n) i h = keep-indices (add_key ks (key x (some i))) x n (suc i) (more ks (key x (some i)) h)

  pub keep_range : (ks : List Key) (x : TextNumber) (i n : ℕ) → P ks → P (add_range ks x i n)
  unfolding add_range
  keep_range ks x i n h = keep-indices ks x (min n 257) i h

-- such are: the keys are at least so many
abbrev pub AtLeast : ℕ → List Key → Type 0
AtLeast n ks = n ≤ length ks

pub more-long : (n : ℕ) (ks : List Key) (k : Key) → AtLeast n ks → AtLeast n (add_key ks k)
more-long n ks k h = let g : length ks ≤ length (add_key ks k) = length-add ks k in omega arith

-- a key stored behind the others
pub keys-stored : (index : List KeyValue) (count : ℕ) (k : KeyValue) → count < length index → keys_in (set index count k) (count + 1) ≡ keys_in index count ++ key_of k ∷ []
keys-stored index count k h = ap keys_of (take_more_set index count k h) ∙ map-append key_of (take count index) (k ∷ [])

-- of a range only the first indices count
pub range_most : (ks : List Key) (x : TextNumber) (i n m : ℕ) → min n 257 ≡ min m 257 → add_range ks x i n ≡ add_range ks x i m
unfolding add_range
range_most ks x i n m e = rw e
