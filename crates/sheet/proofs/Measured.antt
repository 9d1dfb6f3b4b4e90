-- The keys of a measure, one law for each way out. Assumes nothing.
use Prim.Native.Nat.{ℕ, suc, ◌+◌, ◌-◌, ◌≤◌, ◌<◌, min}
use mathlib.Core.Path.{◌≡◌, refl}
use mathlib.Core.List.{List}
use mathlib.Core.Option.{none}
use native.Mathlib.Omega.{arith}
use lib.ListN.{length}
use Rattle.sema.specs.Constants.{or0}
use Rattle.sema.specs.Marks.{Key, key}
use Rattle.sema.specs.Keys.{add_key, add_indices, add_range}
use Rattle.std.specs.Prelude.{Option as Maybe, Some, None}
use Rattle.context.specs.Values.{number_of}
use Rattle.context.specs.declared.Key.{Key as KeyValue}
use Rattle.context.specs.View.{keys_in}
use Rattle.sheet.specs.Sheet.{Indexed, Grown}
use Rattle.sheet.specs.Table.{AtLeast, more-long, keep_range, range_most}

-- a slice
pub slice-none : (index : List KeyValue) (count x a b : ℕ) → Indexed index count → b < a → Grown index (Some count) (add_range (keys_in index count) x a (suc b - a))
unfolding add_range add_indices
slice-none index count x a b t h =
    let e : suc b - a ≡ 0 = omega arith in
    (rw e refl, t.few)

pub slice-some : (after : List KeyValue) (ks : List Key) (x a b n : ℕ) (r : Maybe ℕ) → a ≤ b → n ≡ min (b - a) 257
    → Grown after r (add_range ks x a (n + 1)) → Grown after r (add_range ks x a (suc b - a))
slice-some after ks x a b n r l e k = rw (range_most ks x a (suc b - a) (n + 1) (omega arith)) k

pub ruleset slices = (slice-none, slice-some)

-- a name alone, where there is no room for its key
pub whole_over : (mid : List KeyValue) (ks : List Key) (x : ℕ) (l : Key) (size : Maybe ℕ) (r : Maybe ℕ) → l ≡ key x none → r ≡ None → 256 < length (add_key ks l)
    → Grown mid r (add_range (add_key ks (key x none)) x 0 (or0 (number_of size)))
whole_over mid ks x l size r e f k =
    let whole = add_key ks (key x none) in
    let m : 256 < length whole = rw e at k in
    let long = keep_range (AtLeast (length whole)) (more-long (length whole)) whole x 0 (or0 (number_of size)) (omega arith) in
    rw f (omega arith)
