-- Control counts by the word that a number fits. Assumes nothing.
use Prim.Native.Nat.{ℕ, zero, suc}
use mathlib.Core.Path.{◌≡◌, refl}
use mathlib.Core.Option.{none, some}
use mathlib.Core.Bool.{Bool, true, false, cond}
use native.Mathlib.Omega.{arith}
use lib.IntN.{ℤ, pos, negsuc}
use lib.Dec.{ltb}
use borrow.Author.Tests.{lt-ltb}
use Rattle.std.specs.Prelude.{Some, None, nat_lt}
use Rattle.std.specs.Bool.{then_some}
use Rattle.int128.specs.Whole.{word_of}
use Rattle.sema.specs.Constants.{as_count}
use Rattle.constants.specs.Views.{total_of}

pub no_count : (z : ℤ) → None ≡ word_of z → as_count z ≡ none
unfolding word_of as_count
no_count (pos zero) e = refl
no_count (pos (suc n)) e = go (ltb (suc n) 18446744073709551616) e
  where
    go : (b : Bool) → None ≡ cond b (Some (suc n)) None → cond b (some (suc n)) none ≡ none
    go true e = cc
    go false e = refl
no_count (negsuc n) e = refl

pub count_is : (z : ℤ) (n : ℕ) → Some n ≡ word_of z → as_count z ≡ total_of (then_some (nat_lt 0 n) n)
unfolding word_of as_count total_of
count_is (pos zero) n e = let z : 0 ≡ n = cc in rw (← z)
count_is (pos (suc m)) n e = go (ltb (suc m) 18446744073709551616) e
  where
    go : (b : Bool) → Some n ≡ cond b (Some (suc m)) None → cond b (some (suc m)) none ≡ total_of (then_some (nat_lt 0 n) n)
    go true e = let z : suc m ≡ n = cc in rw (← z, lt-ltb 0 (suc m) (omega arith))
    go false e = cc
count_is (negsuc m) n e = cc
