-- One step of each small reader: what it answers where the bytes are there, end, or are not allowed. Assumes nothing.
use Prim.Native.Nat.{ℕ, ◌<◌, ◌≤◌, ◌+◌}
use mathlib.Core.Path.{◌≡◌}
use mathlib.Core.List.{List}
use lib.ListN.{length, get_or, take, drop}
use borrow.Author.Tests.{lt-ltb, le-ltb, le-leb, lt-leb}
use Rattle.text.specs.Big.{value}
use Rattle.tree.specs.Ans.{ok, refused, bind, ◌>>=◌, ◌>>◌, done, here, refuse, check}
use Rattle.tree.specs.Read.{within, byte, bytes, number, case_byte}

module _ (s : List ℕ) (at : ℕ) where
  pub byte_in : at < length s → byte s at ≡ ok (get_or s at 0) (at + 1)
  unfolding byte within
  byte_in h = rw (lt-ltb at (length s) h)

  pub byte-end : length s ≤ at → byte s at ≡ refused 3 (length s)
  unfolding byte within
  byte-end h = rw (le-ltb at (length s) h)

  pub number_in : (width : ℕ) → at + width ≤ length s → number width s at ≡ ok (value 0 (take width (drop at s))) (at + width)
  unfolding number bytes within ◌>>=◌ bind done
  number_in width h = rw (le-leb (at + width) (length s) h)

  pub number-end : (width : ℕ) → length s < at + width → number width s at ≡ refused 3 (length s)
  unfolding number bytes within ◌>>=◌ bind done
  number-end width h = rw (lt-leb (at + width) (length s) h)

  pub case_in : (cases : ℕ) → at < length s → get_or s at 0 < cases → case_byte cases s at ≡ ok (get_or s at 0) (at + 1)
  unfolding case_byte here check done ◌>>=◌ ◌>>◌ bind
  case_in cases h c = rw (byte_in h, lt-ltb (get_or s at 0) cases c)

  pub case-end : (cases : ℕ) → length s ≤ at → case_byte cases s at ≡ refused 3 (length s)
  unfolding case_byte here ◌>>=◌ bind
  case-end cases h = rw (byte-end h)

  pub case-none : (cases : ℕ) → at < length s → cases ≤ get_or s at 0 → case_byte cases s at ≡ refused 4 at
  unfolding case_byte here check refuse ◌>>=◌ ◌>>◌ bind
  case-none cases h c = rw (byte_in h, le-ltb (get_or s at 0) cases c)
