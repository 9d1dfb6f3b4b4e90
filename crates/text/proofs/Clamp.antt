-- A part at the end of a list. Assumes nothing.
use Prim.Native.Nat.{ℕ, ◌≤◌, ◌-◌}
use mathlib.Core.Path.{◌≡◌}
use mathlib.Core.List.{List}
use native.Mathlib.Omega.{arith}
use lib.ListN.{length, drop, length-drop}
use lib.Seq.{take_all}
use Rattle.text.specs.Text.{part}

-- where it ends past the list, it has the rest
pub rest_of : (l : List ℕ) (a e : ℕ) → length l ≤ e → part a e l ≡ drop a l
rest_of l a e h = take_all (e - a) (drop a l) (simp length-drop (omega arith))
