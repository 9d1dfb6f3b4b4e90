-- Lines kept in a stage and stored behind the first line. Assumes nothing.
use Rattle.std.proofs.Common.{arith, ℕ, ◌+◌, ◌-◌, ◌≤◌, ◌≡◌, List, length, take, drop, sym, ◌∙◌, append_assoc}
use Rattle.std.proofs.Math.Nat.{zero-add}
use Rattle.std.proofs.Math.Seq.{sets, length-sets, sets-eq, drop-drop}
use borrow.Rule.Slice.PartMut.{put_mid}
use Rattle.lines.specs.Stored.{Wrote}
use Rattle.verdict.specs.Verdict.{head_of}

module _ (l : List ℕ) (errors warnings : ℕ) (xs : List ℕ) (head : ℕ) (o : List ℕ) (w : Wrote l 0 o head (head_of errors warnings)) (h : length (head_of errors warnings) + length xs ≤ length l) where
  same : length o ≡ length l
  same = rw w.holds (length-sets l 0 (head_of errors warnings))

  staged_end : head + length xs ≤ length o
  staged_end = omega (arith, same, w.after)

  pub staged-behind : (d : List ℕ) → d ≡ xs
      → put_mid head (head + length xs - head) o d ≡ sets (sets l 0 (head_of errors warnings)) (length (head_of errors warnings)) xs
  staged-behind d e =
      let k : head + length xs - head ≡ length xs = omega arith in
      let a : head ≡ length (head_of errors warnings) = w.after ∙ zero-add (length (head_of errors warnings)) in
      rw (k, e, drop-drop (length xs) head o)
      (sym (sets-eq xs o head (omega (arith, staged_end)) ∙ append_assoc (take head o) xs (drop (head + length xs) o)) ∙ rw (w.holds, a))
