use Rattle.std.proofs.Common.{◌≡◌, ℕ, ◌+◌, ◌-◌, ◌≤◌, List, ◌++◌, rules, length, take, drop, sym, ap, ◌∙◌, subst, le_refl, drop_at, length-take-le}
use Rattle.std.proofs.lemmas.Slice.{take-put_mid_below}
use Rattle.std.specs.Io.KnownBytes.{Consumes}
use Rattle.std.proofs.KnownBytes.{Consumes-trans}
use borrow.Rule.Slice.PartMut.{put_mid, post_of}
use Rattle.std.proofs.Math.Seq.{take-add, take-append-le}
use Rattle.cases.proofs.read_full.Goals as goal

-- n bytes read to the place a, behind a that were read before
read-behind : (a k n : ℕ) (xs ys : List ℕ) → a ≤ length xs → n ≤ length ys → take a xs ++ take n ys ≡ take (a + n) (put_mid a k xs ys)
read-behind a k n xs ys within fits =
    sym (take-add a n (put_mid a k xs ys)
    ∙ ap (λ l. l ++ take n (drop a (put_mid a k xs ys))) (take-put_mid_below a k xs ys a (le_refl _) within)
    ∙ ap (λ l. take a xs ++ l) (ap (take n) (drop_at (take a xs) (ys ++ post_of a k xs) a (length-take-le a xs within)) ∙ take-append-le n ys (post_of a k xs) fits))

pub loop-at-preserved : goal.loop-at-preserved
loop-at-preserved g c =
    let from = c.loop-at.at in
    let room = length c.loop-at.buffer - from in
    let within = c.loop-at.invariant.0 in
    let read = c.in_ok-n.ensures in (
      search rules,
      subst (Consumes _ _) (read-behind from room c.in_ok-n.n c.loop-at.buffer c.read.new.buf within read.bound.0)
          (Consumes-trans _ _ _ _ _ c.loop-at.invariant.1 read.bytes.0),
    )
