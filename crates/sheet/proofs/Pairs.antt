-- A loop over the keys and as many places side by side. Assumes nothing.
use Prim.Native.Nat.{ℕ, ◌≤◌, ◌<◌}
use mathlib.Core.Path.{◌≡◌, ◌∙◌}
use mathlib.Core.List.{List}
use native.Mathlib.Omega.{arith}
use denote.Ref.{Bor}
use lib.ListN.{length, get_or, take}
use Rattle.std.specs.Prelude.{Option as Maybe, Some, None}
use Rattle.std.specs.declared.iter.Zip.{Zip}
use Rattle.std.specs.declared.slice.Iter.{Iter}
use Rattle.std.specs.Iterator.{Yields}
use Rattle.std.specs.Iterator.Adapters.{zip_first, zip_second}
use Rattle.std.specs.Slice.Iter.{iter_rest}
use Rattle.std.proofs.iter.Yields.{fronts}
use Rattle.std.proofs.lemmas.Iterator.{zips}
use Rattle.std.proofs.lemmas.List.{get_or-take, length-take}
use Rattle.std.proofs.lemmas.Slice.Zip.{zip_turn, zip_end}
use Rattle.context.specs.declared.Key.{Key as KeyValue}
use Rattle.sheet.proofs.Loops.{no-key, nth}

module _ (keys : List KeyValue) (sheet : List ℕ) (xs : List (Bor KeyValue × Bor ℕ)) (s t u : Zip (Iter KeyValue) (Iter ℕ)) (r : Maybe (Bor KeyValue × Bor ℕ))
    (y : Yields (zips fronts fronts) s xs t) (h : zips fronts fronts t r u) (first : iter_rest (zip_first s) ≡ keys) (second : iter_rest (zip_second s) ≡ take (length keys) sheet) where
  pub pair_turn : (p : Bor KeyValue × Bor ℕ) → r ≡ Some p → (length xs < length keys) × (p.0.now ≡ nth keys (length xs)) × (p.1.now ≡ get_or sheet (length xs) 0)
  pair_turn p e =
      let z = zip_turn keys (take (length keys) sheet) xs s t u r first second y p e h in
      (z.0, z.2 no-key, z.3 0 ∙ get_or-take (length keys) sheet (length xs) 0 z.0)

  pub pair_end : r ≡ None → length keys ≤ length sheet → length keys ≤ length xs
  pair_end e f = omega (arith, zip_end keys (take (length keys) sheet) xs s t u r first second y e h, length-take (length keys) sheet)
