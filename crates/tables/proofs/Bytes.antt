-- Bytes stored in a part: those of a number, the last counting least, and zeros. Assumes nothing.
use Rattle.std.proofs.Common.{ℕ, zero, suc, ◌+◌, ◌/◌, ◌%◌, ◌^◌, ◌≤◌, ◌≡◌, refl, sym, ap, ◌∙◌, List, [], ◌∷◌, ◌++◌, length, take, drop, replicate, append_assoc, length-drop, arith}
use Rattle.std.proofs.Math.Path.{ap₂}
use Rattle.std.proofs.Math.Nat.{div-div-eq-div-mul, pow-succ'}
use Rattle.std.proofs.Math.Seq.{drop-drop, length-take-le}
use Rattle.std.proofs.lemmas.List.{length-replicate}
use Rattle.std.proofs.lemmas.List.Edits.{sets, sets-eq}
use Rattle.std.specs.Int.{byte_at, bytes_high_first}
use borrow.Rule.Slice.PartMut.{put_mid, mid_of}
use Rattle.tree.specs.Encode.{big}
use Rattle.tree.proofs.Back.{length-big}

-- the bytes of a number before its last are those of the number without it
byte-before : (i n : ℕ) → byte_at (suc i) n ≡ byte_at i (n / 256)
byte-before zero n = refl
byte-before (suc i) n = rw (pow-succ' 256 (suc i)) (ap (λ m. m % 256) (sym (div-div-eq-div-mul n 256 (256 ^ suc i))))

bytes-last : (w n : ℕ) → bytes_high_first (suc w) n ≡ bytes_high_first w (n / 256) ++ (n % 256 ∷ [])
bytes-last zero n = refl
bytes-last (suc w) n = ap₂ (λ (b : ℕ) (bs : List ℕ). b ∷ bs) (byte-before w n) (bytes-last w n)

pub bytes-big : (w n : ℕ) → bytes_high_first w n ≡ big w n
unfolding big
bytes-big zero n = refl
bytes-big (suc w) n = bytes-last w n ∙ ap (λ (bs : List ℕ). bs ++ (n % 256 ∷ [])) (bytes-big w (n / 256))

-- a part written anew
put-sets : (a k : ℕ) (s ys zs : List ℕ) → ys ≡ zs → k ≡ length zs → a + k ≤ length s → put_mid a k s ys ≡ sets s a zs
put-sets a k s ys zs e f h =
    let l : a + length zs ≤ length s = omega arith in
    rw (e, f) (ap (λ (r : List ℕ). take a s ++ (zs ++ r)) (drop-drop (length zs) a s) ∙ sym (sets-eq zs s a l ∙ append_assoc (take a s) zs (drop (a + length zs) s)))

pub put_number : (w a k : ℕ) (s ys : List ℕ) (n : ℕ) → ys ≡ bytes_high_first w n → k ≡ w → a + w ≤ length s → put_mid a k s ys ≡ sets s a (big w n)
put_number w a k s ys n e f h = put-sets a k s ys (big w n) (e ∙ bytes-big w n) (omega (arith, length-big w n)) (omega arith)

-- as long as the part was
part-length : (a k : ℕ) (s : List ℕ) → a + k ≤ length s → length (mid_of a k s) ≡ k
part-length a k s h = length-take-le k (drop a s) (rw length-drop (omega arith))

pub put_zeros : (a k : ℕ) (s ys : List ℕ) (size : ℕ) → ys ≡ replicate (length (mid_of a k s)) 0 → k ≡ size → a + size ≤ length s → put_mid a k s ys ≡ sets s a (replicate size 0)
put_zeros a k s ys size e f h =
    let l : length (mid_of a k s) ≡ size = part-length a k s (omega arith) ∙ f in
    put-sets a k s ys (replicate size 0) (e ∙ ap (λ n. replicate n 0) l) (omega (arith, length-replicate {A = ℕ} size 0)) (omega arith)
