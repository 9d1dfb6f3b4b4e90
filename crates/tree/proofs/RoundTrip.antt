-- The decoder takes the encoder back: a program that fits is read from its own bytes. Assumes nothing.
use Prim.Native.Nat.{ℕ, ◌≤◌, ◌+◌}
use mathlib.Core.Path.{◌≡◌, refl, sym}
use mathlib.Core.List.{List, [], append-nil}
use native.Mathlib.Omega.{arith}
use native.Mathlib.Nat.{zero-add}
use lib.ListN.{length, length-append}
use borrow.Author.Tests.{le-leb}
use Rattle.ast.specs.Tree.{Program}
use Rattle.tree.specs.Limits.{file_limit, stmt_levels}
use Rattle.tree.specs.Ans.{ok, Reader, bind, ◌>>=◌, ◌>>◌, check, done, here}
use Rattle.tree.specs.Stmts.{body, stmt}
use Rattle.tree.specs.Decode.{size, nothing_left, file, decode}
use Rattle.tree.specs.Encode.{put_texts, put_body, encode}
use Rattle.tree.specs.Fits.{Fits}
use Rattle.tree.proofs.Back.{Holds, Reads, seq, seq_end, seq-check, done-reads}
use Rattle.tree.proofs.BackTexts.{texts-reads}
use Rattle.tree.proofs.BackStmts.{body_reads, all-reads}

-- the length of the file, which takes no bytes
seq-size : {s : List ℕ} {at : ℕ} {B : Type 0} (f : ℕ → Reader B) {cs : List ℕ} {b : B} → Reads s at (f (length s)) cs b → Reads s at (◌>>=◌ size f) cs b
unfolding ◌>>=◌ bind size
seq-size f p = record { reads = λ h. p.reads h }

-- at the end of the file nothing is left
seq-left : {s : List ℕ} {at : ℕ} {B : Type 0} {q : Reader B} {cs : List ℕ} {b : B} → length s ≤ at → Reads s at q cs b → Reads s at (◌>>◌ nothing_left q) cs b
unfolding ◌>>◌ ◌>>=◌ bind nothing_left size here check done
seq-left {s} {at} l p = record { reads = λ h. rw (le-leb (length s) at l) (p.reads h) }

file-reads : (p : Program) → Fits p → Reads (encode p) 0 file (encode p) p
unfolding file encode
file-reads p h =
    let few = h.texts_fit.few in
    let all = all-reads p.texts few stmt_levels (length (put_texts p.texts) + 2) p.statements h.statements_fit in
    let statements : Reads (encode p) (length (put_texts p.texts)) (body (stmt p.texts stmt_levels)) (put_body p.statements) p.statements = body_reads _ _ h.count_fits all in
    let end : length (encode p) ≤ 0 + length (put_texts p.texts) + length (put_body p.statements) = omega (arith, length-append (put_texts p.texts) (put_body p.statements)) in
    seq-size _ (seq-check _ _ (le-leb (length (encode p)) file_limit h.small) (seq _ (texts-reads p.texts h.texts_fit) (seq_end _ (rw (zero-add (length (put_texts p.texts))) statements) (seq-left end done-reads))))

pub round_trip : (p : Program) → Fits p → decode (encode p) ≡ ok p (length (encode p))
unfolding decode
round_trip p h =
    let whole : Holds (encode p) 0 (encode p) = record { front = []; rest = []; parts = sym (append-nil (encode p)); place = refl } in
    rw (zero-add (length (encode p))) at ((file-reads p h).reads whole)
