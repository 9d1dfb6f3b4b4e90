-- Demand 3 for every accepted call. Assumes nothing.
use Prim.Native.Nat.{ℕ, ◌≤◌}
use mathlib.Core.Path.{◌≡◌, refl, sym}
use mathlib.Core.Bool.{Bool, true, false}
use mathlib.Core.List.{List}
use native.Mathlib.Omega.{arith}
use lib.ListN.{length, drop}
use lib.Seq.{take_at}
use lib.Dec.{ltb}
use borrow.Author.Tests.{ltb-false}
use Rattle.ast.specs.Tree.{Program}
use Rattle.tree.specs.Ans.{Ans, ok, refused, given}
use Rattle.tree.specs.Decode.{decode}
use Rattle.sema.specs.Limits.{key_limit, diagnostic_limit}
use Rattle.sema.specs.Messages.{Diagnostic}
use Rattle.sema.specs.Keys.{keys}
use Rattle.sema.specs.Stmts.{analyze}
use Rattle.listing.specs.Listing.{listing, listing_of}
use Rattle.answer.specs.Answer.{accepted, refusal, scratch_size, unless_refused, judge_listing, judge_diagnostics, judge_program, judge_file, answer, listing_file, listing_after}
use Rattle.paths.proofs.Bytes.{demand_3_bytes}
use Rattle.claims.specs.Claim.{program_of, Claim}

-- the answer's length is that of the listing, and there is room for it
record Fits (room size n : ℕ) : Type 0 where
  is_size : n ≡ size
  has_room : n ≤ room

-- an accepted call has a program, and its listing fits
record Read (tree : List ℕ) (room n : ℕ) : Type 0 where
  program : Program
  next : ℕ
  read : decode tree ≡ ok program next
  fits : Fits room (length (listing program)) n

no : (number place e w n : ℕ) → refusal number place ≡ accepted e w n → ⊥
no number place e w n h = let z : ◌≡◌ {A = ℕ} 0 1 = cc in omega arith

listed : (room : ℕ) (ds : List Diagnostic) (size e w n : ℕ) → judge_listing room ds size ≡ accepted e w n → Fits room size n
unfolding judge_listing unless_refused
listed room ds size e w n h = go (ltb room size) _ _ refl h
  where
    go : (b : Bool) (x y : ℕ) → ltb room size ≡ b → unless_refused b 9 0 (accepted x y size) ≡ accepted e w n → Fits room size n
    go true x y t h = absurd (no 9 0 e w n h)
    go false x y t h = let q : n ≡ size = cc in let l = ltb-false room size t in record { is_size = q; has_room = omega arith }

diagnosed : (room : ℕ) (p : Program) (ds : List Diagnostic) (e w n : ℕ) → judge_diagnostics room p ds ≡ accepted e w n → Fits room (length (listing_of p.texts ds)) n
unfolding judge_diagnostics
diagnosed room p ds e w n h = go (ltb diagnostic_limit (length ds)) h
  where
    go : (b : Bool) → elim b [ true ↦ refusal 8 0 | false ↦ judge_listing room ds (length (listing_of p.texts ds)) ] ≡ accepted e w n → Fits room (length (listing_of p.texts ds)) n
    go true h = absurd (no 8 0 e w n h)
    go false h = listed room ds _ e w n h

judged : (room : ℕ) (p : Program) (e w n : ℕ) → judge_program room p ≡ accepted e w n → Fits room (length (listing p)) n
unfolding judge_program listing
judged room p e w n h = go (ltb key_limit (length (keys p))) h
  where
    go : (b : Bool) → elim b [ true ↦ refusal 7 0 | false ↦ judge_diagnostics room p (analyze p) ] ≡ accepted e w n → Fits room (length (listing_of p.texts (analyze p))) n
    go true h = absurd (no 7 0 e w n h)
    go false h = diagnosed room p (analyze p) e w n h

accepted-read : (tree : List ℕ) (scratch room e w n : ℕ) → answer tree scratch room ≡ accepted e w n → Read tree room n
unfolding answer judge_file
accepted-read tree scratch room e w n h = go (ltb scratch scratch_size) h
  where
    file : (a : Ans Program) → decode tree ≡ a → judge_file room a ≡ accepted e w n → Read tree room n
    file (ok p next) d h = record { program = p; next = next; read = d; fits = judged room p e w n h }
    file (refused k q) d h = absurd (no k q e w n h)

    go : (b : Bool) → elim b [ true ↦ refusal 1 0 | false ↦ judge_file room (decode tree) ] ≡ accepted e w n → Read tree room n
    go true h = absurd (no 1 0 e w n h)
    go false h = file (decode tree) refl h

-- An accepted listing has room in its buffer.
pub accepted-room : (room errors warnings size : ℕ) (tree : List ℕ) (scratch : ℕ) → answer tree scratch room ≡ accepted errors warnings size → size ≤ room
accepted-room room errors warnings size tree scratch h = (accepted-read tree scratch room errors warnings size h).fits.has_room

-- For every call: if the definition of the answer accepts it, then what it leaves in the listing buffer meets the claim.
pub demand_3 : (tree buffer : List ℕ) (scratch errors warnings size : ℕ) → answer tree scratch (length buffer) ≡ accepted errors warnings size
    → Claim tree (listing_after tree buffer (answer tree scratch (length buffer))) size
unfolding program_of given listing_after listing_file listing
demand_3 tree buffer scratch errors warnings size h sp tail =
    let r = accepted-read tree scratch (length buffer) errors warnings size h in
    rw (h, r.read) (rw (take_at (listing_of r.program.texts (analyze r.program)) (drop size buffer) size (sym r.fits.is_size))
    (demand_3_bytes tree r.program r.next r.read sp tail))
