-- The judgements: of a program, of a file, of a call. Assumes nothing.
use Prim.Native.Nat.{ℕ, ◌+◌, ◌≤◌, ◌<◌}
use mathlib.Core.Path.{◌≡◌, refl, sym, ap, ◌∙◌}
use mathlib.Core.List.{List, [], ◌∷◌, ◌++◌}
use native.Mathlib.Nat.{zero-add}
use lib.ListN.{length, take, replicate}
use Rattle.std.specs.Prelude.{Option, None, Result, Ok, Err}
use lib.Seq.{sets}
use borrow.Author.Tests.{lt-ltb, le-ltb}
use Rattle.ast.specs.Tree.{Program, no_stmt}
use Rattle.tree.specs.Ans.{Ans, ok, refused, given, IsOk}
use Rattle.tree.specs.Decode.{decode}
use Rattle.sema.specs.Limits.{key_limit}
use Rattle.sema.specs.Keys.{keys}
use Rattle.sema.specs.Stmts.{analyze}
use Rattle.listing.specs.Listing.{ended, first_line, listing_of}
use Rattle.answer.specs.Answer.{Answer, accepted, refusal, judge_diagnostics, judge_program, judge_file, answer, listing_file, listing_after, scratch_after}
use Rattle.reader.specs.Answers.{told, refusal_of}
use Rattle.context.specs.declared.Sink.{Sink}
use Rattle.lines.specs.EmitLaws.{listing-stored}
use Rattle.tables.specs.Tables.{cleared}
use Rattle.claims.specs.Claim.{program_of, Claim}
use Rattle.claims.proofs.Demand3.{demand_3}
use Rattle.refusal.specs.declared.Refused.{Refused}
use Rattle.refusal.specs.declared.Refusal.TheVariants.{ManyKeys}
use Rattle.refusal.specs.Refusal.{number_of}
use Rattle.verdict.specs.declared.Listed.{Listed}
use Rattle.verdict.specs.Verdict.{answer_of, head_of, Learnt, Listable}
use Rattle.verdict.proofs.Judging.{few_of, judged-fine, listed-fine}
use Rattle.checker.specs.Check.{SameRest, program_listing, listing_for, Judged, JudgedFile, Ran, Known}
use Rattle.checker.proofs.Runs.{written}

-- what the second walk leaves
pub listing-written : (p : Program) → length (keys p) ≤ key_limit → (sink : Sink) → Learnt p sink → sink.errors + sink.warnings ≤ 256 → (l : List ℕ) → {s : List ℕ} {n : ℕ} {o : List ℕ} {r : Option Sink} {s' o' : List ℕ}
    → o ≡ sets l 0 (head_of sink.errors sink.warnings) → n ≡ 0 + length (head_of sink.errors sink.warnings)
    → Ran p n s o r s' o' → o' ≡ sets l 0 (program_listing p)
unfolding first_line
listing-written p few sink k h l {s = s} {n = n} {o = o} {r = r} {s' = s'} {o' = o'} a b w =
    let f = few_of p sink k h in
    written p few n s o r s' o' w f
    ∙ rw (a, b, k.errors f, k.warnings f, zero-add (length (ended (first_line (analyze p) ∷ [])))) (listing-stored p.texts (analyze p) l)

-- what was kept, behind the first line, is the listing
pub staged-written : (p : Program) (sink : Sink) (stage : List ℕ) → Known p sink stage → sink.errors + sink.warnings ≤ 256 → (l l' : List ℕ) → sink.n ≤ length stage
    → l' ≡ sets (sets l 0 (head_of sink.errors sink.warnings)) (length (head_of sink.errors sink.warnings)) (take sink.n stage) → l' ≡ sets l 0 (program_listing p)
unfolding first_line
staged-written p sink stage k h l l' g w =
    let f = few_of p sink k.learnt h in
    rw (w, k.staged f g, k.learnt.errors f, k.learnt.warnings f) (listing-stored p.texts (analyze p) l)

-- of a program: its keys first
module _ (room : ℕ) (p : Program) where
  keys-many : key_limit < length (keys p) → judge_program room p ≡ refusal 7 0
  unfolding judge_program
  keys-many h = rw (lt-ltb 256 (length (keys p)) h, judge_program)

  keys_fit : length (keys p) ≤ key_limit → judge_program room p ≡ judge_diagnostics room p (analyze p)
  unfolding judge_program
  keys_fit h = rw (le-ltb 256 (length (keys p)) h, judge_program)

-- the ways out of `list`
module _ (p : Program) {s l s' : List ℕ} where
  pub list-many : key_limit < length (keys p) → SameRest s s' → Judged p (judge_program (length l) p) s l (Err (record { refusal = ManyKeys; place = 0 })) s' l
  list-many h same = rw (keys-many (length l) p h) (record { answers = refl; listed = refl; scratch = same })

  module _ (few : length (keys p) ≤ key_limit) (same : SameRest s s') where
    pub list-refused : (r : Refused) → answer_of (Err r) ≡ judge_diagnostics (length l) p (analyze p) → Judged p (judge_program (length l) p) s l (Err r) s' l
    list-refused r j = rw (keys_fit (length l) p few, ← j) (record { answers = refl; listed = refl; scratch = same })

    pub list-accepted : (x : Listed) → answer_of (Ok x) ≡ judge_diagnostics (length l) p (analyze p) → (sink : Sink) → Learnt p sink → Listable sink (length l)
        → {s'' l'' : List ℕ} → l'' ≡ sets l 0 (program_listing p) → SameRest s' s'' → Judged p (judge_program (length l) p) s l (Ok x) s'' l''
    list-accepted x j sink k f w q =
        rw (keys_fit (length l) p few)
        (record {
          answers = j;
          listed = w ∙ rw (judged-fine p sink k f.few (length l) f.fits) (listed-fine p sink k f.few l f.fits);
          scratch = record { same_length = q.same_length ∙ same.same_length; same_rest = q.same_rest ∙ same.same_rest };
        })

-- of a file
refused-judged : (tree : List ℕ) (x : Ans Program) (s l : List ℕ) (r : Refused) → decode tree ≡ x → told (Err r) ≡ refusal_of x → JudgedFile tree s l (Err r) s l
unfolding judge_file listing_after
refused-judged tree (ok p next) s l r d e = absurd cc
refused-judged tree (refused n q) s l r d e =
    let pair : ◌≡◌ {A = ℕ × ℕ} (number_of r.refusal, r.place) (n, q) = cc in
    let a : number_of r.refusal ≡ n = ap (λ (p : ℕ × ℕ). p.0) pair in
    let b : r.place ≡ q = ap (λ (p : ℕ × ℕ). p.1) pair in
    record { answers = rw (d, a, b); listed = rw d; scratch = record { same_length = refl; same_rest = refl } }

pub file-accepted : (x : Ans Program) → None ≡ refusal_of x → IsOk x
unfolding IsOk
file-accepted (ok p next) e = tt
file-accepted (refused n q) e = absurd cc

pub judged-refused : (tree s l : List ℕ) (r : Refused) → told (Err r) ≡ refusal_of (decode tree) → JudgedFile tree s l (Err r) s l
judged-refused tree s l r e = refused-judged tree (decode tree) s l r refl e

program_of_lem : (x : Ans Program) (d : Program) (room : ℕ) → IsOk x → judge_file room x ≡ judge_program room (given d (λ p. p) x)
unfolding judge_file IsOk given
program_of_lem (ok p next) d room h = refl
program_of_lem (refused n q) d room h = absurd h

listing_of_lem : (x : Ans Program) (d : Program) → IsOk x → listing_file x ≡ listing_of (given d (λ p. p) x).texts (analyze (given d (λ p. p) x))
unfolding listing_file IsOk given
listing_of_lem (ok p next) d h = refl
listing_of_lem (refused n q) d h = absurd h

after_is : (tree l : List ℕ) (a : Answer) → IsOk (decode tree) → listing_for (program_of tree) l a ≡ listing_after tree l a
unfolding listing_after program_of
after_is tree l (refusal n q) h = refl
after_is tree l (accepted e w size) h = rw (listing_of_lem (decode tree) (record { texts = []; statements = no_stmt }) h)

pub judged-program : (tree s l : List ℕ) (r : Result Listed Refused) (s' l' : List ℕ) → IsOk (decode tree) → Judged (program_of tree) (judge_program (length l) (program_of tree)) s l r s' l' → JudgedFile tree s l r s' l'
unfolding program_of
judged-program tree s l r s' l' h j =
    let e : judge_file (length l) (decode tree) ≡ judge_program (length l) (program_of tree) = program_of_lem (decode tree) (record { texts = []; statements = no_stmt }) (length l) h in
    record { answers = j.answers ∙ sym e; listed = j.listed ∙ after_is tree l (judge_program (length l) (program_of tree)) h ∙ ap (listing_after tree l) (sym e); scratch = j.scratch }

-- demand 3 of what a call leaves
pub call_billed : (tree l : List ℕ) (scratch : ℕ) (a : Answer) (l' : List ℕ) → a ≡ answer tree scratch (length l) → l' ≡ listing_after tree l (answer tree scratch (length l))
    → (errors warnings size : ℕ) → a ≡ accepted errors warnings size → Claim tree l' size
call_billed tree l scratch a l' d e errors warnings size h = rw e (demand_3 tree l scratch errors warnings size (sym d ∙ h))

-- of a call
module _ (tree s l : List ℕ) where
  answer-short : length s < 65536 → answer tree (length s) (length l) ≡ refusal 1 0
  unfolding answer
  answer-short h = rw (lt-ltb (length s) 65536 h, answer)

  answer-long : 65536 ≤ length s → answer tree (length s) (length l) ≡ judge_file (length l) (decode tree)
  unfolding answer
  answer-long h = rw (le-ltb (length s) 65536 h, answer)

  pub call-short : length s < 65536 → (refusal 1 0 ≡ answer tree (length s) (length l)) × (l ≡ listing_after tree l (answer tree (length s) (length l))) × (s ≡ scratch_after s)
  unfolding listing_after scratch_after
  call-short h = (sym (answer-short h), rw (answer-short h), rw (lt-ltb (length s) 65536 h, scratch_after))

  pub call-judged : 65536 ≤ length s → (r : Result Listed Refused) (s' l' s'' : List ℕ) → JudgedFile tree s l r s' l' → s'' ≡ cleared s'
      → (answer_of r ≡ answer tree (length s) (length l)) × (l' ≡ listing_after tree l (answer tree (length s) (length l))) × (s'' ≡ scratch_after s)
  unfolding scratch_after cleared
  call-judged h r s' l' s'' j e =
      (j.answers ∙ sym (answer-long h), j.listed ∙ ap (listing_after tree l) (sym (answer-long h)), e ∙ ap (λ (x : List ℕ). replicate 65536 0 ++ x) j.scratch.same_rest ∙ sym (rw (le-ltb (length s) 65536 h, scratch_after)))
