-- The judgement of diagnostics by the counts and the length that were learnt. Assumes nothing.
use Prim.Native.Nat.{ℕ, ◌+◌, ◌≤◌, ◌<◌}
use mathlib.Core.Path.{◌≡◌, sym, ◌∙◌}
use mathlib.Core.List.{List, [], ◌∷◌, ◌++◌}
use native.Mathlib.Omega.{arith}
use native.Mathlib.Decide.{dec_le}
use native.Mathlib.Nat.{zero-add}
use lib.ListN.{length, drop, length-append}
use lib.Seq.{sets, sets-eq}
use borrow.Author.Tests.{lt-ltb, le-ltb}
use Rattle.ast.specs.Tree.{Program}
use Rattle.sema.specs.Messages.{Diagnostic, Error, Warning}
use Rattle.sema.specs.Stmts.{analyze}
use Rattle.listing.specs.Listing.{ended, count_of, first_line, listing_of}
use Rattle.answer.specs.Answer.{accepted, refusal, unless_refused, judge_listing, judge_diagnostics}
use Rattle.context.specs.declared.Sink.{Sink}
use Rattle.lines.specs.EmitLaws.{all_bytes, listing-parts}
use Rattle.verdict.specs.Verdict.{head_of, Learnt}

-- the judgement by its tests
module _ (room : ℕ) (p : Program) (ds : List Diagnostic) where
  diagnostics_many : 256 < length ds → judge_diagnostics room p ds ≡ refusal 8 0
  unfolding judge_diagnostics
  diagnostics_many h = rw (lt-ltb 256 (length ds) h, judge_diagnostics)

  diagnostics_few : length ds ≤ 256 → judge_diagnostics room p ds ≡ judge_listing room ds (length (listing_of p.texts ds))
  unfolding judge_diagnostics
  diagnostics_few h = rw (le-ltb 256 (length ds) h, judge_diagnostics)

  listing-long : (size : ℕ) → room < size → judge_listing room ds size ≡ refusal 9 0
  unfolding judge_listing unless_refused
  listing-long size h = rw (lt-ltb room size h)

  listing-fits : (size : ℕ) → size ≤ room → judge_listing room ds size ≡ accepted (count_of Error ds) (count_of Warning ds) size
  unfolding judge_listing unless_refused
  listing-fits size h = rw (le-ltb room size h)

module _ (p : Program) (sink : Sink) (l : Learnt p sink) where
  pub few_of : sink.errors + sink.warnings ≤ 256 → length (analyze p) ≤ 256
  few_of h = elim (dec_le (length (analyze p)) 256) [ yes g ↦ g | no g ↦ (let o = l.over (omega arith) in absurd (omega arith)) ]

  many_of : 256 < sink.errors + sink.warnings → 256 < length (analyze p)
  many_of h = elim (dec_le (length (analyze p)) 256) [ yes g ↦ (let o = l.few g in absurd (omega arith)) | no g ↦ omega arith ]

  judged-many : 256 < sink.errors + sink.warnings → (room : ℕ) → judge_diagnostics room p (analyze p) ≡ refusal 8 0
  judged-many h room = diagnostics_many room p (analyze p) (many_of h)

  module _ (h : sink.errors + sink.warnings ≤ 256) where
    size_is : length (head_of sink.errors sink.warnings) + sink.n ≡ length (listing_of p.texts (analyze p))
    unfolding first_line
    size_is =
        let f = few_of h in
        let a : length (head_of sink.errors sink.warnings) ≡ length (ended (first_line (analyze p) ∷ [])) = rw (← l.errors f, ← l.warnings f) in
        let b = l.bytes f in
        rw (listing-parts p.texts (analyze p)) (omega (arith, length-append (ended (first_line (analyze p) ∷ [])) (all_bytes p.texts (analyze p))))

    module _ (room : ℕ) where
      judged-long : room < length (head_of sink.errors sink.warnings) + sink.n → judge_diagnostics room p (analyze p) ≡ refusal 9 0
      judged-long g = diagnostics_few room p (analyze p) (few_of h) ∙ listing-long room p (analyze p) _ (rw size_is at g)

      pub judged-fine : length (head_of sink.errors sink.warnings) + sink.n ≤ room
          → judge_diagnostics room p (analyze p) ≡ accepted sink.errors sink.warnings (length (head_of sink.errors sink.warnings) + sink.n)
      judged-fine g =
          diagnostics_few room p (analyze p) (few_of h) ∙ listing-fits room p (analyze p) _ (rw size_is at g)
          ∙ rw (← size_is, ← l.errors (few_of h), ← l.warnings (few_of h))

    pub listed-fine : (buffer : List ℕ) → length (head_of sink.errors sink.warnings) + sink.n ≤ length buffer
        → sets buffer 0 (listing_of p.texts (analyze p)) ≡ listing_of p.texts (analyze p) ++ drop (length (head_of sink.errors sink.warnings) + sink.n) buffer
    listed-fine buffer g = sets-eq (listing_of p.texts (analyze p)) buffer 0 (omega (arith, size_is)) ∙ rw (size_is, zero-add (length (listing_of p.texts (analyze p))))

-- the ways out of `judge`
module _ (sink : Sink) (room : ℕ) where
  module _ (h : 256 < sink.errors + sink.warnings) where
    pub judges-many : (p : Program) → Learnt p sink → refusal 8 0 ≡ judge_diagnostics room p (analyze p)
    judges-many p l = sym (judged-many p sink l h room)

  module _ (h : sink.errors + sink.warnings ≤ 256) (size : ℕ) (e : size ≡ length (head_of sink.errors sink.warnings) + sink.n) where
    pub judges-long : room < size → (p : Program) → Learnt p sink → refusal 9 0 ≡ judge_diagnostics room p (analyze p)
    judges-long g p l = sym (judged-long p sink l h room (omega (arith, e)))

    pub judges-fine : size ≤ room → (errors warnings : ℕ) → errors ≡ sink.errors → warnings ≡ sink.warnings → (p : Program) → Learnt p sink → accepted errors warnings size ≡ judge_diagnostics room p (analyze p)
    judges-fine g errors warnings a b p l = rw (a, b, e) (sym (judged-fine p sink l h room (omega (arith, e))))
