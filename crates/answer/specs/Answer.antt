-- What a call on a tree, a scratch buffer and a listing buffer answers, and what the buffers hold afterwards.
use Rattle.std.specs.Prelude.{ℕ, List, [], ◌++◌, Bool, true, false, length, drop, replicate, ltb}
use Rattle.ast.specs.Tree.{Program}
use Rattle.tree.specs.Ans.{Ans, ok, refused}
use Rattle.tree.specs.Decode.{decode}
use Rattle.sema.specs.Limits.{key_limit, diagnostic_limit}
use Rattle.sema.specs.Messages.{Diagnostic, Error, Warning}
use Rattle.sema.specs.Keys.{keys}
use Rattle.sema.specs.Stmts.{analyze}
use Rattle.listing.specs.Listing.{count_of, listing_of}

-- the bytes of scratch that a call needs, and clears
abbrev pub scratch_size : ℕ
scratch_size = 65536

pub data Answer : Type 0 where
  accepted : (errors warnings size : ℕ) → Answer
  refusal : (number place : ℕ) → Answer

-- refuse if the test holds, else go on
unfoldable pub unless_refused : Bool → ℕ → ℕ → Answer → Answer
unless_refused true number place a = refusal number place
unless_refused false number place a = a

-- "9: the listing is longer than its buffer. Place 0."
unfoldable pub judge_listing : ℕ → List Diagnostic → ℕ → Answer
judge_listing room ds size = unless_refused (ltb room size) 9 0 (accepted (count_of Error ds) (count_of Warning ds) size)

-- "8: over 256 diagnostics. Place 0."
unfoldable pub judge_diagnostics : ℕ → Program → List Diagnostic → Answer
judge_diagnostics room p ds =
    elim (ltb diagnostic_limit (length ds)) [ true ↦ refusal 8 0 | false ↦ judge_listing room ds (length (listing_of p.texts ds)) ]

-- "7: measure statements of the whole tree set over 256 different keys. Place 0."
unfoldable pub judge_program : ℕ → Program → Answer
judge_program room p = elim (ltb key_limit (length (keys p))) [ true ↦ refusal 7 0 | false ↦ judge_diagnostics room p (analyze p) ]

-- 2 to 6 as the file is read
unfoldable pub judge_file : ℕ → Ans Program → Answer
judge_file room (refused number place) = refusal number place
judge_file room (ok p next) = judge_program room p

-- "1: scratch shorter than 65,536. Place 0." `scratch` and `room` are the lengths of the two buffers.
unfoldable pub answer : List ℕ → ℕ → ℕ → Answer
answer tree scratch room = elim (ltb scratch scratch_size) [ true ↦ refusal 1 0 | false ↦ judge_file room (decode tree) ]

-- the listing of a file that can be read
unfoldable pub listing_file : Ans Program → List ℕ
listing_file (refused number place) = []
listing_file (ok p next) = listing_of p.texts (analyze p)

-- "The listing buffer keeps its bytes" after a refusal; accepted: "bytes past the listing are kept"
unfoldable pub listing_after : List ℕ → List ℕ → Answer → List ℕ
listing_after tree buffer (refusal number place) = buffer
listing_after tree buffer (accepted errors warnings size) = listing_file (decode tree) ++ drop size buffer

-- "Scratch keeps its bytes after 1; after any other call, accepted ones too, its first 65,536 are zero and the rest kept."
unfoldable pub scratch_after : List ℕ → List ℕ
scratch_after scratch =
    elim (ltb (length scratch) scratch_size) [ true ↦ scratch | false ↦ replicate scratch_size 0 ++ drop scratch_size scratch ]
