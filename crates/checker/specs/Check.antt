-- What the parts of the public function promise.
use Rattle.std.specs.Prelude.{ℕ, ◌≤◌, ◌<◌, ◌≡◌, List, ◌++◌, length, take, drop, Option, Some, None, Result, Ok, Err}
use Rattle.std.specs.Coded.{Unit-prop}
use Rattle.ast.specs.Tree.{Program}
use Rattle.tree.specs.Ans.{Ans, ok, refused, IsOk}
use Rattle.tree.specs.Decode.{decode}
use Rattle.sema.specs.Limits.{key_limit, diagnostic_limit}
use Rattle.sema.specs.Keys.{keys as keys_of}
use Rattle.sema.specs.Stmts.{analyze}
use Rattle.listing.specs.Listing.{listing_of}
use Rattle.context.specs.declared.Sink.{Sink}
use Rattle.context.specs.Sink.{written_of, emit}
use Rattle.lines.specs.EmitLaws.{all_bytes, empty}
use Rattle.answer.specs.Answer.{Answer, accepted, refusal, judge_file, listing_after}
use Rattle.refusal.specs.declared.Refused.{Refused}
use Rattle.refusal.specs.declared.Refusal.TheVariants.{ManyKeys}
use Rattle.verdict.specs.declared.Listed.{Listed}
use Rattle.verdict.specs.Verdict.{answer_of, Learnt}

-- the bytes of a file are accepted in one way at most
pub IsOk-prop : {A : Type 0} (x : Ans A) → IsProp (IsOk x)
unfolding IsOk
IsOk-prop (ok a next) = Unit-prop
IsOk-prop (refused number place) = λ x y. absurd x

-- the scratch past what a call uses stays
pub record SameRest (s s' : List ℕ) : Type 0 where
  pub same_length : length s' ≡ length s
  pub same_rest : drop 65536 s' ≡ drop 65536 s

abbrev pub program_listing : Program → List ℕ
program_listing p = listing_of p.texts (analyze p)

-- the listing buffer after an answer to a program: its listing where it is accepted
abbrev pub listing_for : Program → List ℕ → Answer → List ℕ
listing_for p buffer (refusal number place) = buffer
listing_for p buffer (accepted errors warnings size) = program_listing p ++ drop size buffer

-- what the listing of a program was judged to be, and what was written
pub record Judged (p : Program) (a : Answer) (s l : List ℕ) (r : Result Listed Refused) (s' l' : List ℕ) : Type 0 where
  pub answers : answer_of r ≡ a
  pub listed : l' ≡ listing_for p l a
  pub scratch : SameRest s s'

-- so of the bytes of a file
pub record JudgedFile (tree s l : List ℕ) (r : Result Listed Refused) (s' l' : List ℕ) : Type 0 where
  pub answers : answer_of r ≡ judge_file (length l) (decode tree)
  pub listed : l' ≡ listing_after tree l (judge_file (length l) (decode tree))
  pub scratch : SameRest s s'

-- the keys are few, and the diagnostics of the program were said behind n bytes; or they are too many
abbrev pub Said : Program → ℕ → List ℕ → Option Sink → List ℕ → Type 0
Said p n o (Some sink) o' = (length (keys_of p) ≤ key_limit) × (written_of sink o' ≡ emit p.texts (analyze p) (empty o n))
Said p n o None o' = key_limit < length (keys_of p)

-- one run of the walk from its beginning
pub record Ran (p : Program) (n : ℕ) (s o : List ℕ) (r : Option Sink) (s' o' : List ℕ) : Type 0 where
  pub said : Said p n o r o'
  pub scratch : SameRest s s'

-- what the first run tells where the keys are few: what there is to list, and its lines at the beginning of a stage that has room for them
pub record Known (p : Program) (sink : Sink) (stage : List ℕ) : Type 0 where
  pub few : length (keys_of p) ≤ key_limit
  pub learnt : Learnt p sink
  pub staged : length (analyze p) ≤ diagnostic_limit → sink.n ≤ length stage → take sink.n stage ≡ all_bytes p.texts (analyze p)

-- what the first run tells
abbrev pub Told : Program → Result Sink Refused → List ℕ → Type 0
Told p (Ok sink) stage = Known p sink stage
Told p (Err r) stage = (key_limit < length (keys_of p)) × (r ≡ record { refusal = ManyKeys; place = 0 })
