-- An accepted value ends no earlier than it starts, and within the bytes. Assumes nothing.
use Rattle.std.specs.Prelude.{ℕ, zero, suc, ◌+◌, ◌≤◌, ◌≡◌, List, [], ◌∷◌, Bool, length, get_or}
use Rattle.std.proofs.Math.Option.{none, some}
use native.Mathlib.Omega.{arith}
use Rattle.ast.specs.Tree.{Text}
use Rattle.tree.specs.Ans.{Ans, ok, refused, Reader, bind, ◌>>=◌, done, here, refuse, IsOk, next_of}
use Rattle.tree.specs.Read.{number, span, case_byte, one_of, option_case, option, repeat, count, counted}
use Rattle.tree.specs.Exprs.{text_number}
use Rattle.accepted.specs.Parts.{next_is, start, stops}
use Rattle.accepted.specs.Fields.{number_in, number_is, span_in, span_is, case_in, case_is, one_in, one_is, count_in, count_is, text_in, text_is, option_in}

pub record Moves {A : Type 0} (r : Reader A) : Type 0 where
  pub moves : (s : List ℕ) (at : ℕ) → at ≤ length s → IsOk (r s at) → (at ≤ next_of (r s at)) × (next_of (r s at) ≤ length s)

module _ {A : Type 0} where
  -- a field of a fixed size
  pub moves_by : (r : Reader A) (size : ℕ) (v : List ℕ → ℕ → A) → ((s : List ℕ) (at : ℕ) → IsOk (r s at) → at + size ≤ length s) → ((s : List ℕ) (at : ℕ) → IsOk (r s at) → r s at ≡ ok (v s at) (at + size)) → Moves r
  moves_by r size v i e = record {
    moves = λ s at l h.
        let n : next_of (r s at) ≡ at + size = next_is (e s at h) in
        let m = i s at h in
        (omega arith, omega arith);
  }

  pub done-moves : (a : A) → Moves (done a)
  unfolding done next_of
  done-moves a = record { moves = λ s at l h. (omega arith, l) }

  pub refuse-moves : (n k : ℕ) → Moves (refuse {A = A} n k)
  refuse-moves n k = record { moves = λ s at l h. absurd (stops n k (start h)) }

abbrev Within : {A : Type 0} → ℕ → ℕ → Ans A → Type 0
Within at n x = IsOk x → (at ≤ next_of x) × (next_of x ≤ n)

bind-within : {A B : Type 0} (x : Ans A) (f : A → ℕ → Ans B) (at n : ℕ) → Within at n x → ((a : A) (k : ℕ) → k ≤ n → Within k n (f a k)) → Within at n (bind x f)
unfolding bind IsOk next_of
bind-within (ok a k) f at n p q h =
    let u = p tt in
    let v = q a k u.1 h in
    (omega arith, v.1)
bind-within (refused number place) f at n p q h = absurd h

pub seq-moves : {A B : Type 0} {r : Reader A} (f : A → Reader B) → Moves r → ((a : A) → Moves (f a)) → Moves (◌>>=◌ r f)
unfolding ◌>>=◌
seq-moves {r = r} f p q = record { moves = λ s at l. bind-within (r s at) (λ a k. f a s k) at (length s) (p.moves s at l) (λ a k m. (q a).moves s k m) }

-- the last field, and a value made of what it gives
pub last-moves : {A B : Type 0} {r : Reader A} (g : A → B) → Moves r → Moves (◌>>=◌ r (λ a. done (g a)))
last-moves g p = seq-moves _ p (λ a. done-moves (g a))

pub number-moves : (width : ℕ) → Moves (number width)
number-moves width = moves_by _ width _ (λ s at. number_in s at width) (λ s at. number_is s at width)

pub span-moves : Moves span
span-moves = moves_by _ 8 _ span_in span_is

case-moves : (cases : ℕ) → Moves (case_byte cases)
case-moves cases = moves_by _ 1 _ (λ s at h. let i = case_in s at cases h in omega arith) (λ s at. case_is s at cases)

pub one-moves : {A : Type 0} (c : A) (cs : List A) → Moves (one_of c cs)
one-moves c cs = moves_by _ 1 _ (λ s at h. let i = one_in s at c cs h in omega arith) (λ s at. one_is s at c cs)

count-moves : Moves count
count-moves = moves_by _ 1 _ (λ s at h. let i = count_in s at h in omega arith) count_is

pub text-moves : (t : List Text) (spelled : Text → Bool) → Moves (text_number t spelled)
text-moves t spelled = moves_by _ 2 _ (λ s at. text_in s at t spelled) (λ s at. text_is s at t spelled)

pub option-moves : {A : Type 0} {p : Reader A} → Moves p → Moves (option p)
unfolding option option_case
option-moves {A} {p} m = seq-moves _ (case-moves 2) go
  where
    go : (b : ℕ) → Moves (option_case p b)
    go zero = done-moves none
    go (suc b) = last-moves some m

pub repeat-moves : {A B : Type 0} (nil : B) (cons : A → B → B) {p : Reader A} → Moves p → (n : ℕ) → Moves (repeat nil cons p n)
unfolding repeat
repeat-moves nil cons m zero = done-moves nil
repeat-moves nil cons m (suc n) = seq-moves _ m (λ a. last-moves (cons a) (repeat-moves nil cons m n))

pub counted-moves : {A B : Type 0} (nil : B) (cons : A → B → B) {p : Reader A} → Moves p → Moves (counted nil cons p)
unfolding counted
counted-moves nil cons m = seq-moves _ count-moves (repeat-moves nil cons m)

-- an Option and a Vec end within the bytes
module _ {A : Type 0} (p : Reader A) (m : Moves p) (s : List ℕ) (at : ℕ) where
  pub option_inside : IsOk (option p s at) → next_of (option p s at) ≤ length s
  option_inside h = let i = option_in s at p h in let l : at ≤ length s = omega arith in ((option-moves m).moves s at l h).1

-- one of several cases
pub data Each {A : Type 0} : List (Reader A) → Type 0 where
  none_left : Each []
  and : {r : Reader A} {rs : List (Reader A)} → Moves r → Each rs → Each (r ∷ rs)

pub each-moves : {A : Type 0} {rs : List (Reader A)} → Each rs → (c : ℕ) (r : Reader A) → Moves r → Moves (get_or rs c r)
each-moves none_left c r m = m
each-moves (and p ps) zero r m = p
each-moves (and p ps) (suc c) r m = each-moves ps c r m

-- a value behind its case byte
pub choice-moves : {B : Type 0} (cases : ℕ) (f : ℕ → ℕ → Reader B) → ((place c : ℕ) → Moves (f place c)) → Moves (◌>>=◌ here (λ place. ◌>>=◌ (case_byte cases) (f place)))
unfolding ◌>>=◌ bind here
choice-moves cases f m = record { moves = λ s at. (seq-moves (f at) (case-moves cases) (m at)).moves s at }
