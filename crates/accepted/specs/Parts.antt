-- What an accepted answer says of its parts: general laws of answers and of readers in sequence. Assumes nothing.
use Rattle.std.specs.Prelude.{ℕ, ◌≤◌, ◌≡◌, List, Bool, true, false}
use Rattle.std.proofs.Math.Path.{refl, subst}
use Rattle.std.proofs.Common.{sym, ◌∙◌}
use Rattle.tree.specs.Ans.{Ans, ok, refused, Reader, bind, ◌>>=◌, ◌>>◌, done, here, refuse, check, IsOk, next_of, given}

-- the value of an answer; the first argument stands in where there is none
unfoldable pub value_or : {A : Type 0} → A → Ans A → A
value_or d (ok a next) = a
value_or d (refused number place) = d

module _ {A : Type 0} where
  -- an accepted answer is its value and the place past it
  pub ok_is : (d : A) (x : Ans A) → IsOk x → x ≡ ok (value_or d x) (next_of x)
  unfolding IsOk value_or next_of
  ok_is d (ok a next) h = refl
  ok_is d (refused number place) h = absurd h

  pub record Is (x : Ans A) : Type 0 where
    pub value : A
    pub is : x ≡ ok value (next_of x)

  pub is_of : (x : Ans A) → IsOk x → Is x
  unfolding IsOk next_of
  is_of (ok a next) h = record { value = a; is = refl }
  is_of (refused number place) h = absurd h

  pub given_ok : {B : Type 0} (d : A) (b : B) (f : A → B) (x : Ans A) → IsOk x → given b f x ≡ f (value_or d x)
  unfolding IsOk value_or given
  given_ok d b f (ok a next) h = refl
  given_ok d b f (refused number place) h = absurd h

  module _ {x : Ans A} {a : A} {k : ℕ} (e : x ≡ ok a k) where
    pub is_ok : IsOk x
    unfolding IsOk
    is_ok = rw e tt

    pub next_is : next_of x ≡ k
    unfolding next_of
    next_is = rw e

    pub end_in : {n : ℕ} → next_of x ≤ n → k ≤ n
    end_in l = rw next_is at l

    pub value_is : (d : A) → value_or d x ≡ a
    unfolding value_or
    value_is d = rw e

    pub given_is : {B : Type 0} (b : B) (f : A → B) → given b f x ≡ f a
    unfolding given
    given_is b f = rw e

-- The answer x is what the reader q gives at k, and it is a value. A production's laws go along its fields with this.
pub record Goes {B : Type 0} (x : Ans B) (q : Reader B) (s : List ℕ) (k : ℕ) : Type 0 where
  pub fine : IsOk x
  pub is : x ≡ q s k

pub start : {B : Type 0} {q : Reader B} {s : List ℕ} {k : ℕ} → IsOk (q s k) → Goes (q s k) q s k
start h = record { fine = h; is = refl }

pub bind-first : {A B : Type 0} (y : Ans A) (f : A → ℕ → Ans B) → IsOk (bind y f) → IsOk y
unfolding bind IsOk
bind-first (ok a next) f h = tt
bind-first (refused number place) f h = absurd h

check-first : {A : Type 0} (b : Bool) (number place : ℕ) (q : Reader A) (s : List ℕ) (k : ℕ) → IsOk (◌>>◌ (check b number place) q s k) → b ≡ true
unfolding ◌>>◌ bind check refuse IsOk
check-first true number place q s k h = refl
check-first false number place q s k h = absurd h

module _ {B : Type 0} {x : Ans B} {s : List ℕ} {k : ℕ} where
  module _ {A : Type 0} (r : Reader A) (f : A → Reader B) where
    -- the next field is accepted where it stands
    pub field : Goes x (◌>>=◌ r f) s k → IsOk (r s k)
    unfolding ◌>>=◌
    field g = bind-first _ _ (subst IsOk g.is g.fine)

    -- past a field whose value and end are known
    pub known : {a : A} {n : ℕ} (m : ℕ) → (IsOk (r s k) → r s k ≡ ok a n) → n ≡ m → Goes x (◌>>=◌ r f) s k → Goes x (f a) s m
    unfolding ◌>>=◌ bind
    known m e p g = record { fine = g.fine; is = g.is ∙ rw (e (field g), p) }

    -- past a field that ends at m
    pub past : (d : A) (m : ℕ) → m ≡ next_of (r s k) → Goes x (◌>>=◌ r f) s k → Goes x (f (value_or d (r s k))) s m
    past d m e g = known m (ok_is d (r s k)) (sym e) g

    -- the same where the value does not matter
    pub beyond : (o : Is (r s k)) (m : ℕ) → m ≡ next_of (r s k) → Goes x (◌>>=◌ r f) s k → Goes x (f o.value) s m
    beyond o m e g = known m (λ h. o.is) (sym e) g

  pub past-here : (f : ℕ → Reader B) → Goes x (◌>>=◌ here f) s k → Goes x (f k) s k
  unfolding ◌>>=◌ bind here
  past-here f g = record { fine = g.fine; is = g.is }

  pub unit_field : (r : Reader (Unit {0})) (q : Reader B) → Goes x (◌>>◌ r q) s k → IsOk (r s k)
  unfolding ◌>>◌
  unit_field r q g = bind-first _ _ (subst IsOk g.is g.fine)

  module _ (b : Bool) (number place : ℕ) (q : Reader B) where
    pub checked : Goes x (◌>>◌ (check b number place) q) s k → b ≡ true
    checked g = check-first b number place q s k (subst IsOk g.is g.fine)

    pub past-check : Goes x (◌>>◌ (check b number place) q) s k → Goes x q s k
    unfolding ◌>>◌ bind check done
    past-check g = record { fine = g.fine; is = g.is ∙ rw (checked g) }

  -- past a reader of no value
  pub past_unit : (r : Reader (Unit {0})) (q : Reader B) (m : ℕ) → (IsOk (r s k) → r s k ≡ ok tt m) → Goes x (◌>>◌ r q) s k → Goes x q s m
  unfolding ◌>>◌ bind
  past_unit r q m e g = record { fine = g.fine; is = g.is ∙ rw (e (unit_field r q g)) }

  -- the end of the fields
  pub ends : (a : B) → Goes x (done a) s k → x ≡ ok a k
  unfolding done
  ends a g = g.is

  pub stops : (number place : ℕ) → Goes x (refuse number place) s k → ⊥
  unfolding refuse IsOk
  stops number place g = subst IsOk g.is g.fine
