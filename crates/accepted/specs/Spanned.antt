-- Fields with the span behind them, as most productions end, and the name that many begin with. Assumes nothing.
use Rattle.std.specs.Prelude.{ℕ, ◌+◌, ◌≤◌, ◌<◌, ◌≡◌, refl, List, length}
use Rattle.std.proofs.Common.{arith}
use Rattle.span.specs.declared.Span.{Span}
use Rattle.ast.specs.Tree.{Text}
use Rattle.tree.specs.Ans.{Ans, ok, Reader, ◌>>=◌, done}
use Rattle.tree.specs.Read.{span}
use Rattle.tree.specs.Texts.{is_name}
use Rattle.tree.specs.Exprs.{name}
use Rattle.context.specs.View.{number_at, span_at}
use Rattle.accepted.specs.Parts.{Goes, field, known, ends}
use Rattle.accepted.specs.Fields.{span_is, text_in, text-below, text_is}

-- no field, one, two, three
module _ {C : Type 0} where
  abbrev pub spanned : (Span → C) → Reader C
  spanned make = ◌>>=◌ span (λ sp. done (make sp))

  abbrev pub one : {A : Type 0} → Reader A → (A → Span → C) → Reader C
  one p make = ◌>>=◌ p (λ a. spanned (make a))

  abbrev pub two : {A B : Type 0} → Reader A → Reader B → (A → B → Span → C) → Reader C
  two p q make = ◌>>=◌ p (λ a. one q (make a))

  abbrev pub three : {A B D : Type 0} → Reader A → Reader B → Reader D → (A → B → D → Span → C) → Reader C
  three p q r make = ◌>>=◌ p (λ a. two q r (make a))

module _ {C : Type 0} {x : Ans C} {s : List ℕ} {k : ℕ} where
  -- the span, where the fields end
  pub spanned_is : (make : Span → C) → Goes x (spanned make) s k → x ≡ ok (make (span_at s k)) (k + 8)
  spanned_is make g = ends _ (known _ _ (k + 8) (span_is s k) refl g)

-- a name behind the byte at k
pub record Named (t : List Text) (s : List ℕ) (k : ℕ) : Type 0 where
  pub below : number_at 2 s (k + 1) < length t
  pub inside : k + 3 ≤ length s

module _ {C : Type 0} {x : Ans C} {s : List ℕ} (t : List Text) (k : ℕ) (rest : ℕ → Reader C) (g : Goes x (◌>>=◌ (name t) rest) s (k + 1)) where
  pub named : Named t s k
  named =
      let h = field _ _ g in
      let i = text_in s (k + 1) t is_name h in
      record { below = text-below s (k + 1) t is_name h; inside = omega arith }

  pub past-name : Goes x (rest (number_at 2 s (k + 1))) s (k + 3)
  past-name = known _ _ (k + 3) (text_is s (k + 1) t is_name) (omega arith) g
