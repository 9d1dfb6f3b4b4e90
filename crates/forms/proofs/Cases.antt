-- Expressions by their levels, and the cases of expressions and modifiers. Assumes nothing.
use Rattle.std.proofs.Common.{◌≡◌, refl, ℕ, ◌-◌, List, [], ◌∷◌, get_or, arith}
use Rattle.std.proofs.lemmas.Grind.{common_steps}
use Rattle.span.specs.declared.Span.{Span}
use Rattle.ast.specs.Tree.{Text, Expr, GateModifier}
use Rattle.tree.specs.Ans.{Ans, ok, refused, Reader, bind, ◌>>=◌, done, refuse}
use Rattle.ast.specs.declared.ClassicalQualifier.TheVariants.{Const, Input, Output}
use Rattle.tree.specs.Read.{span, case_byte, one_of}
use Rattle.tree.specs.Stmts.{qualifier, inv}
use Rattle.tree.specs.Levels.{expr_levels}
use Rattle.tree.specs.Exprs.{binary, bin_op, compare, compare_op, const, const_kind, expr_cases, expr}
use Rattle.reading.specs.Answers.{forget}
use Rattle.reading.proofs.Levels.{level-refused, level-over, level-arm}
use Rattle.forms.specs.Pairs.{pair}

-- a qualifier is read as its case byte
pub qualifier_is : (s : List ℕ) (at : ℕ) → forget (case_byte 3 s at) ≡ forget (qualifier s at)
unfolding qualifier one_of done ◌>>=◌ bind forget
qualifier_is s at = go (case_byte 3 s at)
  where
    go : (x : Ans ℕ) → forget x ≡ forget (bind x (λ b next. done (get_or (Const ∷ Input ∷ Output ∷ []) b Const) s next))
    go (ok b next) = refl
    go (refused n p) = refl

-- `inv` holds its span alone
pub inv_is : (t : List Text) (s : List ℕ) (at : ℕ) → forget (inv t s at) ≡ forget (span s at)
unfolding inv done ◌>>=◌ bind forget
inv_is t s at = go (span s at)
  where
    go : (x : Ans Span) → forget (bind x (λ sp next. done (GateModifier.Inv sp) s next)) ≡ forget x
    go (ok b next) = refl
    go (refused n p) = refl

module _ (t : List Text) (left : ℕ) (s : List ℕ) (at : ℕ) where
  pub expr-refused : (n p : ℕ) → case_byte 10 s at ≡ refused n p → expr t left s at ≡ refused n p
  expr-refused = level-refused (expr_levels t) left s at

  module _ (b k : ℕ) (e : case_byte 10 s at ≡ ok b k) where
    pub expr-over : left ≡ 0 → expr t left s at ≡ refused 6 at
    expr-over = level-over (expr_levels t) left s at b k e

    pub expr-arm : (left ≡ 0 → ⊥) → expr t left s at ≡ get_or (expr_cases t (expr t (left - 1))) b (refuse 4 at) s k
    expr-arm = level-arm (expr_levels t) left s at b k e

-- an operation and a comparison, of which the operator is read first
module _ (t : List Text) (inner : Reader Expr) (s : List ℕ) (at : ℕ) where
  pub binary_is : forget (binary t inner s at) ≡ bind (case_byte 5 s at) (λ o. pair inner s)
  unfolding binary bin_op one_of pair done ◌>>=◌ bind forget
  binary_is = grind (arith, common_steps)

  pub compare_is : forget (compare t inner s at) ≡ bind (case_byte 6 s at) (λ o. pair inner s)
  unfolding compare compare_op one_of pair done ◌>>=◌ bind forget
  compare_is = grind (arith, common_steps)

-- `unfolding(..)` of an attribute takes no `const`
pub const_is : (t : List Text) (s : List ℕ) (at : ℕ) → forget (const t s at) ≡ bind (case_byte 3 s at) (λ b k. forget (span s k))
unfolding const const_kind one_of done ◌>>=◌ bind forget
const_is t s at = grind (arith, common_steps)

pub ruleset exprs = (expr-refused, expr-over, expr-arm, binary_is, compare_is)

pub ruleset modifiers = inv_is
