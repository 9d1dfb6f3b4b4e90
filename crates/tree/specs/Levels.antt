-- Expressions and statements are read by levels: refused with 6 where none is left, else a byte says which of so many cases. Assumes nothing.
use Rattle.std.specs.Prelude.{ℕ, suc, ◌≡◌, List, get_or}
use Rattle.std.proofs.Math.Path.{refl}
use Rattle.ast.specs.Tree.{Text}
use Rattle.tree.specs.Ans.{Reader, ◌>>=◌, here, refuse}
use Rattle.tree.specs.Read.{case_byte}
use Rattle.tree.specs.Exprs.{expr_cases, expr}
use Rattle.tree.specs.Stmts.{stmt_cases, stmt}

pub record Levelled {A : Type 0} (cases : ℕ) (arm : Reader A → ℕ → ℕ → Reader A) (f : ℕ → Reader A) : Type 0 where
  pub none : f 0 ≡ (◌>>=◌ here (λ place. ◌>>=◌ (case_byte cases) (λ c. refuse 6 place)))
  pub more : (left : ℕ) → f (suc left) ≡ (◌>>=◌ here (λ place. ◌>>=◌ (case_byte cases) (arm (f left) place)))

module _ (t : List Text) where
  pub expr_levels : Levelled 10 (λ inner place c. get_or (expr_cases t inner) c (refuse 4 place)) (expr t)
  unfolding expr
  expr_levels = record { none = refl; more = λ left. refl }

  pub stmt_levels : Levelled 15 (λ inner place c. get_or (stmt_cases t inner place) c (refuse 4 place)) (stmt t)
  unfolding stmt
  stmt_levels = record { none = refl; more = λ left. refl }
