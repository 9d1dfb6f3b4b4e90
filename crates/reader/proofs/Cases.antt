-- Statements by their levels, and bodies. Assumes nothing.
use Rattle.std.proofs.Common.{◌≡◌, refl, ℕ, ◌-◌, List, get_or, arith}
use Rattle.std.proofs.Math.Option.{Option}
use Rattle.ast.specs.Tree.{Text, Stmt, Stmts, no_stmt, more_stmt}
use Rattle.tree.specs.Ans.{Ans, ok, refused, Reader, bind, ◌>>=◌, done, refuse}
use Rattle.tree.specs.Read.{number, case_byte, option, repeat}
use Rattle.tree.specs.Levels.{stmt_levels}
use Rattle.tree.specs.Stmts.{body, to_else, else_body, stmt_cases, stmt}
use Rattle.reading.specs.Answers.{forget}
use Rattle.reading.proofs.Levels.{level-refused, level-over, level-arm}

module _ (t : List Text) (left : ℕ) (s : List ℕ) (at : ℕ) where
  pub stmt-refused : (n p : ℕ) → case_byte 15 s at ≡ refused n p → stmt t left s at ≡ refused n p
  stmt-refused = level-refused (stmt_levels t) left s at

  module _ (b k : ℕ) (e : case_byte 15 s at ≡ ok b k) where
    pub stmt-over : left ≡ 0 → stmt t left s at ≡ refused 6 at
    stmt-over = level-over (stmt_levels t) left s at b k e

    pub stmt-arm : (left ≡ 0 → ⊥) → stmt t left s at ≡ get_or (stmt_cases t (stmt t (left - 1)) at) b (refuse 4 at) s k
    stmt-arm = level-arm (stmt_levels t) left s at b k e

pub ruleset stmts = (stmt-refused, stmt-over, stmt-arm)

-- bodies
module _ (inner : Reader Stmt) (s : List ℕ) (at : ℕ) where
  pub body_refused : (m q : ℕ) → number 2 s at ≡ refused m q → forget (body inner s at) ≡ refused m q
  unfolding body ◌>>=◌ bind forget
  body_refused m q e = rw e

  pub body-start : (n k : ℕ) → number 2 s at ≡ ok n k → forget (body inner s at) ≡ forget (repeat no_stmt more_stmt inner (n - 0) s k)
  unfolding body ◌>>=◌ bind
  body-start n k e = let z : n - 0 ≡ n = omega arith in rw (e, z)

  -- the body of an `else`, where there is one
  pub else_is : forget (else_body inner s at) ≡ forget (option (body inner) s at)
  unfolding else_body done ◌>>=◌ bind forget
  else_is = go (option (body inner) s at)
    where
      go : (x : Ans (Option Stmts)) → forget (bind x (λ b next. done (to_else b) s next)) ≡ forget x
      go (ok b next) = refl
      go (refused n p) = refl

pub ruleset bodies = (body_refused, body-start, else_is)
