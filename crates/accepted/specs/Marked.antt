-- The span that a mark stands for is the span of the measure statement at its place. Assumes nothing.
use Rattle.std.specs.Prelude.{ℕ, ◌+◌, ◌≡◌, List, get_or}
use Rattle.std.proofs.Common.{sym, ap, ◌∙◌}
use Rattle.tree.specs.Ans.{IsOk, next_of, given}
use Rattle.tree.specs.Read.{option}
use Rattle.tree.specs.Stmts.{operand, stmt_cases, stmt}
use Rattle.tree.specs.Decode.{texts_of}
use Rattle.tree.specs.Levels.{stmt_levels}
use Rattle.context.specs.View.{span_at, stmt_span, measure_span}
use Rattle.accepted.specs.Parts.{given_is}
use Rattle.accepted.specs.Levels.{level-goes}
use Rattle.accepted.specs.Stmts.{measure_is}

pub measured-span : (left : ℕ) (s : List ℕ) (at : ℕ) → IsOk (stmt (texts_of s) left s at) → get_or s at 0 ≡ 8 → (k : ℕ) → k ≡ next_of (operand (texts_of s) s (at + 1)) → (m : ℕ) → m ≡ next_of (option (operand (texts_of s)) s k) → measure_span s at ≡ span_at s m
unfolding measure_span stmt_cases
measured-span left s at h b k k-end m m-end =
    ap (given _ stmt_span) (sym (level-goes (stmt_levels (texts_of s)) left s at h 8 b).is) ∙ given_is (measure_is (texts_of s) left s at h b k k-end m m-end) _ stmt_span
