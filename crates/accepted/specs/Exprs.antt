-- What an accepted expression says of its parts, and which tree it is: for each production, the parts are accepted where they stand, the
-- span's bytes are inside, and the whole is this value and this place. A place past a part is a number that equals its end. Assumes nothing.
use Rattle.std.specs.Prelude.{ℕ, ◌+◌, ◌-◌, ◌≤◌, ◌<◌, ◌≡◌, List, ◌⊎◌, length, get_or}
use Rattle.std.proofs.Common.{sym, inl, inr, arith}
use Rattle.span.specs.declared.Span.{Span}
use Rattle.ast.specs.Tree.{Text, Expr, no_expr}
use Rattle.tree.specs.Ans.{ok, Reader, ◌>>=◌, refuse, IsOk, next_of}
use Rattle.tree.specs.Read.{bool}
use Rattle.tree.specs.Texts.{is_name, is_float}
use Rattle.tree.specs.Exprs.{name, const_kind, bin_op, compare_op, exprs, int_lit, float_lit, bool_lit, ident, index, call, const, neg, binary, compare, expr_cases, expr}
use Rattle.tree.specs.Levels.{expr_levels}
use Rattle.context.specs.View.{number_at, span_at}
use Rattle.accepted.specs.Cases.{bool_of, const_kind_of, bin_op_of, compare_op_of, one_of_two, blank}
use Rattle.accepted.specs.Parts.{value_or, next_is, end_in, Goes, field, known, past, ends}
use Rattle.accepted.specs.Fields.{number_is, span_is, one_is, text_is}
use Rattle.accepted.specs.Spanned.{one, two, spanned_is, Named, named, past-name}
use Rattle.accepted.specs.Ends.{Moves, seq-moves, last-moves, number-moves, span-moves, one-moves, text-moves, counted-moves, none_left, and, each-moves, refuse-moves}
use Rattle.accepted.specs.Levels.{level_in, level-below, level-left, level-goes, level-moves, level_forward, level-end}

module _ (s : List ℕ) (at : ℕ) where
  bool_is : IsOk (bool s at) → bool s at ≡ ok (bool_of (get_or s at 0)) (at + 1)
  unfolding bool
  bool_is h = one_is s at _ _ h

  const_kind_is : IsOk (const_kind s at) → const_kind s at ≡ ok (const_kind_of (get_or s at 0)) (at + 1)
  unfolding const_kind
  const_kind_is h = one_is s at _ _ h

  bin_op_is : IsOk (bin_op s at) → bin_op s at ≡ ok (bin_op_of (get_or s at 0)) (at + 1)
  unfolding bin_op
  bin_op_is h = one_is s at _ _ h

  compare_op_is : IsOk (compare_op s at) → compare_op s at ≡ ok (compare_op_of (get_or s at 0)) (at + 1)
  unfolding compare_op
  compare_op_is h = one_is s at _ _ h

pub expr_in : (t : List Text) (left : ℕ) (s : List ℕ) (at : ℕ) → IsOk (expr t left s at) → at < length s
expr_in t = level_in (expr_levels t)

pub expr_left : (t : List Text) (left : ℕ) (s : List ℕ) (at : ℕ) → IsOk (expr t left s at) → 0 < left
expr_left t = level-left (expr_levels t)

cases_move : (t : List Text) (inner : Reader Expr) → Moves inner → (place c : ℕ) → Moves (get_or (expr_cases t inner) c (refuse 4 place))
unfolding expr_cases int_lit float_lit bool_lit ident index call const neg binary compare bool const_kind bin_op compare_op
cases_move t inner m place c =
    let name = text-moves t is_name in
    each-moves
    (and (seq-moves _ (number-moves 8) (λ a. last-moves _ span-moves))
    (and (seq-moves _ (text-moves t is_float) (λ a. last-moves _ span-moves))
    (and (seq-moves _ (one-moves _ _) (λ a. last-moves _ span-moves))
    (and (seq-moves _ name (λ a. last-moves _ span-moves))
    (and (seq-moves _ name (λ a. seq-moves _ (number-moves 8) (λ b. last-moves _ span-moves)))
    (and (seq-moves _ name (λ a. seq-moves _ (counted-moves _ _ m) (λ b. last-moves _ span-moves)))
    (and (seq-moves _ (one-moves _ _) (λ a. last-moves _ span-moves))
    (and (seq-moves _ m (λ a. last-moves _ span-moves))
    (and (seq-moves _ (one-moves _ _) (λ a. seq-moves _ m (λ b. seq-moves _ m (λ c. last-moves _ span-moves))))
    (and (seq-moves _ (one-moves _ _) (λ a. seq-moves _ m (λ b. seq-moves _ m (λ c. last-moves _ span-moves))))
    none_left))))))))))
    c _ (refuse-moves 4 place)

pub expr-moves : (t : List Text) (left : ℕ) → Moves (expr t left)
expr-moves t = level-moves (expr_levels t) (cases_move t)

pub expr-end : (t : List Text) (left : ℕ) (s : List ℕ) (at : ℕ) → IsOk (expr t left s at) → next_of (expr t left s at) ≤ length s
expr-end t = level-end (expr_levels t) (cases_move t)

pub expr_forward : (t : List Text) (left : ℕ) (s : List ℕ) (at : ℕ) → IsOk (expr t left s at) → at ≤ next_of (expr t left s at)
expr_forward t = level_forward (expr_levels t) (cases_move t)

module _ (t : List Text) (left : ℕ) (s : List ℕ) (at : ℕ) (h : IsOk (expr t left s at)) where
  -- an integer literal
  module _ (b : get_or s at 0 ≡ 0) where
    pub int_lit_is : expr t left s at ≡ ok (Expr.IntLit (number_at 8 s (at + 1)) (span_at s (at + 9))) (at + 17)
    unfolding expr_cases int_lit
    int_lit_is = ends _ (known _ _ (at + 17) (span_is s (at + 9)) (omega arith) (known _ _ (at + 9) (number_is s (at + 1) 8) (omega arith) (level-goes (expr_levels t) left s at h 0 b)))

    pub int_lit-inside : at + 17 ≤ length s
    int_lit-inside = end_in int_lit_is (expr-end t left s at h)

  -- a float literal
  module _ (b : get_or s at 0 ≡ 1) where
    pub float_lit_is : expr t left s at ≡ ok (Expr.FloatLit (number_at 2 s (at + 1)) (span_at s (at + 3))) (at + 11)
    unfolding expr_cases float_lit
    float_lit_is = ends _ (known _ _ (at + 11) (span_is s (at + 3)) (omega arith) (known _ _ (at + 3) (text_is s (at + 1) t is_float) (omega arith) (level-goes (expr_levels t) left s at h 1 b)))

    pub float_lit-inside : at + 11 ≤ length s
    float_lit-inside = end_in float_lit_is (expr-end t left s at h)

  -- a bool literal
  module _ (b : get_or s at 0 ≡ 2) where
    pub bool_lit_is : expr t left s at ≡ ok (Expr.BoolLit (bool_of (get_or s (at + 1) 0)) (span_at s (at + 2))) (at + 10)
    unfolding expr_cases bool_lit
    bool_lit_is = ends _ (known _ _ (at + 10) (span_is s (at + 2)) (omega arith) (known _ _ (at + 2) (bool_is s (at + 1)) (omega arith) (level-goes (expr_levels t) left s at h 2 b)))

    pub bool_lit-inside : at + 10 ≤ length s
    bool_lit-inside = end_in bool_lit_is (expr-end t left s at h)

  -- a name
  module _ (b : get_or s at 0 ≡ 3) where
    pub ident-named : Named t s at
    unfolding expr_cases ident
    ident-named = named t at _ (level-goes (expr_levels t) left s at h 3 b)

    pub ident_is : expr t left s at ≡ ok (Expr.Ident (number_at 2 s (at + 1)) (span_at s (at + 3))) (at + 11)
    unfolding expr_cases ident
    ident_is = ends _ (known _ _ (at + 11) (span_is s (at + 3)) (omega arith) (past-name t at _ (level-goes (expr_levels t) left s at h 3 b)))

    pub ident-inside : at + 11 ≤ length s
    ident-inside = end_in ident_is (expr-end t left s at h)

  -- a name with an index
  module _ (b : get_or s at 0 ≡ 4) where
    pub index-named : Named t s at
    unfolding expr_cases index
    index-named = named t at _ (level-goes (expr_levels t) left s at h 4 b)

    pub index_is : expr t left s at ≡ ok (Expr.Index (number_at 2 s (at + 1)) (number_at 8 s (at + 3)) (span_at s (at + 11))) (at + 19)
    unfolding expr_cases index
    index_is = ends _ (known _ _ (at + 19) (span_is s (at + 11)) (omega arith) (known _ _ (at + 11) (number_is s (at + 3) 8) (omega arith) (past-name t at _ (level-goes (expr_levels t) left s at h 4 b))))

    pub index-inside : at + 19 ≤ length s
    index-inside = end_in index_is (expr-end t left s at h)

  -- a call
  module _ (b : get_or s at 0 ≡ 5) where
    call-goes : Goes (expr t left s at) (◌>>=◌ (name t) (λ x. one (exprs (expr t (left - 1))) (Expr.Call x))) s (at + 1)
    unfolding expr_cases call
    call-goes = level-goes (expr_levels t) left s at h 5 b

    pub call-named : Named t s at
    call-named = named t at _ call-goes

    pub call-args : IsOk (exprs (expr t (left - 1)) s (at + 3))
    call-args = field _ _ (past-name t at _ call-goes)

    module _ (k : ℕ) (k-end : k ≡ next_of (exprs (expr t (left - 1)) s (at + 3))) where
      pub call_is : expr t left s at ≡ ok (Expr.Call (number_at 2 s (at + 1)) (value_or no_expr (exprs (expr t (left - 1)) s (at + 3))) (span_at s k)) (k + 8)
      call_is = spanned_is _ (past _ _ no_expr k k-end (past-name t at _ call-goes))

      pub call-inside : k + 8 ≤ length s
      call-inside = end_in call_is (expr-end t left s at h)

  -- a constant
  module _ (b : get_or s at 0 ≡ 6) where
    pub const_is : expr t left s at ≡ ok (Expr.Const (const_kind_of (get_or s (at + 1) 0)) (span_at s (at + 2))) (at + 10)
    unfolding expr_cases const
    const_is = ends _ (known _ _ (at + 10) (span_is s (at + 2)) (omega arith) (known _ _ (at + 2) (const_kind_is s (at + 1)) (omega arith) (level-goes (expr_levels t) left s at h 6 b)))

    pub const-inside : at + 10 ≤ length s
    const-inside = end_in const_is (expr-end t left s at h)

  -- a negation
  module _ (b : get_or s at 0 ≡ 7) where
    neg-goes : Goes (expr t left s at) (one (expr t (left - 1)) Expr.Neg) s (at + 1)
    unfolding expr_cases neg
    neg-goes = level-goes (expr_levels t) left s at h 7 b

    pub neg_inner : IsOk (expr t (left - 1) s (at + 1))
    neg_inner = field _ _ neg-goes

    module _ (k : ℕ) (k-end : k ≡ next_of (expr t (left - 1) s (at + 1))) where
      pub neg_is : expr t left s at ≡ ok (Expr.Neg (value_or blank (expr t (left - 1) s (at + 1))) (span_at s k)) (k + 8)
      neg_is = spanned_is _ (past _ _ blank k k-end neg-goes)

      pub neg-inside : k + 8 ≤ length s
      neg-inside = end_in neg_is (expr-end t left s at h)

  -- an arithmetic operation or a comparison
  abbrev pub Operation : Type 0
  Operation = (get_or s at 0 ≡ 8) ⊎ (get_or s at 0 ≡ 9)

  pub operation : 8 ≤ get_or s at 0 → Operation
  operation l = one_of_two (get_or s at 0) 8 l (level-below (expr_levels t) left s at h)

  unfoldable pair_of : Operation → Expr → Expr → Span → Expr
  pair_of (inl b) = Expr.BinOp (bin_op_of (get_or s (at + 1) 0))
  pair_of (inr b) = Expr.Compare (compare_op_of (get_or s (at + 1) 0))

  pair_goes : (b : Operation) → Goes (expr t left s at) (two (expr t (left - 1)) (expr t (left - 1)) (pair_of b)) s (at + 2)
  unfolding expr_cases binary compare pair_of
  pair_goes (inl b) = known _ _ (at + 2) (bin_op_is s (at + 1)) (omega arith) (level-goes (expr_levels t) left s at h 8 b)
  pair_goes (inr b) = known _ _ (at + 2) (compare_op_is s (at + 1)) (omega arith) (level-goes (expr_levels t) left s at h 9 b)

  abbrev PairIs : (Expr → Expr → Span → Expr) → Type 0
  PairIs make = (k : ℕ) → k ≡ next_of (expr t (left - 1) s (at + 2)) → (m : ℕ) → m ≡ next_of (expr t (left - 1) s k) → expr t left s at ≡ ok (make (value_or blank (expr t (left - 1) s (at + 2))) (value_or blank (expr t (left - 1) s k)) (span_at s m)) (m + 8)

  module _ (b : Operation) where
    pub pair_lhs : IsOk (expr t (left - 1) s (at + 2))
    pair_lhs = field _ _ (pair_goes b)

    pair_is : PairIs (pair_of b)
    pair_is k k-end m m-end = spanned_is _ (past _ _ blank m m-end (past _ _ blank k k-end (pair_goes b)))

    module _ (k : ℕ) (k-end : k ≡ next_of (expr t (left - 1) s (at + 2))) where
      pub pair_rhs : IsOk (expr t (left - 1) s k)
      pair_rhs = field _ _ (past _ _ blank k k-end (pair_goes b))

      module _ (m : ℕ) (m-end : m ≡ next_of (expr t (left - 1) s k)) where
        pub pair_next : m + 8 ≡ next_of (expr t left s at)
        pair_next = sym (next_is (pair_is k k-end m m-end))

        pub pair_inside : m + 8 ≤ length s
        pair_inside = end_in (pair_is k k-end m m-end) (expr-end t left s at h)

  pub binary_is : get_or s at 0 ≡ 8 → PairIs (Expr.BinOp (bin_op_of (get_or s (at + 1) 0)))
  unfolding pair_of
  binary_is b = pair_is (inl b)

  pub compare_is : get_or s at 0 ≡ 9 → PairIs (Expr.Compare (compare_op_of (get_or s (at + 1) 0)))
  unfolding pair_of
  compare_is b = pair_is (inr b)
