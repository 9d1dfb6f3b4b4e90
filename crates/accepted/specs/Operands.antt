-- What accepted operands, modifiers, ranges and parameters say of their parts, and which values they are. Assumes nothing.
use Rattle.std.specs.Prelude.{ℕ, ◌+◌, ◌≤◌, ◌<◌, ◌≡◌, List, [], ◌∷◌, ◌⊎◌, length, get_or}
use Rattle.std.proofs.Math.Path.{refl}
use Rattle.std.proofs.Common.{sym, ap, ◌∙◌, inl, inr}
use Rattle.std.proofs.Math.Option.{Option, none, some}
use native.Mathlib.Omega.{arith}
use Rattle.span.specs.declared.Span.{Span}
use Rattle.ast.specs.Tree.{Text, Expr, GateOperand as Operand, GateModifier}
use Rattle.tree.specs.Ans.{ok, ◌>>=◌, done, refuse, IsOk, next_of}
use Rattle.tree.specs.Read.{u64, option}
use Rattle.tree.specs.Texts.{is_name}
use Rattle.tree.specs.Exprs.{name}
use Rattle.tree.specs.Stmts.{classical_type, qualifier, slice, operand, held, ctrl, neg_ctrl, inv, pow, modifier, for_range, param}
use Rattle.context.specs.declared.GateOperand.{GateOperand}
use Rattle.context.specs.Values.{operand_of}
use Rattle.context.specs.View.{number_at, span_at, type_of}
use Rattle.accepted.specs.Cases.{qualifier_of, one_of_two, blank, blank_operand}
use Rattle.accepted.specs.Parts.{value_or, is_ok, next_is, value_is, end_in, Goes, start, field, known, past, ends}
use Rattle.accepted.specs.Fields.{number_in, number_is, span_is, one_in, one_is, choice_in, choice-below, choice, text_in, text-below, text_is, option-known, option-held}
use Rattle.accepted.specs.Spanned.{one, two, spanned_is, Named, named, past-name}
use Rattle.accepted.specs.Ends.{Moves, seq-moves, last-moves, number-moves, span-moves, one-moves, text-moves, option-moves, none_left, and, each-moves, refuse-moves, choice-moves}
use Rattle.accepted.specs.Exprs.{expr-moves}

module _ (s : List ℕ) (at : ℕ) where
  pub type_is : IsOk (classical_type s at) → classical_type s at ≡ ok (type_of (get_or s at 0)) (at + 1)
  unfolding classical_type
  type_is h = one_is s at _ _ h

  pub qualifier_is : IsOk (qualifier s at) → qualifier s at ≡ ok (qualifier_of (get_or s at 0)) (at + 1)
  unfolding qualifier
  qualifier_is h = one_is s at _ _ h

  module _ (h : IsOk (slice s at)) where
    pub slice_in : at + 16 ≤ length s
    unfolding slice
    slice_in = let i = number_in s (at + 8) 8 (field _ _ (known _ _ (at + 8) (number_is s at 8) refl (start h))) in omega arith

    pub slice_is : slice s at ≡ ok (number_at 8 s at, number_at 8 s (at + 8)) (at + 16)
    unfolding slice
    slice_is = ends _ (known _ _ (at + 16) (number_is s (at + 8) 8) (omega arith) (known _ _ (at + 8) (number_is s at 8) refl (start h)))

module _ (s : List ℕ) (at : ℕ) where
  -- an Option of a number, of a slice, of a qualifier: the values behind a byte that is not 0
  module _ (h : IsOk (option u64 s at)) (z : get_or s at 0 ≡ 0 → ⊥) where
    pub some_number_inside : at + 9 ≤ length s
    some_number_inside = let i = number_in s (at + 1) 8 (option-held s at u64 h z) in omega arith

    pub some_number_is : option u64 s at ≡ ok (some (number_at 8 s (at + 1))) (at + 9)
    some_number_is = option-known s at u64 h (at + 9) (number_is s (at + 1) 8) (omega arith) z

  module _ (h : IsOk (option slice s at)) (z : get_or s at 0 ≡ 0 → ⊥) where
    pub some_slice_inside : at + 17 ≤ length s
    some_slice_inside = let i = slice_in s (at + 1) (option-held s at slice h z) in omega arith

    pub some_slice_is : option slice s at ≡ ok (some (number_at 8 s (at + 1), number_at 8 s (at + 9))) (at + 17)
    some_slice_is = let e : at + 1 + 8 ≡ at + 9 = omega arith in rw (← e) (option-known s at slice h (at + 17) (slice_is s (at + 1)) (omega arith) z)

  module _ (h : IsOk (option qualifier s at)) (z : get_or s at 0 ≡ 0 → ⊥) where
    pub some_qualifier_in : at + 1 < length s
    unfolding qualifier
    some_qualifier_in = one_in s (at + 1) _ _ (option-held s at qualifier h z)

    pub some_qualifier_is : option qualifier s at ≡ ok (some (qualifier_of (get_or s (at + 1) 0))) (at + 2)
    some_qualifier_is = option-known s at qualifier h (at + 2) (qualifier_is s (at + 1)) (omega arith) z

pub slice-moves : Moves slice
unfolding slice
slice-moves = seq-moves _ (number-moves 8) (λ a. last-moves _ (number-moves 8))

pub qualifier-moves : Moves qualifier
unfolding qualifier
qualifier-moves = one-moves _ _

pub operand-moves : (t : List Text) → Moves (operand t)
unfolding operand
operand-moves t = seq-moves _ (text-moves t is_name) (λ a. seq-moves _ (option-moves (number-moves 8)) (λ b. seq-moves _ (option-moves slice-moves) (λ c. last-moves _ span-moves)))

pub operand-end : (t : List Text) (s : List ℕ) (at : ℕ) → IsOk (operand t s at) → next_of (operand t s at) ≤ length s
unfolding operand
operand-end t s at h = let i = text_in s at t is_name (field _ _ (start h)) in let l : at ≤ length s = omega arith in ((operand-moves t).moves s at l h).1

pub held-moves : (t : List Text) → Moves (held t)
held-moves t = expr-moves t 32

pub modifier-moves : (t : List Text) → Moves (modifier t)
unfolding modifier ctrl neg_ctrl inv pow
modifier-moves t =
    let e = held-moves t in
    choice-moves 4 _
    (λ place c. each-moves
    (and (seq-moves _ (option-moves e) (λ a. last-moves _ span-moves))
    (and (seq-moves _ (option-moves e) (λ a. last-moves _ span-moves))
    (and (last-moves _ span-moves)
    (and (seq-moves _ e (λ a. last-moves _ span-moves))
    none_left))))
    c _ (refuse-moves 4 place))

pub for_range-moves : (t : List Text) → Moves (for_range t)
unfolding for_range
for_range-moves t = seq-moves _ (held-moves t) (λ a. seq-moves _ (held-moves t) (λ b. last-moves _ (option-moves (held-moves t))))

pub param-moves : (t : List Text) → Moves (param t)
unfolding param classical_type
param-moves t = seq-moves _ (one-moves _ _) (λ a. last-moves _ (text-moves t is_name))

module _ (t : List Text) (s : List ℕ) (at : ℕ) (h : IsOk (operand t s at)) where
  pub operand-name : number_at 2 s at < length t
  unfolding operand
  operand-name = text-below s at t is_name (field _ _ (start h))

  pub operand-name_in : at + 2 ≤ length s
  unfolding operand
  operand-name_in = text_in s at t is_name (field _ _ (start h))

  operand-behind : Goes (operand t s at) (two (option u64) (option slice) (λ i sl sp. record { name = (number_at 2 s at); index = i; slice = sl; span = sp })) s (at + 2)
  unfolding operand
  operand-behind = known _ _ (at + 2) (text_is s at t is_name) refl (start h)

  pub operand-index : IsOk (option u64 s (at + 2))
  operand-index = field _ _ operand-behind

  module _ (k : ℕ) (k-end : k ≡ next_of (option u64 s (at + 2))) where
    pub operand-slice : IsOk (option slice s k)
    operand-slice = field _ _ (past _ _ none k k-end operand-behind)

    module _ (m : ℕ) (m-end : m ≡ next_of (option slice s k)) where
      pub operand_is : operand t s at ≡ ok (record { name = (number_at 2 s at); index = (value_or none (option u64 s (at + 2))); slice = (value_or none (option slice s k)); span = (span_at s m) }) (m + 8)
      operand_is = spanned_is _ (past _ _ none m m-end (past _ _ none k k-end operand-behind))

      pub operand-inside : m + 8 ≤ length s
      operand-inside = end_in operand_is (operand-end t s at h)

-- the name of an operand that was read is one of the file's
pub operand_below : (t : List Text) (s : List ℕ) (at : ℕ) (op : GateOperand) {k : ℕ} → operand t s at ≡ ok (operand_of op) k → op.name < length t
operand_below t s at op e =
    let h = is_ok e in
    let is = value_is (operand_is t s at h _ refl _ refl) blank_operand in
    let same : op.name ≡ number_at 2 s at = ap (λ (q : Operand). q.name) (sym (value_is e blank_operand) ∙ is) in
    rw same (operand-name t s at h)

module _ (t : List Text) (s : List ℕ) (at : ℕ) (h : IsOk (for_range t s at)) where
  pub for_range-start : IsOk (held t s at)
  unfolding for_range
  for_range-start = field _ _ (start h)

  module _ (k : ℕ) (k-end : k ≡ next_of (held t s at)) where
    pub for_range-end : IsOk (held t s k)
    unfolding for_range
    for_range-end = field _ _ (past _ _ blank k k-end (start h))

    module _ (m : ℕ) (m-end : m ≡ next_of (held t s k)) where
      pub for_range-step : IsOk (option (held t) s m)
      unfolding for_range
      for_range-step = field _ _ (past _ _ blank m m-end (past _ _ blank k k-end (start h)))

      module _ (n : ℕ) (n-end : n ≡ next_of (option (held t) s m)) where
        pub for_range_is : for_range t s at ≡ ok (record { start = (value_or blank (held t s at)); end = (value_or blank (held t s k)); step = (value_or none (option (held t) s m)) }) n
        unfolding for_range
        for_range_is = ends _ (past _ _ none n n-end (past _ _ blank m m-end (past _ _ blank k k-end (start h))))

module _ (t : List Text) (s : List ℕ) (at : ℕ) (h : IsOk (param t s at)) where
  param-behind : Goes (param t s at) (◌>>=◌ (name t) (λ x. done (type_of (get_or s at 0), x))) s (at + 1)
  unfolding param
  param-behind = known _ _ (at + 1) (type_is s at) refl (start h)

  pub param-named : Named t s at
  param-named = named t at _ param-behind

  pub param_is : param t s at ≡ ok ((type_of (get_or s at 0)), (number_at 2 s (at + 1))) (at + 3)
  param_is = ends _ (past-name t at _ param-behind)

module _ (t : List Text) (s : List ℕ) (at : ℕ) (h : IsOk (modifier t s at)) where
  pub modifier_in : at < length s
  unfolding modifier
  modifier_in = choice_in s at 4 _ (start h)

  pub modifier-below : get_or s at 0 < 4
  unfolding modifier
  modifier-below = choice-below s at 4 _ (start h)

  pub modifier-end : next_of (modifier t s at) ≤ length s
  modifier-end = let i = modifier_in in let l : at ≤ length s = omega arith in ((modifier-moves t).moves s at l h).1

  -- behind the case byte
  modifier-goes : (c : ℕ) → get_or s at 0 ≡ c → Goes (modifier t s at) (get_or (ctrl t ∷ neg_ctrl t ∷ inv t ∷ pow t ∷ []) c (refuse 4 at)) s (at + 1)
  unfolding modifier
  modifier-goes c e = choice s at 4 _ (start h) c e

  -- `ctrl` and `negctrl`, with a count or without
  abbrev pub Control : Type 0
  Control = (get_or s at 0 ≡ 0) ⊎ (get_or s at 0 ≡ 1)

  pub control : (get_or s at 0 ≡ 2 → ⊥) → (get_or s at 0 ≡ 3 → ⊥) → Control
  control n o = let u = modifier-below in one_of_two (get_or s at 0) 0 (omega arith) (omega arith)

  unfoldable control_of : Control → Option Expr → Span → GateModifier
  control_of (inl b) = GateModifier.Ctrl
  control_of (inr b) = GateModifier.NegCtrl

  control-goes : (b : Control) → Goes (modifier t s at) (one (option (held t)) (control_of b)) s (at + 1)
  unfolding ctrl neg_ctrl control_of
  control-goes (inl b) = modifier-goes 0 b
  control-goes (inr b) = modifier-goes 1 b

  abbrev ControlIs : (Option Expr → Span → GateModifier) → Type 0
  ControlIs make = (k : ℕ) → k ≡ next_of (option (held t) s (at + 1)) → modifier t s at ≡ ok (make (value_or none (option (held t) s (at + 1))) (span_at s k)) (k + 8)

  control_is : (b : Control) → ControlIs (control_of b)
  control_is b k k-end = spanned_is _ (past _ _ none k k-end (control-goes b))

  module _ (n : get_or s at 0 ≡ 2 → ⊥) (o : get_or s at 0 ≡ 3 → ⊥) where
    pub control_count_lem : IsOk (option (held t) s (at + 1))
    control_count_lem = field _ _ (control-goes (control n o))

    module _ (k : ℕ) (k-end : k ≡ next_of (option (held t) s (at + 1))) where
      pub control-next : k + 8 ≡ next_of (modifier t s at)
      control-next = sym (next_is (control_is (control n o) k k-end))

      pub control-inside : k + 8 ≤ length s
      control-inside = end_in (control_is (control n o) k k-end) modifier-end

  pub ctrl_is : get_or s at 0 ≡ 0 → ControlIs GateModifier.Ctrl
  unfolding control_of
  ctrl_is b = control_is (inl b)

  pub neg_ctrl_is : get_or s at 0 ≡ 1 → ControlIs GateModifier.NegCtrl
  unfolding control_of
  neg_ctrl_is b = control_is (inr b)

  -- `inv`
  module _ (b : get_or s at 0 ≡ 2) where
    pub inv_is : modifier t s at ≡ ok (GateModifier.Inv (span_at s (at + 1))) (at + 9)
    unfolding inv
    inv_is = ends _ (known _ _ (at + 9) (span_is s (at + 1)) (omega arith) (modifier-goes 2 b))

    pub inv-inside : at + 9 ≤ length s
    inv-inside = end_in inv_is modifier-end

  -- `pow`
  module _ (b : get_or s at 0 ≡ 3) where
    pow-goes : Goes (modifier t s at) (one (held t) GateModifier.Pow) s (at + 1)
    unfolding pow
    pow-goes = modifier-goes 3 b

    pub pow_exponent : IsOk (held t s (at + 1))
    pow_exponent = field _ _ pow-goes

    module _ (k : ℕ) (k-end : k ≡ next_of (held t s (at + 1))) where
      pub pow_is : modifier t s at ≡ ok (GateModifier.Pow (value_or blank (held t s (at + 1))) (span_at s k)) (k + 8)
      pow_is = spanned_is _ (past _ _ blank k k-end pow-goes)

      pub pow-inside : k + 8 ≤ length s
      pow-inside = end_in pow_is modifier-end
