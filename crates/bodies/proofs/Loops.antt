-- Before the body of a `for`. Assumes nothing.
use Prim.Native.Nat.{ℕ, suc, ◌+◌, ◌-◌, ◌≤◌, ◌<◌}
use mathlib.Core.Path.{◌≡◌, refl, sym, ◌∙◌}
use mathlib.Core.Bool.{false}
use mathlib.Core.List.{List, [], ◌∷◌, ◌++◌}
use mathlib.Core.Option.{none}
use lib.ListN.{length, get_or}
use denote.Enum.Bare.{sameb}
use Rattle.ast.specs.contracts.ClassicalType.{the_type}
use Rattle.span.specs.declared.Span.{Span}
use Rattle.ast.specs.Tree.{Text, Expr}
use Rattle.ast.specs.declared.ClassicalType.{ClassicalType}
use Rattle.tree.specs.Ans.{IsOk, next_of, given}
use Rattle.tree.specs.Read.{option}
use Rattle.tree.specs.Stmts.{body, stmt, held, for_range}
use Rattle.tree.specs.Decode.{texts_of}
use Rattle.sema.specs.Messages
use Rattle.sema.specs.Messages.{Diagnostic}
use Rattle.sema.specs.Symbols.{Symbols, FunctionSig, Table, loop_scope}
use Rattle.sema.specs.Exprs.{require_type}
use Rattle.sema.specs.Stmts.{step_says, range_says}
use Rattle.context.specs.declared.After.{After}
use Rattle.context.specs.declared.Sink.{Sink}
use Rattle.context.specs.declared.State.{State}
use Rattle.context.specs.View.{number_at, span_at, type_of, scopes_of, gates_of, functions_of}
use Rattle.lines.specs.declared.Message.{Message}
use Rattle.lines.specs.declared.Diagnostic.{Diagnostic as DiagnosticValue}
use Rattle.lines.specs.Values.{error_of, Reported}
use Rattle.tables.specs.Tables.{Becomes}
use Rattle.accepted.specs.Cases.{blank, blank_range}
use Rattle.accepted.specs.Parts.{given_ok, given_is}
use Rattle.accepted.specs.Fields.{option_in, option-none, option-some, option-held}
use Rattle.accepted.specs.Exprs.{expr_in}
use Rattle.accepted.specs.Operands.{for_range-start, for_range-end, for_range-step, for_range_is}
use Rattle.accepted.specs.Bodies.{stmt_in, stmt-left}
use Rattle.accepted.specs.Stmts.{for_loop-named, for_loop_range, for_loop-body, for_loop-inside, branch-condition, while_loop-condition}
use Rattle.promises.specs.Emitted.{Emitted, error-fits, emitted-none, emitted_then, emitted_as, emitted_report}
use Rattle.promises.specs.Typings.{SaidOf, plain_context}
use Rattle.bodies.specs.declared.for_loops.ForParts.{ForParts}
use Rattle.bodies.specs.Opened.{for_body, ForOpened}
use Rattle.bodies.specs.Parts.{ForPartsOf, variable_says, bounds_say}

-- the parts as they are read
pub parts_of : (tree : List ℕ) (left at x m n : ℕ) (ty : ClassicalType) (sp : Span) → IsOk (stmt (texts_of tree) left tree at) → get_or tree at 0 ≡ 13 → x ≡ number_at 2 tree (at + 1) → ty ≡ type_of (get_or tree (at + 3) 0) → m ≡ for_body tree left at → n ≡ next_of (body (stmt (texts_of tree) (left - 1)) tree m) → sp ≡ span_at tree n → ForPartsOf tree left at (record { name = x; ty = ty; body_at = m; span = sp })
parts_of tree left at x m n ty sp h b x-is ty-is m-is n-is sp-is = record {
  name_is = x-is;
  named = rw x-is (for_loop-named (texts_of tree) left tree at h b).below;
  type_is = ty-is;
  body_is = m-is;
  span_is = cc;
}

-- what is said of a variable that is no int
pub variable_other : {t : List Text} {s : Sink} {o : List ℕ} {r : Sink} {o' : List ℕ} {d : DiagnosticValue} (ty : ClassicalType) (sp : Span) → false ≡ sameb the_type ty ClassicalType.Int → d ≡ error_of Message.ForVariable sp → Reported t d s o r o' → Emitted t (variable_says ty sp) s o r o'
variable_other ClassicalType.Int sp e d p = absurd cc
variable_other ClassicalType.UInt sp e d p = emitted_report d p
variable_other ClassicalType.Float sp e d p = emitted_report d p
variable_other ClassicalType.Angle sp e d p = emitted_report d p
variable_other ClassicalType.Bool sp e d p = emitted_report d p

module _ (ss : Symbols) (fs : Table FunctionSig) (t : List Text) (s : List ℕ) (at : ℕ) where
  abbrev must_be_int : Messages.Context → Expr → List Diagnostic
  must_be_int place e = require_type ss fs e ClassicalType.Int place

  -- the step
  module _ (h : IsOk (option (held t) s at)) {sink : Sink} {o : List ℕ} where
    pub step-none : get_or s at 0 ≡ 0 → Emitted t (given [] (step_says (plain_context ss fs)) (option (held t) s at)) sink o sink o
    unfolding step_says
    step-none z = emitted_as emitted-none (sym (given_is (option-none s at (held t) h z) [] (step_says (plain_context ss fs))))

    pub step-some : {o' : List ℕ} {a : After} → (get_or s at 0 ≡ 0 → ⊥) → SaidOf t (must_be_int Messages.range_step) (held t s (at + 1)) sink o a o' → Emitted t (given [] (step_says (plain_context ss fs)) (option (held t) s at)) sink o a.sink o'
    unfolding step_says
    step-some z p =
        emitted_as p.emitted
        (given_ok blank [] (must_be_int Messages.range_step) (held t s (at + 1)) (option-held s at (held t) h z)
        ∙ sym (given_is (option-some s at (held t) h blank _ p.next z) [] (step_says (plain_context ss fs))))

  -- the bounds, and the step behind them
  module _ (h : IsOk (for_range t s at)) where
    bounds_say_lem : (k m : ℕ) → k ≡ next_of (held t s at) → m ≡ next_of (held t s k) → given [] (must_be_int Messages.range_bound) (held t s at) ++ (given [] (must_be_int Messages.range_bound) (held t s k) ++ given [] (step_says (plain_context ss fs)) (option (held t) s m)) ≡ given [] (bounds_say (plain_context ss fs)) (for_range t s at)
    bounds_say_lem k m k-end m-end =
        rw (
          given_ok blank [] (must_be_int Messages.range_bound) (held t s at) (for_range-start t s at h),
          given_ok blank [] (must_be_int Messages.range_bound) (held t s k) (for_range-end t s at h k k-end),
          given_ok none [] (step_says (plain_context ss fs)) (option (held t) s m) (for_range-step t s at h k k-end m m-end),
        )
        (sym (given_is (for_range_is t s at h k k-end m m-end _ refl) [] (bounds_say (plain_context ss fs))))

    pub range_said : {sink r : Sink} {o o₁ o₂ o' : List ℕ} {a b : After} → SaidOf t (must_be_int Messages.range_bound) (held t s at) sink o a o₁ → SaidOf t (must_be_int Messages.range_bound) (held t s a.next) a.sink o₁ b o₂ → Emitted t (given [] (step_says (plain_context ss fs)) (option (held t) s b.next)) b.sink o₂ r o' → Emitted t (given [] (bounds_say (plain_context ss fs)) (for_range t s at)) sink o r o'
    range_said p q e = emitted_as (emitted_then p.emitted (emitted_then q.emitted e)) (bounds_say_lem _ _ p.next q.next)

    -- all that is said before the body
    pub range_says_lem : (ty : ClassicalType) (sp : Span) → variable_says ty sp ++ given [] (bounds_say (plain_context ss fs)) (for_range t s at) ≡ given [] (λ range. range_says (plain_context ss fs) ty range sp) (for_range t s at)
    unfolding range_says
    range_says_lem ty sp =
        rw (
          given_ok blank_range [] (bounds_say (plain_context ss fs)) (for_range t s at) h,
          given_ok blank_range [] (λ range. range_says (plain_context ss fs) ty range sp) (for_range t s at) h,
        )

pub for_opened : (tree : List ℕ) (left : ℕ) (st : State) (s o o₁ s' o' : List ℕ) (r : ForParts) (sink₁ sink : Sink) → IsOk (for_range (texts_of tree) tree (st.at + 4)) → ForPartsOf tree left st.at r → Emitted (texts_of tree) (variable_says r.ty r.span) st.sink o sink₁ o₁ → Emitted (texts_of tree) (given [] (bounds_say (plain_context (scopes_of s (9 - left)) (functions_of s))) (for_range (texts_of tree) tree (st.at + 4))) sink₁ o₁ sink o' → Becomes s s' (suc (9 - left)) (loop_scope r.name r.ty r.span ∷ scopes_of s (9 - left)) (gates_of s) (functions_of s) → ForOpened tree left st s o (record { at = r.body_at; sink = sink; keys = st.keys; marks = st.marks }) s' o'
for_opened tree left st s o o₁ s' o' r sink₁ sink h p v e b = record {
  at = p.body_is;
  keys = refl;
  marks = refl;
  emitted = rw (← p.span_is, ← p.type_is) (emitted_as (emitted_then v e) (range_says_lem (scopes_of s (9 - left)) (functions_of s) (texts_of tree) tree (st.at + 4) h r.ty r.span));
  becomes = rw (← p.span_is, ← p.type_is, ← p.name_is) b;
}

-- what is known of the parts where they are read
module _ (t : List Text) (left : ℕ) (s : List ℕ) (at : ℕ) (h : IsOk (stmt t left s at)) (b : get_or s at 0 ≡ 13) where
  pub loop-named_in : at + 3 ≤ length s
  loop-named_in = (for_loop-named t left s at h b).inside

  pub loop-range_in : at + 4 < length s
  loop-range_in = expr_in t 32 s (at + 4) (for_range-start t s (at + 4) (for_loop_range t left s at h b))

pub ruleset loops = (stmt-left, loop-named_in, loop-range_in, for_loop_range, for_loop-body, for_loop-inside)

pub ruleset conditions = (stmt_in, stmt-left, branch-condition, while_loop-condition)

pub ruleset steps = (option_in, option-held)

pub ruleset ranges = (for_range-start, for_range-end, for_range-step)

pub ruleset variables = (error-fits, emitted-none)
