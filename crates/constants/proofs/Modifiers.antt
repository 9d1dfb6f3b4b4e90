-- The control total along a Vec of modifiers. Assumes nothing.
use Prim.Native.Nat.{ℕ, ◌+◌, ◌-◌, ◌≤◌, ◌<◌}
use mathlib.Core.Path.{◌≡◌, refl, sym, ap, ◌∙◌}
use mathlib.Core.List.{List, [], ◌∷◌}
use mathlib.Core.Option.{Option, none}
use mathlib.Core.Logic.{⊎_elim}
use native.Mathlib.Omega.{arith}
use lib.ListN.{length, get_or}
use Rattle.std.specs.Prelude.{Some}
use Rattle.std.specs.Prelude as rust
use Rattle.ast.specs.Tree.{Text, Expr, GateModifier}
use Rattle.tree.specs.Ans.{IsOk, next_of, given}
use Rattle.tree.specs.Read.{option, repeat, vec}
use Rattle.tree.specs.Stmts.{held, modifier}
use Rattle.sema.specs.Constants.{and_then, as_count, count_of, add_controls, modifier_control_count}
use Rattle.accepted.specs.Cases.{one_of_two, blank, blank_modifier}
use Rattle.accepted.specs.Parts.{value_or, next_is, value_is, given_ok, given_is}
use Rattle.accepted.specs.Fields.{option-none, option-some, option-held, counted_is, repeat-none, repeat-first, repeat_is}
use Rattle.accepted.specs.Remains.{Remains, remains-start, remains-more, remains-end}
use Rattle.accepted.specs.Operands as of
use Rattle.int128.specs.declared.Int128.{Int128}
use Rattle.context.specs.declared.Past.{Past}
use Rattle.constants.specs.Views.{whole_of, total_of, added, ValueOf, Counted, Added, TotalOf}
use Rattle.constants.specs.Laws.{value_of}

-- a control
module _ (t : List Text) (s : List ℕ) (at : ℕ) (h : IsOk (modifier t s at)) (l : get_or s at 0 < 2) where
  pub control_count_lem : IsOk (option (held t) s (at + 1))
  control_count_lem = of.control_count_lem t s at h (λ e. omega arith) (λ e. omega arith)

  pub control-inside : (k : ℕ) → k ≡ next_of (option (held t) s (at + 1)) → k + 8 ≤ length s
  control-inside = of.control-inside t s at h (λ e. omega arith) (λ e. omega arith)

module _ (t : List Text) (s : List ℕ) (at : ℕ) (before : rust.Option ℕ) where
  -- the count of a control
  abbrev with_count : Option Expr → Option ℕ
  with_count arg = added (total_of before) (count_of arg)

  module _ (h : IsOk (option (held t) s at)) where
    pub counted-one : get_or s at 0 ≡ 0 → (r : rust.Option ℕ) → total_of r ≡ added (total_of before) (total_of (Some 1)) → Counted before (option (held t) s at) (record { value = r; next = at + 1 })
    unfolding total_of count_of
    counted-one z r f =
        let is = option-none s at (held t) h z in
        record { next = sym (next_is is); total = f ∙ sym (given_is is none with_count) }

    pub counted-more : (get_or s at 0 ≡ 0 → ⊥) → (e : Past (rust.Option Int128)) → ValueOf (held t s (at + 1)) e → (u : rust.Option ℕ) → total_of u ≡ and_then (whole_of e.value) as_count → (r : rust.Option ℕ) → total_of r ≡ added (total_of before) (total_of u) → Counted before (option (held t) s at) (record { value = r; next = e.next })
    unfolding count_of
    counted-more z e p u g r f =
        let is = option-some s at (held t) h blank _ p.next z in
        let count = g ∙ ap (λ o. and_then o as_count) (value_of _ e (option-held s at (held t) h z) p) in
        record { next = sym (next_is is); total = f ∙ ap (added (total_of before)) count ∙ sym (given_is is none with_count) }

  -- one modifier
  abbrev with_modifier : GateModifier → Option ℕ
  with_modifier m = add_controls (total_of before) (m ∷ [])

  module _ (h : IsOk (modifier t s at)) where
    -- `inv` and `pow` add none
    pub added_none : 2 ≤ get_or s at 0 → (k : ℕ) → k ≡ next_of (modifier t s at) → Added before (modifier t s at) (record { value = before; next = k })
    unfolding add_controls
    added_none l k e = ⊎_elim
        (λ b. record { next = e; total = sym (given_is (of.inv_is t s at h b) none with_modifier) })
        (λ b. record { next = e; total = sym (given_is (of.pow_is t s at h b _ refl) none with_modifier) })
        (one_of_two (get_or s at 0) 2 l (of.modifier-below t s at h))

    module _ (l : get_or s at 0 < 2) (c : Past (rust.Option ℕ)) (p : Counted before (option (held t) s (at + 1)) c) where
      pub added-control : Added before (modifier t s at) (record { value = c.value; next = c.next + 8 })
      unfolding add_controls added
      added-control =
          let sum = p.total ∙ given_ok none none with_count _ (control_count_lem t s at h l) in
          ⊎_elim
          (λ b. let is = of.ctrl_is t s at h b _ p.next in record { next = sym (next_is is); total = sum ∙ sym (given_is is none with_modifier) })
          (λ b. let is = of.neg_ctrl_is t s at h b _ p.next in record { next = sym (next_is is); total = sum ∙ sym (given_is is none with_modifier) })
          (of.control t s at h (λ e. omega arith) (λ e. omega arith))

-- one modifier, and those behind it
add_step : (o : Option ℕ) (m : GateModifier) (ms : List GateModifier) → add_controls o (m ∷ ms) ≡ add_controls (add_controls o (m ∷ [])) ms
unfolding add_controls
add_step o (GateModifier.Ctrl arg sp) ms = refl
add_step o (GateModifier.NegCtrl arg sp) ms = refl
add_step o (GateModifier.Inv sp) ms = refl
add_step o (GateModifier.Pow e sp) ms = refl

-- n modifiers from k on remain, and added to `total` they give the total of the whole Vec
pub record Sums (t : List Text) (s : List ℕ) (at n k : ℕ) (total : rust.Option ℕ) : Type 0 where
  pub remains : Remains [] ◌∷◌ (modifier t) s (next_of (vec (modifier t) s at)) n k
  pub sum : given none modifier_control_count (vec (modifier t) s at) ≡ add_controls (total_of total) (value_or [] (repeat [] ◌∷◌ (modifier t) n s k))

module _ (t : List Text) (s : List ℕ) (at : ℕ) where
  pub sums_start : (n : ℕ) → IsOk (vec (modifier t) s at) → n ≡ get_or s at 0 → Sums t s at n (at + 1) (Some 0)
  unfolding total_of modifier_control_count
  sums_start n h e = record {
    remains = remains-start [] ◌∷◌ (modifier t) s at n h e;
    sum = given_ok [] none modifier_control_count (vec (modifier t) s at) h ∙ rw (e, ← counted_is s at [] ◌∷◌ (modifier t) h);
  }

  module _ (n k : ℕ) (total : rust.Option ℕ) (r : Sums t s at n k total) where
    pub sums_first : 0 < n → IsOk (modifier t s k)
    sums_first l = repeat-first s k [] ◌∷◌ (modifier t) n r.remains.rest l

    pub sums_more : (m : ℕ) → n ≡ m + 1 → (c : Past (rust.Option ℕ)) → Added total (modifier t s k) c → Sums t s at m c.next c.value
    sums_more m g c p =
        let l : 0 < n = omega arith in
        let d : n - 1 ≡ m = omega arith in
        let all = value_is (repeat_is s k [] ◌∷◌ (modifier t) n r.remains.rest l _ p.next blank_modifier) [] in
        let first = p.total ∙ given_ok blank_modifier none (with_modifier t s at total) (modifier t s k) (sums_first l) in
        rw (← d)
        (record {
          remains = remains-more r.remains l p.next;
          sum = r.sum ∙ ap (add_controls (total_of total)) all ∙ add_step _ _ _ ∙ ap (λ o. add_controls o (value_or [] (repeat [] ◌∷◌ (modifier t) (n - 1) s c.next))) (sym first);
        })

    pub sums_end : n ≤ 0 → TotalOf (vec (modifier t) s at) (record { value = total; next = k })
    unfolding add_controls
    sums_end l = record {
      next = remains-end r.remains l;
      total = sym (r.sum ∙ ap (add_controls (total_of total)) (value_is (repeat-none s k [] ◌∷◌ (modifier t) n l) []));
    }
