-- The statements that hold a body, gate definitions, `if`s and loops: where the body stands, and where the statement ends. Assumes nothing.
use Rattle.std.specs.Prelude.{ℕ, ◌+◌, ◌-◌, ◌≤◌, ◌≡◌, refl, cond, List, ◌⊎◌, length, get_or, eqb}
use Rattle.std.proofs.Common.{sym, subst, ◌∙◌, ⊎_elim, arith}
use borrow.Author.Tests.{eq-eqb, ne_eqb}
use Rattle.ast.specs.Tree.{Text}
use Rattle.tree.specs.Ans.{IsOk, next_of}
use Rattle.tree.specs.Read.{vec}
use Rattle.tree.specs.Exprs.{name}
use Rattle.tree.specs.Stmts.{body, else_body, held, for_range, stmt}
use Rattle.accepted.specs.Cases.{is_or_not}
use Rattle.accepted.specs.Parts.{next_is}
use Rattle.accepted.specs.Bodies.{stmt-below, stmt-end}
use Rattle.accepted.specs.Stmts.{gate_def-body, gate_def_is, branch-condition, branch-body, branch_else, branch_is, for_loop-body, for_loop_is, while_loop-condition, while_loop-body, while_loop_is}

-- by the case byte
abbrev pub Compound : ℕ → Type 0
Compound c = (c ≡ 6) ⊎ (12 ≤ c)

-- the place of the body: behind two Vecs of names, a range or a condition
unfoldable pub body_place : List Text → List ℕ → ℕ → ℕ
body_place t s at =
    cond (eqb (get_or s at 0) 6) (next_of (vec (name t) s (next_of (vec (name t) s (at + 3)))))
    (cond (eqb (get_or s at 0) 13) (next_of (for_range t s (at + 4))) (next_of (held t s (at + 1))))

module _ (t : List Text) (s : List ℕ) (at : ℕ) where
  pub gate_place : get_or s at 0 ≡ 6 → (k : ℕ) → k ≡ next_of (vec (name t) s (at + 3)) → (m : ℕ) → m ≡ next_of (vec (name t) s k) → m ≡ body_place t s at
  unfolding body_place
  gate_place b k e m f = rw (f, e, eq-eqb (get_or s at 0) 6 b)

  pub for_place : get_or s at 0 ≡ 13 → (k : ℕ) → k ≡ next_of (for_range t s (at + 4)) → k ≡ body_place t s at
  unfolding body_place
  for_place b k e = rw (e, b)

  pub condition-place : (get_or s at 0 ≡ 6 → ⊥) → (get_or s at 0 ≡ 13 → ⊥) → (k : ℕ) → k ≡ next_of (held t s (at + 1)) → k ≡ body_place t s at
  unfolding body_place
  condition-place m n k e = rw (e, ne_eqb (get_or s at 0) 6 m, ne_eqb (get_or s at 0) 13 n)

module _ (t : List Text) (left : ℕ) (s : List ℕ) (at : ℕ) (h : IsOk (stmt t left s at)) where
  -- what is known of the four of them alike, with the body at a place
  record Holds (place : ℕ) : Type 0 where
    condition : (get_or s at 0 ≡ 6 → ⊥) → (get_or s at 0 ≡ 13 → ⊥) → IsOk (held t s (at + 1))
    inside : IsOk (body (stmt t (left - 1)) s place)
    next : (get_or s at 0 ≡ 12 → ⊥) → (m : ℕ) → m ≡ next_of (body (stmt t (left - 1)) s place) → m + 8 ≡ next_of (stmt t left s at)

  gate-holds : get_or s at 0 ≡ 6 → Holds (body_place t s at)
  gate-holds b = subst Holds (gate_place t s at b _ refl _ refl) (record {
    condition = λ n. absurd (n b);
    inside = gate_def-body t left s at h b _ refl _ refl;
    next = λ n m e. sym (next_is (gate_def_is t left s at h b _ refl _ refl m e));
  })

  for_holds : get_or s at 0 ≡ 13 → Holds (body_place t s at)
  for_holds b = subst Holds (for_place t s at b _ refl) (record {
    condition = λ n o. absurd (o b);
    inside = for_loop-body t left s at h b _ refl;
    next = λ n m e. sym (next_is (for_loop_is t left s at h b _ refl m e));
  })

  if-holds : get_or s at 0 ≡ 12 → Holds (next_of (held t s (at + 1)))
  if-holds b = record {
    condition = λ n o. branch-condition t left s at h b;
    inside = branch-body t left s at h b _ refl;
    next = λ n. absurd (n b);
  }

  while-holds : get_or s at 0 ≡ 14 → Holds (next_of (held t s (at + 1)))
  while-holds b = record {
    condition = λ n o. while_loop-condition t left s at h b;
    inside = while_loop-body t left s at h b _ refl;
    next = λ n m e. sym (next_is (while_loop_is t left s at h b _ refl m e));
  }

  module _ (c : Compound (get_or s at 0)) where
    holds : Holds (body_place t s at)
    holds =
        ⊎_elim gate-holds
        (λ n. ⊎_elim for_holds
        (λ o. subst Holds (condition-place t s at n o _ refl) (⊎_elim if-holds (λ p. while-holds (last n o p)) (is_or_not (get_or s at 0) 12)))
        (is_or_not (get_or s at 0) 13))
        (is_or_not (get_or s at 0) 6)
      where
        last : (get_or s at 0 ≡ 6 → ⊥) → (get_or s at 0 ≡ 13 → ⊥) → (get_or s at 0 ≡ 12 → ⊥) → get_or s at 0 ≡ 14
        last n o p = let u = stmt-below t left s at h in ⊎_elim (λ b. absurd (n b)) (λ l. omega arith) c

    pub compound-condition : (get_or s at 0 ≡ 6 → ⊥) → (get_or s at 0 ≡ 13 → ⊥) → IsOk (held t s (at + 1))
    compound-condition = holds.condition

    module _ (k : ℕ) (k-end : k ≡ body_place t s at) where
      pub compound-body : IsOk (body (stmt t (left - 1)) s k)
      compound-body = rw k-end holds.inside

      module _ (m : ℕ) (m-end : m ≡ next_of (body (stmt t (left - 1)) s k)) where
        -- behind the body the span, but for an `if`
        pub compound-next : (get_or s at 0 ≡ 12 → ⊥) → m + 8 ≡ next_of (stmt t left s at)
        compound-next n = holds.next n m (rw k-end at m-end)

        pub compound-inside : (get_or s at 0 ≡ 12 → ⊥) → m + 8 ≤ length s
        compound-inside n = let e = compound-next n in let l = stmt-end t left s at h in omega arith

        -- an `if`: its `else`, and the span behind that
        module _ (b : get_or s at 0 ≡ 12) where
          k_is : k ≡ next_of (held t s (at + 1))
          k_is = k-end ∙ sym (condition-place t s at (λ e. omega arith) (λ e. omega arith) _ refl)

          pub compound_else : IsOk (else_body (stmt t (left - 1)) s m)
          compound_else = branch_else t left s at h b k k_is m m-end

          module _ (n : ℕ) (n-end : n ≡ next_of (else_body (stmt t (left - 1)) s m)) where
            pub if-next : n + 8 ≡ next_of (stmt t left s at)
            if-next = sym (next_is (branch_is t left s at h b k k_is m m-end n n-end))

            pub if-inside : n + 8 ≤ length s
            if-inside = let l = stmt-end t left s at h in omega (arith, if-next)
