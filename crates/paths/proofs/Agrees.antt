-- The analysis of a part of a tree agrees with the paths of that part: the laws for each form that a part has. Assumes nothing.
use mathlib.Core.Path.{◌≡◌, subst₂}
use mathlib.Core.List.{List, [], ◌∷◌, ◌++◌, append-nil}
use Prim.Native.Nat.{ℕ, suc, ◌≤◌, ◌<◌}
use native.Mathlib.Omega.{arith}
use Rattle.span.specs.declared.Span.{Span}
use Rattle.ast.specs.Tree.{GateOperand, Stmt}
use Rattle.sema.specs.Messages.{Diagnostic}
use Rattle.sema.specs.Symbols.{Symbols}
use Rattle.sema.specs.Marks.{Marks, effect, apply, unite, after_loop}
use Rattle.sema.specs.Operands.{use_operands}
use Rattle.paths.specs.Steps.{Step, step, State, next, run, Reaches, either, turns}
use Rattle.paths.specs.Places.{Place, listed}
use Rattle.paths.specs.Errors.{use_lines, Errs, Lists, done}
use Rattle.paths.proofs.Ranges.{reaches_in}
use Rattle.paths.proofs.Reach.{seq-left, seq-right, fork_left, fork_right, behind}
use Rattle.paths.proofs.Standing.{Sound, sound_nil, sound_alone, sound_head, sound_seq, United, united_turned, sound_fork}
use Rattle.paths.proofs.Part.{Part, part-nil}
use Rattle.paths.proofs.Lists.{lists_append, move}
use Rattle.paths.proofs.Uses.{uses_ok}
use Rattle.paths.proofs.Silent.{Silent, use_lines-append}

-- The paths π of a part take the marks M to the marks M', and ds has the errors of its places qs, however a path comes to the part: the
-- paths i come with the marks st i, and M are the marks of all of them.
pub record Agrees {C : Type 0} (π : C → List Step) (qs : List Place) (M M' : Marks) (ds : List Diagnostic) : Type 1 where
  pub exit : {I : Type 0} (st : I → State) → I → Sound M st → Sound M' (λ (j : I × C). run (st j.0) (π j.1))
  pub errors : {I : Type 0} (st : I → State) → I → Sound M st → Lists (Errs {J = I × C} (λ j. st j.0) (λ j. π j.1)) qs (use_lines ds)

-- ── No statement, one statement ──

pub agrees_nil : {M : Marks} → Agrees {C = Unit {0}} (λ c. []) [] M M []
agrees_nil {M} = record { exit = λ st i S. sound_nil M st S; errors = λ st i S. done }

module _ (s : Stmt) (ss : Symbols) (n : ℕ) (sp : Span) (M : Marks) where
  -- one that uses no operand
  pub agrees_alone : {ds : List Diagnostic} → Silent ds → Agrees {C = Unit {0}} (λ c. step ss n s ∷ []) [] M (apply (effect ss s) sp M) ds
  agrees_alone p = record { exit = λ st i S. sound_alone s ss n sp M st i S; errors = λ st i S. rw p.none-counted done }

  pub agrees_uses : (ops : List GateOperand)
      → Agrees {C = Unit {0}} (λ c. step ss n s ∷ []) (listed n ss sp 0 ops) M (apply (effect ss s) sp M) (use_operands ss M sp ops)
  agrees_uses ops = record { exit = λ st i S. sound_alone s ss n sp M st i S; errors = λ st i S. uses_ok M st S (step ss n s) ss sp 0 ops }

-- what else is said, before and after
module _ {C : Type 0} {π : C → List Step} {qs : List Place} {M M' : Marks} where
  pub agrees_said : {ds es : List Diagnostic} → Silent ds → Agrees π qs M M' es → Agrees π qs M M' (ds ++ es)
  agrees_said p a = record { exit = λ st i S. a.exit st i S; errors = λ st i S. rw (use_lines-append, p.none-counted) (a.errors st i S) }

  pub agrees_then : {ds es : List Diagnostic} → Silent es → Agrees π qs M M' ds → Agrees π qs M M' (ds ++ es)
  agrees_then p a = record { exit = λ st i S. a.exit st i S; errors = λ st i S. rw (use_lines-append, p.none-counted, append-nil) (a.errors st i S) }

-- ── Behind a statement that leaves the marks as they are ──

module _ {C : Type 0} {π : C → List Step} {qs : List Place} {hi : ℕ} (h : Step) (silent : (m : State) → next m h ≡ m) (p : Part π qs (suc h.number) hi) where
  pub agrees_head : {M M' : Marks} {ds : List Diagnostic} → Agrees π qs M M' ds → Agrees (λ c. h ∷ π c) qs M M' ds
  agrees_head {M} {M'} a =
      record {
        exit = λ st i S. sound_head M' (λ j. st j.0) h silent (λ j. π j.1) (a.exit st i S);
        errors = λ st i S.
            move _ _ _ _ (λ b lo up P. behind (λ j. st j.0) h silent (λ j. π j.1) b (omega arith) P) p.within (a.errors st i S);
      }

-- ── Two parts, numbered one after the other ──

module _ {C D : Type 0} {π : C → List Step} {ρ : D → List Step} {ps qs : List Place} {lo mid hi : ℕ} (p : Part π ps lo mid) (q : Part ρ qs mid hi) where
  not_first : (x : ℕ) (P : State → Type 0) → mid ≤ x → (m : State) (c : C) → Reaches P m (π c) x → ⊥
  not_first x P h m c w = let e = reaches_in P m x (p.numbers c) w in omega arith

  not_second : (x : ℕ) (P : State → Type 0) → x < mid → (m : State) (d : D) → Reaches P m (ρ d) x → ⊥
  not_second x P h m d w = let e = reaches_in P m x (q.numbers d) w in omega arith

  -- one of the two
  pub agrees_fork : {M M₁ M₂ M' : Marks} {ds es : List Diagnostic} → United M₁ M₂ M' → Agrees π ps M M₁ ds → Agrees ρ qs M M₂ es
      → Agrees (either π ρ) (ps ++ qs) M M' (ds ++ es)
  agrees_fork {M} {M₁} {M₂} {M'} u a b =
      record {
        exit = λ st i S. sound_fork M₁ M₂ M' st π ρ u (a.exit st i S) (b.exit st i S);
        errors = λ st i S.
            rw use_lines-append (lists_append
            (move _ _ _ _ (λ x l r P. fork_left st π ρ x P (not_second x P r)) p.within (a.errors st i S))
            (move _ _ _ _ (λ x l r P. fork_right st π ρ x P (not_first x P l)) q.within (b.errors st i S)));
      }

  -- one and then the other
  pub agrees_seq : {M M₁ M₂ : Marks} {ds es : List Diagnostic} → Agrees π ps M M₁ ds → Agrees ρ qs M₁ M₂ es
      → Agrees {C = C × D} (λ c. π c.0 ++ ρ c.1) (ps ++ qs) M M₂ (ds ++ es)
  agrees_seq {M} {M₁} {M₂} a b =
      record {
        exit = λ st i S. sound_seq M₂ st π ρ (b.exit (λ j. run (st j.0) (π j.1)) (i, p.any) (a.exit st i S));
        errors = λ st i S.
            rw use_lines-append (lists_append
            (move _ _ _ _ (λ x l r P. seq-left st π ρ x P q.any (not_second x P r)) p.within (a.errors st i S))
            (move _ _ _ _ (λ x l r P. seq-right st π ρ x P (not_first x P l)) q.within
            (b.errors (λ j. run (st j.0) (π j.1)) (i, p.any) (a.exit st i S))));
      }

-- ── A loop's body ──

pub agrees_turns : {C : Type 0} {π : C → List Step} {qs : List Place} {lo hi : ℕ} → Part π qs lo hi → {M M' : Marks} {ds : List Diagnostic}
    → Agrees π qs M M' ds → Agrees (turns π) qs M (after_loop M M') ds
unfolding after_loop
agrees_turns {C} {π} {qs} {lo} {hi} p {M} {M'} {ds} a =
    subst₂ (λ (r : List Place) (es : List Diagnostic). Agrees (turns π) r M (unite M M') es) (append-nil qs) (append-nil ds)
    (agrees_fork p (part-nil hi) (united_turned M M') a agrees_nil)
