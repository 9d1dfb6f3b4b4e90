-- Statements that leave the scratch as it is: what each way out shows. Assumes nothing.
use Prim.Native.Nat.{ℕ, ◌+◌, ◌-◌}
use mathlib.Core.Path.{◌≡◌, refl, sym, ap}
use mathlib.Core.List.{List, []}
use lib.ListN.{get_or}
use Rattle.span.specs.declared.Span.{Span}
use Rattle.ast.specs.Tree.{Text, Stmt}
use Rattle.tree.specs.Ans.{Ans, ok, IsOk}
use Rattle.tree.specs.Read.{vec}
use Rattle.tree.specs.Stmts.{held, operand, stmt}
use Rattle.tree.specs.Decode.{texts_of}
use Rattle.sema.specs.Messages.{Diagnostic, a_qubit}
use Rattle.sema.specs.Messages
use Rattle.sema.specs.Symbols.{after}
use Rattle.sema.specs.Marks.{Key, Marks, effect, apply, mark, clear_measured}
use Rattle.sema.specs.Operands.{check_operand, use_operands}
use Rattle.sema.specs.Exprs.{require_numeric}
use Rattle.sema.specs.Stmts.{analyze_stmt}
use Rattle.context.specs.declared.Sink.{Sink}
use Rattle.context.specs.declared.After.{After}
use Rattle.context.specs.View.{Placed, scopes_of, gates_of, functions_of, marks_of, span_at, context_of}
use Rattle.context.specs.Values.{operand_of}
use Rattle.context.specs.declared.GateOperand.{GateOperand as Operand}
use Rattle.context.specs.declared.State.{State}
use Rattle.accepted.specs.Cases.{blank, blank_operand}
use Rattle.accepted.specs.Parts.{value_or, given_ok, next_is, value_is}
use Rattle.accepted.specs.Stmts as of
use Rattle.promises.specs.Emitted.{Emitted, emitted-none, emitted_as, emitted_then}
use Rattle.promises.specs.Typings.{SaidOf}
use Rattle.promises.specs.Walks.{state_of, Ready, StmtWalked}
use Rattle.promises.specs.WalkLaws.{same-walked}

-- what was said of a value that was read
pub said_ok : {A : Type 0} {t : List Text} {says : A → List Diagnostic} {x : Ans A} {s : Sink} {o : List ℕ} {r : After} {o' : List ℕ} (d : A) → IsOk x → SaidOf t says x s o r o' → Emitted t (says (value_or d x)) s o r.sink o'
said_ok {says = says} {x = x} d h p = emitted_as p.emitted (given_ok d [] says x h)

-- the context with other marks
pub context_by : (tree : List ℕ) (ks : List Key) (sheet : List ℕ) {m : Marks} (s : List ℕ) (depth : ℕ) → marks_of tree ks sheet ≡ m → context_of tree ks s depth sheet ≡ record { symbols = scopes_of s depth; gates = gates_of s; functions = functions_of s; measured = m }
context_by tree ks sheet s depth e = ap (λ (m : Marks). record { symbols = scopes_of s depth; gates = gates_of s; functions = functions_of s; measured = m }) e

module _ (tree : List ℕ) (ks : List Key) (left : ℕ) (st : State) (h : IsOk (stmt (texts_of tree) left tree st.at)) where
  pub include-walked : {s o : List ℕ} → Ready tree s st → get_or tree st.at 0 ≡ 0 → StmtWalked tree ks left st s o (state_of (st.at + 11) st.sink st.marks) s o
  unfolding analyze_stmt after effect apply mark
  include-walked ready b =
      same-walked tree ks left st (of.include_is (texts_of tree) left tree st.at h b) ready refl refl emitted-none ready.placed

  pub barrier-walked : {s o : List ℕ} → Ready tree s st → get_or tree st.at 0 ≡ 10 → (a : After) {o' : List ℕ}
      → SaidOf (texts_of tree) (use_operands (scopes_of s (9 - left)) (marks_of tree ks st.marks) (span_at tree a.next)) (vec (operand (texts_of tree)) tree (st.at + 1)) st.sink o a o'
      → StmtWalked tree ks left st s o (state_of (a.next + 8) a.sink st.marks) s o'
  unfolding analyze_stmt after effect apply mark
  barrier-walked ready b a p =
      same-walked tree ks left st (of.barrier_is (texts_of tree) left tree st.at h b a.next p.next) ready refl refl
      (said_ok [] (of.barrier_targets (texts_of tree) left tree st.at h b) p) ready.placed

  pub delay-walked : {s o : List ℕ} → Ready tree s st → get_or tree st.at 0 ≡ 11 → (a : After) {q : List ℕ}
      → SaidOf (texts_of tree) (λ e. require_numeric (scopes_of s (9 - left)) (functions_of s) e Messages.delay_numeric) (held (texts_of tree) tree (st.at + 1)) st.sink o a q
      → (r : After) {o' : List ℕ}
      → SaidOf (texts_of tree) (use_operands (scopes_of s (9 - left)) (marks_of tree ks st.marks) (span_at tree r.next)) (vec (operand (texts_of tree)) tree a.next) a.sink q r o'
      → StmtWalked tree ks left st s o (state_of (r.next + 8) r.sink st.marks) s o'
  unfolding analyze_stmt after effect apply mark
  delay-walked ready b a d r p =
      same-walked tree ks left st (of.delay_is (texts_of tree) left tree st.at h b a.next d.next r.next p.next) ready refl refl
      (emitted_then (said_ok blank (of.delay_duration (texts_of tree) left tree st.at h b) d) (said_ok [] (of.delay_targets (texts_of tree) left tree st.at h b a.next d.next) p))
      ready.placed

  -- the operand of a reset as it was read
  module _ (b : get_or tree st.at 0 ≡ 9) (op : Operand) (k : ℕ) (e : operand (texts_of tree) tree (st.at + 1) ≡ ok (operand_of op) k) where
    reset-read : stmt (texts_of tree) left tree st.at ≡ ok (Stmt.Reset st.at (operand_of op) (span_at tree k)) (k + 8)
    reset-read = rw (value_is e blank_operand) at (of.reset_is (texts_of tree) left tree st.at h b k (sym (next_is e)))

    pub reset-walked : {s o : List ℕ} → Ready tree s st → {r : Sink} {o' : List ℕ} → Emitted (texts_of tree) (check_operand (scopes_of s (9 - left)) (operand_of op) a_qubit) st.sink o r o'
        → (sheet : List ℕ) → ((sp : Span) → marks_of tree ks sheet ≡ apply (clear_measured (operand_of op)) sp (marks_of tree ks st.marks))
        → Placed tree sheet → StmtWalked tree ks left st s o (state_of (k + 8) r sheet) s o'
    unfolding analyze_stmt after effect
    reset-walked {s} ready p sheet m q =
        same-walked tree ks left st reset-read ready refl (context_by tree ks sheet s (9 - left) (m (span_at tree k))) p q
