-- Measure statements: what each way out shows. Assumes nothing.
use Prim.Native.Nat.{ℕ, zero, suc, ◌+◌, ◌-◌, ◌*◌, ◌≤◌, ◌<◌}
use mathlib.Core.Path.{◌≡◌, refl, sym, ap, subst, ◌∙◌}
use mathlib.Core.List.{List, []}
use mathlib.Core.Option.{Option, none, some}
use mathlib.Core.Bool.{Bool, true, false, not}
use native.Mathlib.Omega.{arith}
use lib.ListN.{length, get_or}
use borrow.Author.Tests.{leb-true}
use Rattle.span.specs.declared.Span.{Span}
use Rattle.ast.specs.Tree.{Text, TextNumber, Stmt, GateOperand}
use Rattle.tree.specs.Limits.{texts_limit}
use Rattle.tree.specs.Ans.{Ans, ok, refused, IsOk, next_of, given}
use Rattle.tree.specs.Read.{option}
use Rattle.tree.specs.Texts.{texts}
use Rattle.tree.specs.Stmts.{operand, stmt_cases, stmt}
use Rattle.tree.specs.Decode.{texts_of}
use Rattle.tree.specs.Levels.{stmt_levels}
use Rattle.sema.specs.Messages.{Diagnostic, a_qubit, a_bit, warning, already_measured}
use Rattle.sema.specs.Symbols.{Symbols, get, after}
use Rattle.sema.specs.Marks.{Key, Marks, size_of, mark_measured, effect, apply, lookup_measured}
use Rattle.sema.specs.Keys.{add_measured, keys_stmt}
use Rattle.sema.specs.Operands.{is_some, unless, check_operand}
use Rattle.sema.specs.Stmts.{SemaContext, measure_target, measure_says, analyze_stmt}
use Rattle.context.specs.declared.GateOperand.{GateOperand as Operand}
use Rattle.context.specs.declared.Sink.{Sink}
use Rattle.context.specs.declared.After.{After}
use Rattle.context.specs.declared.State.{State}
use Rattle.std.specs.Prelude.{Option as Maybe, is_some as is_present}
use Rattle.context.specs.Values.{operand_of, number_of, ends_of}
use Rattle.context.specs.View.{number_at, PlaceOk, Placed, scopes_of, marks_of, mark_by, measure_span, span_at, context_of}
use Rattle.accepted.specs.Cases.{blank_operand}
use Rattle.accepted.specs.Parts.{value_or, is_ok, given_ok, given_is, next_is, value_is, start, known, past-here, checked}
use Rattle.accepted.specs.Numbers.{one_byte, number-join}
use Rattle.accepted.specs.Fields.{number_is, option-none, option-some}
use Rattle.accepted.specs.Operands.{operand-name, operand-name_in}
use Rattle.accepted.specs.Levels.{level-goes}
use Rattle.accepted.specs.Marked.{measured-span}
use Rattle.accepted.specs.Stmts as of
use Rattle.sheet.specs.Sheet.{Covers, measuring, marked, lookup_in}
use Rattle.promises.specs.Went.{stmt_keys}
use Rattle.sheet.specs.Places.{unmarked, is_marked, lookup-marks}
use Rattle.sheet.specs.Effects.{measured_is}
use Rattle.lines.specs.declared.Message.{Message}
use Rattle.lines.specs.declared.Diagnostic.{Diagnostic as DiagnosticValue}
use Rattle.lines.specs.Values.{warning_of, Reported}
use Rattle.promises.specs.Emitted.{Emitted, emitted-none, emitted_as, emitted_then, unless_holds, unless_fails}
use Rattle.promises.specs.Typings.{SaidOf}
use Rattle.promises.specs.Walks.{state_of, Ready, StmtKeyed, StmtWalked}
use Rattle.promises.specs.WalkLaws.{same-walked}
use Rattle.operands.specs.Widths.{measure_widths, measure_target_lem}
use Rattle.operations.proofs.Simple.{said_ok, context_by}

-- a size by the symbols is the size that a measure goes by
module _ (ss : Symbols) (op : GateOperand) {size : Option ℕ} (e : size ≡ size_of (get ss op.name)) where
  measuring_by : measuring size op ≡ mark_measured ss op
  measuring_by = ap (λ n. measuring n op) e ∙ sym (measured_is ss op)

  pub covers_by : (ks : List Key) → Covers ks (mark_measured ss op) → Covers ks (measuring size op)
  covers_by ks c = rw measuring_by c

  pub marks_by : (sp : Span) (m : Marks) {n : Marks} → n ≡ apply (measuring size op) sp m → n ≡ apply (mark_measured ss op) sp m
  marks_by sp m f = rw (← measuring_by) f

-- was it measured before?
module _ (tree : List ℕ) (ks : List Key) (sheet : List ℕ) (x : TextNumber) (i : Option ℕ) (place : Maybe ℕ) (e : place ≡ marked (lookup_in ks sheet x i)) (b : Bool) (v : is_present place ≡ not b) where
  first-measured : b ≡ true → not (is_some (lookup_measured (marks_of tree ks sheet) x i)) ≡ true
  unfolding mark_by
  first-measured z = rw (← lookup-marks tree ks sheet x i, unmarked (lookup_in ks sheet x i) (ap is_present (sym e) ∙ v ∙ ap not z))

  measured-before : b ≡ false → not (is_some (lookup_measured (marks_of tree ks sheet) x i)) ≡ false
  unfolding mark_by
  measured-before z = rw (← lookup-marks tree ks sheet x i) (go (lookup_in ks sheet x i) (is_marked (lookup_in ks sheet x i) (ap is_present (sym e) ∙ v ∙ ap not z)))
    where
      go : (p : ℕ) → (p ≡ 0 → ⊥) → not (is_some (mark_by tree p)) ≡ false
      go zero z = absurd (z refl)
      go (suc p) z = refl

  module _ {t : List Text} {s : Sink} {o : List ℕ} where
    pub measured-first : (d : Diagnostic) → b ≡ true → Emitted t (unless (not (is_some (lookup_measured (marks_of tree ks sheet) x i))) d) s o s o
    measured-first d z = unless_holds _ d (first-measured z)

    pub measured-again : (op : Operand) (sp : Span) {d : DiagnosticValue} {r : Sink} {o' : List ℕ} → d ≡ warning_of (Message.AlreadyMeasured op) sp → b ≡ false → Reported t d s o r o'
        → Emitted t (unless (not (is_some (lookup_measured (marks_of tree ks sheet) x i))) (warning (already_measured (operand_of op)) sp)) s o r o'
    measured-again op sp w z p = unless_fails _ (measured-before z) (rw w at p)

-- a target
pub target_said : {t : List Text} (ss : Symbols) (qubit target : GateOperand) (sp : Span) {s : Sink} {o : List ℕ} {r : Sink} {q : List ℕ} {r' : Sink} {o' : List ℕ}
    → Emitted t (check_operand ss target a_bit) s o r q → Emitted t (measure_widths ss qubit sp target) r q r' o' → Emitted t (measure_target ss qubit sp (some target)) s o r' o'
target_said ss qubit target sp a b = emitted_as (emitted_then a b) (sym (measure_target_lem ss qubit sp target))

module _ (t : List Text) (tree : List ℕ) (at : ℕ) (h : IsOk (option (operand t) tree at)) where
  pub target_none : (ss : Symbols) (qubit : GateOperand) → get_or tree at 0 ≡ 0 → {s : Sink} {o : List ℕ}
      → SaidOf t (measure_target ss qubit (span_at tree (at + 1))) (option (operand t) tree at) s o (record { next = at + 1; sink = s }) o
  unfolding measure_target
  target_none ss qubit z =
      let is = option-none tree at (operand t) h z in
      record { next = sym (next_is is); emitted = emitted_as emitted-none (sym (given_is is [] (measure_target ss qubit (span_at tree (at + 1))))) }

  module _ (z : get_or tree at 0 ≡ 0 → ⊥) (op : Operand) (k : ℕ) (e : operand t tree (at + 1) ≡ ok (operand_of op) k) where
    option_is : option (operand t) tree at ≡ ok (some (operand_of op)) k
    option_is = rw (value_is e blank_operand) at (option-some tree at (operand t) h blank_operand k (sym (next_is e)) z)

    pub target_end : k ≡ next_of (option (operand t) tree at)
    target_end = sym (next_is option_is)

    pub target_some : (ss : Symbols) (qubit : GateOperand) {sp : Span} {s : Sink} {o : List ℕ} {r : Sink} {o' : List ℕ} → sp ≡ span_at tree k → Emitted t (measure_target ss qubit sp (some (operand_of op))) s o r o'
        → SaidOf t (measure_target ss qubit (span_at tree k)) (option (operand t) tree at) s o (record { next = k; sink = r }) o'
    target_some ss qubit f p = record {
      next = target_end;
      emitted = emitted_as p (ap (λ (v : Span). measure_target ss qubit v (some (operand_of op))) f ∙ sym (given_is option_is [] (measure_target ss qubit (span_at tree k))));
    }

-- a whole measurement
pub measure-said : (t : List Text) (c : SemaContext) (qubit : GateOperand) (tree : List ℕ) {x : Ans (Option GateOperand)} {s : Sink} {o : List ℕ} {r : Sink} {q : List ℕ} {a : After} {q' : List ℕ} {sp : Span} {r' : Sink} {o' : List ℕ}
    → IsOk x → Emitted t (check_operand c.symbols qubit a_qubit) s o r q → SaidOf t (measure_target c.symbols qubit (span_at tree a.next)) x r q a q' → sp ≡ span_at tree a.next
    → Emitted t (unless (not (is_some (lookup_measured c.measured qubit.name qubit.index))) (warning (already_measured qubit) sp)) a.sink q' r' o'
    → SaidOf t (λ target. measure_says c qubit target (span_at tree a.next)) x s o (record { next = a.next; sink = r' }) o'
unfolding measure_says
measure-said t c qubit tree {x = x} {a = a} h p b f w =
    record {
      next = b.next;
      emitted = emitted_as (emitted_then p (emitted_then (said_ok none h b) (rw f at w))) (sym (given_ok none [] (λ target. measure_says c qubit target (span_at tree a.next)) x h));
    }

-- a measure statement does not stand at the start of the file: there are no texts in a file whose first byte is 8
few-texts : (s : List ℕ) → IsOk (texts s 0) → number_at 2 s 0 ≤ texts_limit
unfolding texts
few-texts s h = leb-true (number_at 2 s 0) texts_limit (checked _ _ _ _ (known _ _ 2 (number_is s 0 2) (omega arith) (past-here _ (start h))))

no_texts : (s : List ℕ) → 2 ≤ length s → get_or s 0 0 ≡ 8 → length (texts_of s) ≡ 0
unfolding texts_of given
no_texts s l b = go (texts s 0) refl
  where
    high : number_at 2 s 0 ≡ 8 * 256 + number_at 1 s 1
    high = number-join s 0 1 1 l ∙ rw (one_byte s 0 (omega arith), b)

    go : (x : Ans (List Text)) → texts s 0 ≡ x → length (given [] (λ t. t) x) ≡ 0
    go (ok a n) e = let f = few-texts s (is_ok e) in let i = high in absurd (omega arith)
    go (refused n p) e = refl

module _ (left : ℕ) (s : List ℕ) (at : ℕ) (h : IsOk (stmt (texts_of s) left s at)) (b : get_or s at 0 ≡ 8) where
  pub measure-place : 0 < at
  measure-place = go at h b
    where
      go : (at : ℕ) → IsOk (stmt (texts_of s) left s at) → get_or s at 0 ≡ 8 → 0 < at
      go zero h b =
          let q = of.measure-qubit (texts_of s) left s 0 h b in
          let i = operand-name_in (texts_of s) s (0 + 1) q in
          let n = operand-name (texts_of s) s (0 + 1) q in
          let z = no_texts s (omega arith) b in
          absurd (omega arith)
      go (suc at) h b = omega arith

  pub place_ok : PlaceOk s at
  unfolding stmt_cases
  place_ok = go at h b
    where
      go : (at : ℕ) → IsOk (stmt (texts_of s) left s at) → get_or s at 0 ≡ 8 → PlaceOk s at
      go zero h b = tt
      go (suc at) h b = subst IsOk (level-goes (stmt_levels (texts_of s)) left s (suc at) h 8 b).is h

module _ (tree : List ℕ) (left : ℕ) (st : State) (h : IsOk (stmt (texts_of tree) left tree st.at)) (b : get_or tree st.at 0 ≡ 8) (op : Operand) (k : ℕ) (e : operand (texts_of tree) tree (st.at + 1) ≡ ok (operand_of op) k) where
  pub measure-option : IsOk (option (operand (texts_of tree)) tree k)
  measure-option = of.measure_target_lem (texts_of tree) left tree st.at h b k (sym (next_is e))

  module _ (m : ℕ) (m-end : m ≡ next_of (option (operand (texts_of tree)) tree k)) where
    measure-read : stmt (texts_of tree) left tree st.at ≡ ok (Stmt.Measure st.at (operand_of op) (value_or none (option (operand (texts_of tree)) tree k)) (span_at tree m)) (m + 8)
    measure-read = rw (value_is e blank_operand) at (of.measure_is (texts_of tree) left tree st.at h b k (sym (next_is e)) m m-end)

    pub measure_in : m + 8 ≤ length tree
    measure_in = of.measure-inside (texts_of tree) left tree st.at h b k (sym (next_is e)) m m-end

  pub measure-covers : (ks : List Key) (ss : Symbols) → StmtKeyed ks ss (stmt (texts_of tree) left tree st.at) → Covers ks (mark_measured ss (operand_of op))
  unfolding Covers
  measure-covers ks ss keyed = λ key g. keyed.each _ _ (measure-read _ refl) key g

  pub measure-walked : (ks : List Key) {s o : List ℕ} → Ready tree s st → (a : After) {o' : List ℕ}
      → SaidOf (texts_of tree) (λ target. measure_says (context_of tree ks s (9 - left) st.marks) (operand_of op) target (span_at tree a.next)) (option (operand (texts_of tree)) tree k) st.sink o a o'
      → (sheet : List ℕ) → marks_of tree ks sheet ≡ apply (mark_measured (scopes_of s (9 - left)) (operand_of op)) (measure_span tree st.at) (marks_of tree ks st.marks)
      → (PlaceOk tree st.at → Placed tree st.marks → Placed tree sheet)
      → StmtWalked tree ks left st s o (state_of (a.next + 8) a.sink sheet) s o'
  unfolding analyze_stmt after effect
  measure-walked ks {s} ready a p sheet m q =
      same-walked tree ks left st (measure-read a.next p.next) ready refl
      (context_by tree ks sheet s (9 - left) (rw (measured-span left tree st.at h b k (sym (next_is e)) a.next p.next) at m))
      (said_ok none measure-option p) (q (place_ok left tree st.at h b) ready.placed)

-- the keys that a measure statement sets
pub measured-keys : (tree : List ℕ) (left at : ℕ) → IsOk (stmt (texts_of tree) left tree at) → get_or tree at 0 ≡ 8 → (op : Operand) (m : ℕ) → operand (texts_of tree) tree (at + 1) ≡ ok (operand_of op) m
    → (ss : Symbols) (size : Maybe ℕ) → number_of size ≡ size_of (get ss op.name) → (ks : List Key) → add_measured ks op.name (number_of size) (ends_of op.slice) (number_of op.index) ≡ stmt_keys (stmt (texts_of tree) left tree at) ss ks
unfolding keys_stmt
measured-keys tree left at h b op m e ss size f ks =
    let is = of.measure_is (texts_of tree) left tree at h b m (sym (next_is e)) _ refl in
    let q : value_or blank_operand (operand (texts_of tree) tree (at + 1)) ≡ operand_of op = value_is e blank_operand in
    rw (given_is is ks (λ st. keys_stmt st ss ks), q, ← f)
