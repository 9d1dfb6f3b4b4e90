-- A Vec of operands, one after the other. Assumes nothing.
use Prim.Native.Nat.{ℕ, ◌+◌, ◌-◌, ◌≤◌, ◌<◌}
use mathlib.Core.Path.{◌≡◌, refl, sym, ap, ◌∙◌}
use mathlib.Core.Bool.{Bool, true, false, cond}
use mathlib.Core.Option.{Option, none, some}
use native.Mathlib.Omega.{arith}
use mathlib.Core.List.{List, [], ◌∷◌, ◌++◌}
use lib.ListN.{length, get_or}
use lib.Dec.{ltb}
use Rattle.span.specs.declared.Span.{Span}
use Rattle.ast.specs.Tree.{Text, GateOperand}
use Rattle.tree.specs.Ans.{Ans, ok, IsOk, next_of, given}
use Rattle.tree.specs.Read.{repeat, vec}
use Rattle.tree.specs.Stmts.{operand}
use Rattle.sema.specs.Messages.{a_qubit, error, broadcasting}
use Rattle.sema.specs.Symbols.{Symbols}
use Rattle.sema.specs.Marks.{Marks}
use Rattle.sema.specs.Operands.{unless, check_operand, operand_width, check_use_after_measure, use_operands}
use Rattle.sema.specs.Stmts.{wide, register_widths, all_equal, widths_say}
use Rattle.std.specs.Prelude.{Option as Maybe, Some, None}
use Rattle.std.specs.Option.{option_or}
use Rattle.context.specs.declared.GateOperand.{GateOperand as Operand}
use Rattle.context.specs.declared.Sink.{Sink}
use Rattle.context.specs.Values.{number_of, operand_of}
use Rattle.accepted.specs.Cases.{blank_operand}
use Rattle.accepted.specs.Parts.{value_or, next_is, value_is, given_is, given_ok}
use Rattle.accepted.specs.Fields.{counted_is, repeat-none, repeat_is}
use Rattle.accepted.specs.Singles.{is_single, both_first, both_second, single_is, single_inside}
use Rattle.accepted.specs.Remains.{Remains, remains-none, remains-first, remains-step}
use Rattle.accepted.specs.Counts.{vec_size}
use Rattle.lines.specs.declared.Message.{Message}
use Rattle.lines.specs.declared.Diagnostic.{Diagnostic}
use Rattle.lines.specs.Values.{error_of, Reported}
use Rattle.promises.specs.Emitted.{Emitted, emitted-none, emitted_then, emitted_as, emitted_report}
use Rattle.operands.specs.Widths.{uniform, agree, ahead, differ, widths_say_lem}
use Rattle.operands.specs.Says.{nothing}
use Rattle.operands.specs.Passing.{passing}
use Rattle.operands.proofs.Checks.{nothing_is}
use Rattle.operands.proofs.WidthLaws.{width_single, agree_next}

-- n operands from k on
abbrev pub left : List Text → List ℕ → ℕ → ℕ → List GateOperand
left t s n k = value_or [] (repeat [] ◌∷◌ (operand t) n s k)

module _ (t : List Text) (s : List ℕ) (at : ℕ) where
  abbrev Left : ℕ → ℕ → Type 0
  Left n k = Remains [] ◌∷◌ (operand t) s (next_of (vec (operand t) s at)) n k

  left-all : {B : Type 0} (b : B) (f : List GateOperand → B) (n : ℕ) → IsOk (vec (operand t) s at) → n ≡ get_or s at 0
      → given b f (vec (operand t) s at) ≡ f (left t s (n - 0) (at + 1))
  left-all b f n h e = given_ok [] b f (vec (operand t) s at) h ∙ (let q : n - 0 ≡ n = omega arith in rw (q, e, ← counted_is s at [] ◌∷◌ (operand t) h))

  -- after i operands of n
  module _ (n i k : ℕ) (m : Left (n - i) k) where
    pub left_first : i < n → IsOk (operand t s k)
    left_first l = remains-first m l

    pub left-inside : i < n → is_single s k ≡ true → k + 20 ≤ length s
    left-inside l e = single_inside t s k (left_first l) e

    module _ (l : i < n) (op : GateOperand) (next : ℕ) (e : operand t s k ≡ ok op next) where
      left-next : Left (n - (i + 1)) next
      left-next = remains-step m l (sym (next_is e))

      left_is : left t s (n - i) k ≡ op ∷ left t s (n - (i + 1)) next
      left_is =
          let q : n - (i + 1) ≡ n - i - 1 = omega arith in
          rw q
          (value_is (repeat_is s k [] ◌∷◌ (operand t) (n - i) m.rest (omega arith) next (sym (next_is e)) blank_operand) []
          ∙ ap (λ (o : GateOperand). o ∷ left t s (n - i - 1) next) (value_is e blank_operand))

    left-none : n ≤ i → left t s (n - i) k ≡ []
    left-none l = value_is (repeat-none s k [] ◌∷◌ (operand t) (n - i) (omega arith)) []

-- Uses: what is said of the operands left, behind what is said so far, is what is said of all.
pub record Using (t : List Text) (tree : List ℕ) (ss : Symbols) (m : Marks) (sp : Span) (at : ℕ) (s : Sink) (o : List ℕ) (n k : ℕ) (r : Sink) (o' : List ℕ) : Type 0 where
  pub remains : Left t tree at n k
  pub same_length : length o' ≡ length o
  pub all : {q : Sink} {o'' : List ℕ} → Emitted t (use_operands ss m sp (left t tree n k)) r o' q o'' → Emitted t (given [] (use_operands ss m sp) (vec (operand t) tree at)) s o q o''

module _ (t : List Text) (tree : List ℕ) (ss : Symbols) (m : Marks) (sp : Span) (at : ℕ) (s : Sink) (o : List ℕ) where
  pub using_start : (n : ℕ) → IsOk (vec (operand t) tree at) → n ≡ get_or tree at 0 → Using t tree ss m sp at s o (n - 0) (at + 1) s o
  using_start n h e = record {
    remains = remains-none [] ◌∷◌ (operand t) tree at n h e;
    same_length = refl;
    all = λ p. emitted_as p (sym (left-all t tree at [] (use_operands ss m sp) n h e));
  }

  module _ (n i k : ℕ) (r : Sink) (o' : List ℕ) (u : Using t tree ss m sp at s o (n - i) k r o') where
    pub using_more : i < n → (op : GateOperand) (next : ℕ) → operand t tree k ≡ ok op next → (q : Sink) (o'' : List ℕ) → length o'' ≡ length o'
        → Emitted t (check_operand ss op a_qubit ++ check_use_after_measure m op sp) r o' q o''
        → Using t tree ss m sp at s o (n - (i + 1)) next q o''
    unfolding use_operands
    using_more l op next e q o'' g p = record {
      remains = left-next t tree at n i k u.remains l op next e;
      same_length = g ∙ u.same_length;
      all = λ z. u.all (emitted_as (emitted_then p z) (sym (ap (use_operands ss m sp) (left_is t tree at n i k u.remains l op next e))));
    }

    -- past an operand of which nothing is said
    module _ (l : i < n) (b : Bool) (f : (p : Span) → b ≡ passing t tree ss m p k) (e : b ≡ true) where
      using_single : is_single tree k ≡ true
      using_single = both_first _ _ (sym (f sp) ∙ e)

      pub using_inside : k + 20 ≤ length tree
      using_inside = left-inside t tree at n i k u.remains l using_single

      pub using_pass : Using t tree ss m sp at s o (n - (i + 1)) (k + 20) r o'
      using_pass =
          let j = single_is t tree k (left_first t tree at n i k u.remains l) using_single in
          let z = sym (given_is j false (λ op. nothing (check_operand ss op a_qubit ++ check_use_after_measure m op sp))) ∙ both_second (is_single tree k) _ (sym (f sp) ∙ e) in
          using_more l _ (k + 20) j r o' refl (emitted_as emitted-none (sym (nothing_is _ z)))

    pub using_end : n ≤ i → Emitted t (given [] (use_operands ss m sp) (vec (operand t) tree at)) s o r o'
    unfolding use_operands
    using_end l = u.all (emitted_as emitted-none (sym (ap (use_operands ss m sp) (left-none t tree at n i k u.remains l))))

agree-none : (met : Maybe ℕ) → agree met [] ≡ true
unfolding agree uniform all_equal
agree-none None = refl
agree-none (Some w) = refl

-- Widths: those of the operands left, behind those that were met, agree if all do.
pub record Meeting (t : List Text) (tree : List ℕ) (ss : Symbols) (at n k : ℕ) (met : Maybe ℕ) : Type 0 where
  pub remains : Left t tree at n k
  pub all : agree met (register_widths ss (left t tree n k)) ≡ given true (λ ops. uniform (register_widths ss ops)) (vec (operand t) tree at)

module _ (t : List Text) (tree : List ℕ) (ss : Symbols) (at : ℕ) where
  pub meeting-start : (n : ℕ) → IsOk (vec (operand t) tree at) → n ≡ get_or tree at 0 → Meeting t tree ss at (n - 0) (at + 1) None
  unfolding agree
  meeting-start n h e = record {
    remains = remains-none [] ◌∷◌ (operand t) tree at n h e;
    all = sym (left-all t tree at true (λ ops. uniform (register_widths ss ops)) n h e);
  }

  module _ (n i k : ℕ) (met : Maybe ℕ) (u : Meeting t tree ss at (n - i) k met) where
    meeting-step : i < n → (op : GateOperand) (next : ℕ) → operand t tree k ≡ ok op next → (r : Maybe ℕ) → ((ws : List ℕ) → agree r ws ≡ agree met (wide (operand_width ss op) ws))
        → Meeting t tree ss at (n - (i + 1)) next r
    unfolding register_widths
    meeting-step l op next e r g = record {
      remains = left-next t tree at n i k u.remains l op next e;
      all = g _ ∙ ap (λ ops. agree met (register_widths ss ops)) (sym (left_is t tree at n i k u.remains l op next e)) ∙ u.all;
    }

    -- an operand more, with its width above 1
    module _ (l : i < n) (op : Operand) (next : ℕ) (e : operand t tree k ≡ ok (operand_of op) next) (width : Maybe ℕ) (f : number_of width ≡ operand_width ss (operand_of op))
        (w : Maybe ℕ) (g : (ws : List ℕ) → ahead w ws ≡ wide (number_of width) ws) (b : Bool) (d : b ≡ differ met w) where
      width-next : (ws : List ℕ) → agree met (wide (operand_width ss (operand_of op)) ws) ≡ cond b false (agree (option_or met w) ws)
      width-next ws = rw (← f, ← g ws) (agree_next met w ws b d)

      pub meeting-more : b ≡ false → (r : Maybe ℕ) → r ≡ option_or met w → Meeting t tree ss at (n - (i + 1)) next r
      meeting-more z r q = meeting-step l (operand_of op) next e r (λ ws. rw q (sym (rw z at (width-next ws))))

      pub meeting-differ : b ≡ true → false ≡ given true (λ ops. uniform (register_widths ss ops)) (vec (operand t) tree at)
      unfolding register_widths
      meeting-differ z =
          sym (rw z at (width-next (register_widths ss (left t tree (n - (i + 1)) next)))) ∙ ap (λ ops. agree met (register_widths ss ops)) (sym (left_is t tree at n i k u.remains l (operand_of op) next e)) ∙ u.all

    -- past an operand with an index and no slice
    pub meeting_single : i < n → (b : Bool) → b ≡ is_single tree k → b ≡ true → Meeting t tree ss at (n - (i + 1)) (k + 20) met
    meeting_single l b f e =
        meeting-step l _ (k + 20) (single_is t tree k (left_first t tree at n i k u.remains l) (sym f ∙ e)) met
        (λ ws. ap (agree met) (width_single ss _ refl refl ws))

    pub meeting-end : n ≤ i → true ≡ given true (λ ops. uniform (register_widths ss ops)) (vec (operand t) tree at)
    unfolding register_widths
    meeting-end l = sym (agree-none met) ∙ ap (λ ops. agree met (register_widths ss ops)) (sym (left-none t tree at n i k u.remains l)) ∙ u.all

-- one width alone is equal to all
one-uniform : (w : Option ℕ) → uniform (wide w []) ≡ true
unfolding wide uniform all_equal
one-uniform none = refl
one-uniform (some n) = go (ltb 1 n)
  where
    go : (b : Bool) → uniform (cond b (n ∷ []) []) ≡ true
    go true = refl
    go false = refl

few-uniform : (ss : Symbols) (ops : List GateOperand) → length ops < 2 → uniform (register_widths ss ops) ≡ true
unfolding register_widths uniform
few-uniform ss [] l = refl
few-uniform ss (op ∷ []) l = one-uniform (operand_width ss op)
few-uniform ss (op ∷ other ∷ ops) l = absurd (omega arith)

pub meeting-few : (t : List Text) (tree : List ℕ) (ss : Symbols) (at n : ℕ) → IsOk (vec (operand t) tree at) → n ≡ get_or tree at 0 → n < 2
    → true ≡ given true (λ ops. uniform (register_widths ss ops)) (vec (operand t) tree at)
meeting-few t tree ss at n h e l =
    sym
    (given_ok [] true (λ ops. uniform (register_widths ss ops)) (vec (operand t) tree at) h
    ∙ few-uniform ss (value_or [] (vec (operand t) tree at)) (omega (arith, vec_size blank_operand (operand t) tree at h)))

-- The verdict over all.
module _ (ss : Symbols) (sp : Span) (x : Ans (List GateOperand)) (h : IsOk x) (b : Bool) (e : b ≡ given true (λ ops. uniform (register_widths ss ops)) x) where
  broadcast_is : unless b (error broadcasting sp) ≡ given [] (λ ops. widths_say sp (register_widths ss ops)) x
  broadcast_is =
      ap (λ (b : Bool). unless b (error broadcasting sp)) (e ∙ given_ok [] true (λ ops. uniform (register_widths ss ops)) x h)
      ∙ sym (given_ok [] [] (λ ops. widths_say sp (register_widths ss ops)) x h ∙ widths_say_lem sp (register_widths ss (value_or [] x)))

  module _ {t : List Text} {s : Sink} {o : List ℕ} where
    pub broadcast_agree : b ≡ true → Emitted t (given [] (λ ops. widths_say sp (register_widths ss ops)) x) s o s o
    broadcast_agree g = emitted_as (rw g emitted-none) broadcast_is

    pub broadcast_differ : b ≡ false → {d : Diagnostic} {r : Sink} {o' : List ℕ} → d ≡ error_of Message.Broadcasting sp → Reported t d s o r o'
        → Emitted t (given [] (λ ops. widths_say sp (register_widths ss ops)) x) s o r o'
    broadcast_differ g f p = emitted_as (rw g (emitted_report f p)) broadcast_is
