-- A Vec checked value by value. Assumes nothing.
use Prim.Native.Nat.{ℕ, zero, suc, ◌+◌, ◌-◌, ◌≤◌, ◌<◌}
use mathlib.Core.Path.{◌≡◌, refl, ap, ◌∙◌}
use mathlib.Core.List.{List, [], ◌∷◌, ◌++◌}
use lib.ListN.{get_or}
use Rattle.std.specs.Borrow.{MutBor}
use native.Mathlib.Numerals.{add-one}
use Rattle.ast.specs.Tree.{Text, Expr, Exprs, no_expr, more_expr, GateModifier}
use Rattle.tree.specs.Ans.{Reader, IsOk, next_of, given}
use Rattle.tree.specs.Read.{repeat, counted}
use Rattle.sema.specs.Messages
use Rattle.sema.specs.Messages.{Diagnostic}
use Rattle.sema.specs.Symbols.{Symbols, FunctionSig, Table}
use Rattle.sema.specs.Exprs.{check_modifier, check_modifiers, require_numeric}
use Rattle.sema.specs.Stmts.{params_say}
use native.Mathlib.Omega.{arith}
use Rattle.context.specs.declared.Sink.{Sink}
use Rattle.context.specs.declared.After.{After}
use Rattle.accepted.specs.Parts.{value_or, value_is, given_ok}
use Rattle.accepted.specs.Fields.{counted_is, repeat-none, repeat-first, repeat_is}
use Rattle.accepted.specs.Remains.{Remains, remains-start, remains-more, remains-end}
use Rattle.promises.specs.Emitted.{emitted_as}
use Rattle.promises.specs.Typings.{SaidOf, plain_context}
use Rattle.typing.specs.Vecs.{CheckedTo}
use Rattle.typing.proofs.Owes.{Owes, owes-start, owes_as, owes_more, owes-end}

-- n values from k on remain, and what is said of them is still to be said
pub record Saying {A B : Type 0} (nil : B) (cons : A → B → B) (p : Reader A) (says : B → List Diagnostic) (t : List Text) (tree : List ℕ) (at : ℕ) (s₀ : Sink) (o₀ : List ℕ) (n k : ℕ) (s : Sink) (o : List ℕ) : Type 0 where
  pub remains : Remains nil cons p tree (next_of (counted nil cons p tree at)) n k
  pub owes : Owes t (given [] says (counted nil cons p tree at)) s₀ o₀ (says (value_or nil (repeat nil cons p n tree k))) s o

module _ {A B : Type 0} {nil : B} {cons : A → B → B} {p : Reader A} (says : B → List Diagnostic) {t : List Text} {tree : List ℕ} {at : ℕ} {s₀ : Sink} {o₀ : List ℕ} where
  pub saying-start : {n : ℕ} → IsOk (counted nil cons p tree at) → n ≡ get_or tree at 0 → Saying nil cons p says t tree at s₀ o₀ n (at + 1) s₀ o₀
  saying-start {n = n} h e = record {
    remains = remains-start nil cons p tree at n h e;
    owes = owes_as owes-start (given_ok nil [] says (counted nil cons p tree at) h ∙ rw (e, ← counted_is tree at nil cons p h));
  }

  -- where none was gone through yet
  pub saying-none : {n : ℕ} → IsOk (counted nil cons p tree at) → n ≡ get_or tree at 0 → Saying nil cons p says t tree at s₀ o₀ (n - 0) (at + 1) s₀ o₀
  saying-none h e = saying-start h (omega (arith, e))

  -- where one more was
  pub saying-on : (n i : ℕ) {k : ℕ} {s : Sink} {o : List ℕ} → Saying nil cons p says t tree at s₀ o₀ (n - i - 1) k s o → Saying nil cons p says t tree at s₀ o₀ (n - (i + 1)) k s o
  saying-on n i r = let q : n - (i + 1) ≡ n - i - 1 = omega arith in rw q r

  module _ {n k : ℕ} {s : Sink} {o : List ℕ} (r : Saying nil cons p says t tree at s₀ o₀ n k s o) where
    pub saying-first : 0 < n → IsOk (p tree k)
    saying-first l = repeat-first tree k nil cons p n r.remains.rest l

    saying-more : (d : A) (one : A → List Diagnostic) → ((a : A) (b : B) → says (cons a b) ≡ one a ++ says b) → 0 < n → {a : After} {o' : List ℕ} → SaidOf t one (p tree k) s o a o' → Saying nil cons p says t tree at s₀ o₀ (n - 1) a.next a.sink o'
    saying-more d one e l q =
        let all = value_is (repeat_is tree k nil cons p n r.remains.rest l _ q.next d) nil in
        record {
          remains = remains-more r.remains l q.next;
          owes = owes_more (owes_as r.owes (ap says all ∙ e _ _)) (emitted_as q.emitted (given_ok d [] one (p tree k) (saying-first l)));
        }

    saying-end : says nil ≡ [] → n ≤ 0 → SaidOf t says (counted nil cons p tree at) s₀ o₀ (record { next = k; sink = s }) o
    saying-end e l = record {
      next = remains-end r.remains l;
      emitted = owes-end (owes_as r.owes (ap says (value_is (repeat-none tree k nil cons p n l) nil) ∙ e));
    }

-- one call more
pub checked_on : (call : MutBor (List ℕ) → ℕ → Sink → After → MutBor (List ℕ) → Type 0) (n at : ℕ) (s : Sink) (o : List ℕ) {k : ℕ} {r : Sink} (b : MutBor (List ℕ)) (a : After) (b' : MutBor (List ℕ)) → CheckedTo call n at s o k r b.now → call b k r a b' → CheckedTo call (n + 1) at s o a.next a.sink b'.now
checked_on call n at s o {k} {r} b a b' w c = rw (add-one n) (k, r, b, a, b', w, c, refl, refl, refl)

-- the same where the calls of a check, so many, have led
module _ {A B : Type 0} (nil : B) (cons : A → B → B) (p : Reader A) (d : A) (one : A → List Diagnostic) (says : B → List Diagnostic) (by : ((a : A) (b : B) → says (cons a b) ≡ one a ++ says b) × (says nil ≡ [])) (t : List Text) (tree : List ℕ) (at : ℕ) (s₀ : Sink) (o₀ : List ℕ) (h : IsOk (counted nil cons p tree at)) {call : MutBor (List ℕ) → ℕ → Sink → After → MutBor (List ℕ) → Type 0} where
  saying-at : (i k : ℕ) (s : Sink) (o : List ℕ) → i ≤ get_or tree at 0 → CheckedTo call i (at + 1) s₀ o₀ k s o → ((b : MutBor (List ℕ)) (k : ℕ) (s : Sink) (a : After) (b' : MutBor (List ℕ)) → call b k s a b' → SaidOf t one (p tree k) s b.now a b'.now) → Saying nil cons p says t tree at s₀ o₀ (get_or tree at 0 - i) k s o
  saying-at zero k s o l (e, g, q) said = rw (e, g, q) (saying-none says h refl)
  saying-at (suc i) k s o l (m, r, b, a, b', w, c, e, g, q) said =
      rw (← add-one i, e, g, q) (saying-on says _ i (saying-more says (saying-at i m r b.now (omega arith) w said) d one by.0 (omega arith) (said b m r a b' c)))

  pub checked-first : (i k : ℕ) (s : Sink) (o : List ℕ) → i < get_or tree at 0 → CheckedTo call i (at + 1) s₀ o₀ k s o → ((b : MutBor (List ℕ)) (k : ℕ) (s : Sink) (a : After) (b' : MutBor (List ℕ)) → call b k s a b' → SaidOf t one (p tree k) s b.now a b'.now) → IsOk (p tree k)
  checked-first i k s o l r said = let w = saying-at i k s o (omega arith) r said in saying-first says w (omega arith)

  pub checked-end : (k : ℕ) (s : Sink) (o : List ℕ) → CheckedTo call (get_or tree at 0) (at + 1) s₀ o₀ k s o → ((b : MutBor (List ℕ)) (k : ℕ) (s : Sink) (a : After) (b' : MutBor (List ℕ)) → call b k s a b' → SaidOf t one (p tree k) s b.now a b'.now) → SaidOf t says (counted nil cons p tree at) s₀ o₀ (record { next = k; sink = s }) o
  checked-end k s o r said = saying-end says (saying-at (get_or tree at 0) k s o (omega arith) r said) by.1 (omega arith)

-- modifiers, and gate parameters
module _ (ss : Symbols) (fs : Table FunctionSig) where
  pub modifiers_by : ((m : GateModifier) (ms : List GateModifier) → check_modifiers ss fs (m ∷ ms) ≡ check_modifier ss fs m ++ check_modifiers ss fs ms) × (check_modifiers ss fs [] ≡ [])
  unfolding check_modifiers
  modifiers_by = (λ m ms. refl, refl)

  pub params_by : ((e : Expr) (es : Exprs) → params_say (plain_context ss fs) (more_expr e es) ≡ require_numeric ss fs e Messages.params_numeric ++ params_say (plain_context ss fs) es) × (params_say (plain_context ss fs) no_expr ≡ [])
  unfolding params_say
  params_by = (λ e es. refl, refl)
