-- A statement without statements in it, and its keys. Assumes nothing.
use Prim.Native.Nat.{ℕ, zero, suc, ◌-◌, ◌≤◌, ◌<◌}
use mathlib.Core.Path.{◌≡◌, refl, sym, ap, subst}
use mathlib.Core.List.{List}
use mathlib.Core.Logic.{⊎_elim}
use native.Mathlib.Omega.{arith}
use lib.ListN.{length, get_or, take}
use Rattle.std.proofs.lemmas.List.{length-take}
use Rattle.text.proofs.Tests.{true_of}
use Rattle.tree.specs.Ans.{IsOk}
use Rattle.tree.specs.Stmts.{stmt}
use Rattle.tree.specs.Decode.{texts_of}
use Rattle.sema.specs.Symbols.{Symbols}
use Rattle.sema.specs.Marks.{Key}
use Rattle.sema.specs.Keys.{has_key, keys_stmt}
use Rattle.sema.proofs.KeyCount.{grown-stmt}
use Rattle.sema.proofs.LawsKeys.{has_key-iff}
use Rattle.context.specs.declared.State.{State}
use Rattle.context.specs.declared.Key.{Key as KeyValue}
use Rattle.std.specs.Prelude.{Some}
use Rattle.context.specs.View.{scopes_of, keys_in}
use Rattle.accepted.specs.Parts.{given_is}
use Rattle.accepted.specs.Stmts as of
use Rattle.sheet.specs.Sheet.{Indexed, Grown}
use Rattle.sheet.specs.Table.{keys-few}
use Rattle.sheet.specs.Behind.{Blank}
use Rattle.promises.specs.Walks.{state_of, Walkable, Ready, StmtKeyed, StmtWalked}
use Rattle.promises.specs.Went.{stmt_keys, StmtWent}
use Rattle.promises.specs.WentLaws.{Longer, stmt_longer, walked_at, walkable_longer, blank_longer}

-- none but a measure statement sets keys
pub plain-keys : (tree : List ℕ) (left at : ℕ) → IsOk (stmt (texts_of tree) left tree at) → get_or tree at 0 < 12 → (get_or tree at 0 ≡ 6 → ⊥) → (get_or tree at 0 ≡ 8 → ⊥) → (ss : Symbols) (ks : List Key) → stmt_keys (stmt (texts_of tree) left tree at) ss ks ≡ ks
unfolding keys_stmt
plain-keys tree left at h u m o ss ks = go (get_or tree at 0) refl
  where
    go : (c : ℕ) → get_or tree at 0 ≡ c → stmt_keys (stmt (texts_of tree) left tree at) ss ks ≡ ks
    go zero b = given_is (of.include_is (texts_of tree) left tree at h b) ks (λ a. keys_stmt a ss ks)
    go (suc zero) b = given_is (of.qubit_decl_is (texts_of tree) left tree at h b _ refl) ks (λ a. keys_stmt a ss ks)
    go (suc (suc zero)) b = given_is (of.bit_decl_is (texts_of tree) left tree at h b _ refl) ks (λ a. keys_stmt a ss ks)
    go (suc (suc (suc zero))) b = given_is (of.classical_decl_is (texts_of tree) left tree at h b _ refl _ refl) ks (λ a. keys_stmt a ss ks)
    go (suc (suc (suc (suc zero)))) b = given_is (of.assignment_is (texts_of tree) left tree at h b _ refl) ks (λ a. keys_stmt a ss ks)
    go (suc (suc (suc (suc (suc zero))))) b = given_is (of.gate_call_is (texts_of tree) left tree at h b _ refl _ refl _ refl) ks (λ a. keys_stmt a ss ks)
    go (suc (suc (suc (suc (suc (suc zero)))))) b = absurd (m b)
    go (suc (suc (suc (suc (suc (suc (suc zero))))))) b = given_is (of.function_def_is (texts_of tree) left tree at h b _ refl _ refl) ks (λ a. keys_stmt a ss ks)
    go (suc (suc (suc (suc (suc (suc (suc (suc zero)))))))) b = absurd (o b)
    go (suc (suc (suc (suc (suc (suc (suc (suc (suc zero))))))))) b = given_is (of.reset_is (texts_of tree) left tree at h b _ refl) ks (λ a. keys_stmt a ss ks)
    go (suc (suc (suc (suc (suc (suc (suc (suc (suc (suc zero)))))))))) b = given_is (of.barrier_is (texts_of tree) left tree at h b _ refl) ks (λ a. keys_stmt a ss ks)
    go (suc (suc (suc (suc (suc (suc (suc (suc (suc (suc (suc zero))))))))))) b = given_is (of.delay_is (texts_of tree) left tree at h b _ refl _ refl) ks (λ a. keys_stmt a ss ks)
    go (suc (suc (suc (suc (suc (suc (suc (suc (suc (suc (suc (suc c)))))))))))) b = absurd (omega arith)

-- the sink and the marks alone play a part
pub ready_of : {tree s : List ℕ} {st : State} → Ready tree s st → Ready tree s (state_of st.at st.sink st.marks)
ready_of h = record { room = h.room; few = h.few; placed = h.placed }

module _ (tree : List ℕ) (left : ℕ) (st : State) (i i' : List KeyValue) (s : List ℕ) (z : length i' ≡ length i) where
  -- the keys of the statement, behind those there are
  abbrev keys : List Key
  keys = stmt_keys (stmt (texts_of tree) left tree st.at) (scopes_of s (9 - left)) (keys_in i st.keys)

  module _ {count : ℕ} (a : Grown i' (Some count) keys) where
    one_longer : Longer (keys_in i st.keys) keys
    one_longer = stmt_longer (scopes_of s (9 - left)) (keys_in i st.keys) (stmt (texts_of tree) left tree st.at)

    pub step-walkable : Walkable tree (take st.keys i) → Walkable tree (take count i')
    step-walkable w = walkable_longer _ _ _ _ w one_longer a.0 a.1

    -- every key that the statement sets is there
    pub step_keyed : StmtKeyed (keys_in i' count) (scopes_of s (9 - left)) (stmt (texts_of tree) left tree st.at)
    step_keyed =
        record {
          each = λ S n e k set.
              let q = given_is e (keys_in i st.keys) (λ x. keys_stmt x (scopes_of s (9 - left)) (keys_in i st.keys)) in
              true_of (has_key (keys_in i' count) k)
              ((has_key-iff (keys_in i' count) k).1
              (rw (a.0, q)
              (⊎_elim (λ x. x) (λ l. let c = rw q at a.0 in let few = a.1 in absurd (omega (arith, ap length c, keys-few i' count))) ((grown-stmt S (scopes_of s (9 - left)) (keys_in i st.keys)).all k set))));
        }

    -- the statement was walked over
    pub step_went : Indexed i st.keys → (r : State) → r.keys ≡ count → Blank st.keys st.marks → {o s' o' : List ℕ} → StmtWalked tree (keys_in i' count) left (state_of st.at st.sink st.marks) s o (state_of r.at r.sink r.marks) s' o'
        → ((n : ℕ) → length (take count i') ≤ n → Blank n st.marks → Blank n r.marks) → StmtWent tree left st i s o (Some r) i' s' o'
    step_went t r f b {o = o} {s' = s'} {o' = o'} w p =
        record {
          grown = rw f a;
          index-length = z;
          scratch-length = w.same_length;
          scratch-rest = w.same_rest;
          reached = (
            subst (λ (k : ℕ). StmtWalked tree (keys_in i' k) left st s o r s' o') (sym f) (walked_at w st r refl refl refl refl refl),
            rw f (p count (omega (arith, length-take count i')) (blank_longer i i' t one_longer a.0 b)),
          );
        }
