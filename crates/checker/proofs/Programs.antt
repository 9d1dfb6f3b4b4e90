-- The program of an accepted file, and what its walk begins with. Assumes nothing.
use Prim.Native.Nat.{ℕ, ◌≤◌}
use mathlib.Core.Path.{◌≡◌}
use mathlib.Core.List.{List, []}
use native.Mathlib.Omega.{arith}
use lib.ListN.{length}
use Rattle.ast.specs.Tree.{no_stmt}
use Rattle.tree.specs.Ans.{IsOk, next_of}
use Rattle.tree.specs.Texts.{texts}
use Rattle.tree.specs.Stmts.{body, stmt}
use Rattle.tree.specs.Decode.{texts_of, decode}
use Rattle.sema.specs.Marks.{Key, no_marks}
use Rattle.sema.specs.Stmts.{new}
use Rattle.context.specs.declared.State.{State}
use Rattle.context.specs.View.{Placed, marks_of, context_of}
use Rattle.sheet.specs.Sheet.{Distinct}
use Rattle.tables.specs.Tables.{Begun}
use Rattle.tables.specs.Laws.{few-empty}
use Rattle.accepted.specs.Parts.{value_or, given_is}
use Rattle.accepted.specs.Files.{file-small, file_is, file-body}
use Rattle.promises.specs.Walks.{Walkable, Ready}
use Rattle.claims.specs.Claim.{program_of}

module _ (tree : List ℕ) (h : IsOk (decode tree)) (at : ℕ) (e : at ≡ next_of (texts tree 0)) where
  pub program_is : program_of tree ≡ record { texts = texts_of tree; statements = value_or no_stmt (body (stmt (texts_of tree) 8) tree at) }
  unfolding program_of
  program_is = given_is (file_is tree h at e) _ (λ p. p)

  pub program-body : IsOk (body (stmt (texts_of tree) 8) tree at)
  program-body = file-body tree h at e

-- a run starts with no keys
pub program-walkable : (tree : List ℕ) → IsOk (decode tree) → Walkable tree []
unfolding Distinct
program-walkable tree h = record { small = file-small tree h; few = omega arith; distinct = tt }

-- a scratch with which a walk begins and a blank sheet are the context that an analysis begins with
pub new_context : (tree : List ℕ) (ks : List Key) {s t : List ℕ} (m : List ℕ) → Begun s t → marks_of tree ks m ≡ no_marks → context_of tree ks t 1 m ≡ new
new_context tree ks m n e = λ i. record { symbols = n.scopes_are i; gates = n.gates_are i; functions = n.functions_are i; measured = e i }

pub ready-new : (tree : List ℕ) {s t : List ℕ} (st : State) → Begun s t → 65536 ≤ length s → Placed tree st.marks → Ready tree t st
ready-new tree st b room p =
    record {
      room = omega (arith, b.same_length);
      few = rw b.functions_are few-empty;
      placed = p;
    }
