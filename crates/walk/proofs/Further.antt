-- The body of a statement stands further on than the statement. Assumes nothing.
use Prim.Native.Nat.{ℕ, ◌+◌, ◌≤◌, ◌<◌}
use mathlib.Core.Path.{◌≡◌, refl}
use mathlib.Core.List.{List}
use native.Mathlib.Omega.{arith}
use lib.ListN.{length, get_or}
use Rattle.tree.specs.Ans.{next_of, IsOk}
use Rattle.tree.specs.Read.{vec}
use Rattle.tree.specs.Texts.{is_name}
use Rattle.tree.specs.Exprs.{name}
use Rattle.tree.specs.Stmts.{stmt, held}
use Rattle.tree.specs.Decode.{texts_of}
use Rattle.accepted.specs.Fields.{counted_in}
use Rattle.accepted.specs.Ends.{text-moves, counted-moves}
use Rattle.accepted.specs.Exprs.{expr_in, expr_forward}
use Rattle.accepted.specs.Operands.{for_range-start, for_range-moves}
use Rattle.accepted.specs.Stmts.{gate_def-params, gate_def_qparams, for_loop_range, while_loop-condition, branch-condition}
use Rattle.bodies.specs.Opened.{gate_qubits, gate_body, for_body}

names_forward : (tree : List ℕ) (at : ℕ) → IsOk (vec (name (texts_of tree)) tree at) → at ≤ next_of (vec (name (texts_of tree)) tree at)
names_forward tree at h = let i = counted_in _ _ _ _ _ h in let l : at ≤ length tree = omega arith in ((counted-moves _ _ (text-moves (texts_of tree) is_name)).moves tree at l h).0

module _ (tree : List ℕ) (left at : ℕ) (h : IsOk (stmt (texts_of tree) left tree at)) where
  pub gate-further : get_or tree at 0 ≡ 6 → at < gate_body tree left at
  gate-further b = omega (arith, names_forward tree (at + 3) (gate_def-params _ _ _ _ h b), names_forward tree (gate_qubits tree left at) (gate_def_qparams _ _ _ _ h b _ refl))

  pub for_further : get_or tree at 0 ≡ 13 → at < for_body tree left at
  for_further b =
      let r = for_loop_range _ _ _ _ h b in
      let i = expr_in _ _ _ _ (for_range-start _ _ _ r) in
      let l : at + 4 ≤ length tree = omega arith in
      omega (arith, ((for_range-moves (texts_of tree)).moves tree (at + 4) l r).0)

  pub while-further : get_or tree at 0 ≡ 14 → at < next_of (held (texts_of tree) tree (at + 1))
  while-further b = omega (arith, expr_forward _ _ _ _ (while_loop-condition _ _ _ _ h b))

  pub if-further : get_or tree at 0 ≡ 12 → at < next_of (held (texts_of tree) tree (at + 1))
  if-further b = omega (arith, expr_forward _ _ _ _ (branch-condition _ _ _ _ h b))
