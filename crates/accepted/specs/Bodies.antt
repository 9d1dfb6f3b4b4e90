-- What accepted bodies and statements say of their parts, before the cases: the count and the statements of a body, an `else`, the case byte
-- of a statement, the levels left, and where a statement ends. Assumes nothing.
use Rattle.std.specs.Prelude.{ℕ, ◌+◌, ◌-◌, ◌≤◌, ◌<◌, ◌≡◌, List, length, get_or}
use Rattle.std.proofs.Math.Path.{refl}
use Rattle.std.proofs.Common.{ap, subst, arith}
use Rattle.ast.specs.Tree.{Text, Stmt, no_stmt, more_stmt, no_else, some_else}
use Rattle.tree.specs.Ans.{ok, Reader, refuse, IsOk, next_of}
use Rattle.tree.specs.Read.{option, repeat}
use Rattle.tree.specs.Texts.{is_name, is_path}
use Rattle.tree.specs.Stmts.{classical_type, assign_op, body, to_else, else_body, include, qubit_decl, bit_decl, classical_decl, assignment, gate_call, gate_def, function_def, measure, reset, barrier, delay, branch, for_loop, while_loop, stmt_cases, stmt}
use Rattle.tree.specs.Levels.{stmt_levels}
use Rattle.context.specs.View.{number_at}
use Rattle.accepted.specs.Parts.{value_or, start, field, known, ends}
use Rattle.accepted.specs.Fields.{number_in, number_is, option_in, option-none, option-held, option-some}
use Rattle.accepted.specs.Remains.{Remains}
use Rattle.accepted.specs.Ends.{Moves, seq-moves, last-moves, number-moves, span-moves, one-moves, text-moves, option-moves, repeat-moves, counted-moves, none_left, and, each-moves, refuse-moves}
use Rattle.accepted.specs.Levels.{level_in, level-below, level-left, level-moves, level_forward, level-end}
use Rattle.accepted.specs.Operands.{qualifier-moves, operand-moves, held-moves, modifier-moves, for_range-moves, param-moves}

-- a body: its two-byte count, and so many statements
module _ (inner : Reader Stmt) (s : List ℕ) (at : ℕ) (h : IsOk (body inner s at)) where
  pub body_in : at + 2 ≤ length s
  unfolding body
  body_in = number_in s at 2 (field _ _ (start h))

  pub body_is : body inner s at ≡ repeat no_stmt more_stmt inner (number_at 2 s at) s (at + 2)
  unfolding body
  body_is = (known _ _ (at + 2) (number_is s at 2) refl (start h)).is

  pub body-held : IsOk (repeat no_stmt more_stmt inner (number_at 2 s at) s (at + 2))
  body-held = subst IsOk body_is h

  pub body-start : (n : ℕ) → n ≡ number_at 2 s at → Remains no_stmt more_stmt inner s (next_of (body inner s at)) n (at + 2)
  body-start n e = rw e (record { rest = body-held; same = ap next_of body_is })

  -- where none was stepped over yet
  pub body-started : (n : ℕ) → n ≡ number_at 2 s at → Remains no_stmt more_stmt inner s (next_of (body inner s at)) (n - 0) (at + 2)
  body-started n e = body-start (n - 0) (omega (arith, e))

-- the body of an `else`, behind a byte that is not 0
module _ (inner : Reader Stmt) (s : List ℕ) (at : ℕ) (h : IsOk (else_body inner s at)) where
  else_option : IsOk (option (body inner) s at)
  unfolding else_body
  else_option = field _ _ (start h)

  pub else_in : at < length s
  else_in = option_in s at (body inner) else_option

  pub else_none : get_or s at 0 ≡ 0 → else_body inner s at ≡ ok no_else (at + 1)
  unfolding else_body to_else
  else_none e = ends _ (known _ _ (at + 1) (λ o. option-none s at (body inner) o e) refl (start h))

  pub else_body_lem : (get_or s at 0 ≡ 0 → ⊥) → IsOk (body inner s (at + 1))
  else_body_lem z = option-held s at (body inner) else_option z

  pub else_some : (get_or s at 0 ≡ 0 → ⊥) → (m : ℕ) → m ≡ next_of (body inner s (at + 1)) → else_body inner s at ≡ ok (some_else (value_or no_stmt (body inner s (at + 1)))) m
  unfolding else_body to_else
  else_some z m e = ends _ (known _ _ m (λ o. option-some s at (body inner) o no_stmt m e z) refl (start h))

pub stmt_in : (t : List Text) (left : ℕ) (s : List ℕ) (at : ℕ) → IsOk (stmt t left s at) → at < length s
stmt_in t = level_in (stmt_levels t)

pub stmt-below : (t : List Text) (left : ℕ) (s : List ℕ) (at : ℕ) → IsOk (stmt t left s at) → get_or s at 0 < 15
stmt-below t = level-below (stmt_levels t)

pub stmt-left : (t : List Text) (left : ℕ) (s : List ℕ) (at : ℕ) → IsOk (stmt t left s at) → 0 < left
stmt-left t = level-left (stmt_levels t)

pub body-moves : {inner : Reader Stmt} → Moves inner → Moves (body inner)
unfolding body
body-moves m = seq-moves _ (number-moves 2) (repeat-moves no_stmt more_stmt m)

pub else_moves : {inner : Reader Stmt} → Moves inner → Moves (else_body inner)
unfolding else_body
else_moves m = last-moves to_else (option-moves (body-moves m))

cases_move : (t : List Text) (inner : Reader Stmt) → Moves inner → (place c : ℕ) → Moves (get_or (stmt_cases t inner place) c (refuse 4 place))
unfolding stmt_cases include qubit_decl bit_decl classical_decl assignment gate_call gate_def function_def measure reset barrier delay branch for_loop while_loop classical_type assign_op
cases_move t inner m place c =
    let name = text-moves t is_name in
    let size = option-moves (number-moves 8) in
    let held = held-moves t in
    let operand = operand-moves t in
    let operands = counted-moves _ _ operand in
    let names = counted-moves _ _ name in
    let inside = body-moves m in
    each-moves
    (and (seq-moves _ (text-moves t is_path) (λ a. last-moves _ span-moves))
    (and (seq-moves _ name (λ a. seq-moves _ size (λ b. last-moves _ span-moves)))
    (and (seq-moves _ name (λ a. seq-moves _ size (λ b. last-moves _ span-moves)))
    (and (seq-moves _ (option-moves qualifier-moves) (λ a. seq-moves _ (one-moves _ _) (λ b. seq-moves _ name (λ c. seq-moves _ (option-moves held) (λ d. last-moves _ span-moves)))))
    (and (seq-moves _ name (λ a. seq-moves _ (one-moves _ _) (λ b. seq-moves _ held (λ c. last-moves _ span-moves))))
    (and (seq-moves _ name (λ a. seq-moves _ (counted-moves _ _ (modifier-moves t)) (λ b. seq-moves _ (counted-moves _ _ held) (λ c. seq-moves _ operands (λ d. last-moves _ span-moves)))))
    (and (seq-moves _ name (λ a. seq-moves _ names (λ b. seq-moves _ names (λ c. seq-moves _ inside (λ d. last-moves _ span-moves)))))
    (and (seq-moves _ name (λ a. seq-moves _ (counted-moves _ _ (param-moves t)) (λ b. seq-moves _ (one-moves _ _) (λ c. seq-moves _ held (λ d. last-moves _ span-moves)))))
    (and (seq-moves _ operand (λ a. seq-moves _ (option-moves operand) (λ b. last-moves _ span-moves)))
    (and (seq-moves _ operand (λ a. last-moves _ span-moves))
    (and (seq-moves _ operands (λ a. last-moves _ span-moves))
    (and (seq-moves _ held (λ a. seq-moves _ operands (λ b. last-moves _ span-moves)))
    (and (seq-moves _ held (λ a. seq-moves _ inside (λ b. seq-moves _ (else_moves m) (λ c. last-moves _ span-moves))))
    (and (seq-moves _ name (λ a. seq-moves _ (one-moves _ _) (λ b. seq-moves _ (for_range-moves t) (λ c. seq-moves _ inside (λ d. last-moves _ span-moves)))))
    (and (seq-moves _ held (λ a. seq-moves _ inside (λ b. last-moves _ span-moves)))
    none_left)))))))))))))))
    c _ (refuse-moves 4 place)

pub stmt-moves : (t : List Text) (left : ℕ) → Moves (stmt t left)
stmt-moves t = level-moves (stmt_levels t) (cases_move t)

pub stmt_forward : (t : List Text) (left : ℕ) (s : List ℕ) (at : ℕ) → IsOk (stmt t left s at) → at ≤ next_of (stmt t left s at)
stmt_forward t = level_forward (stmt_levels t) (cases_move t)

pub stmt-end : (t : List Text) (left : ℕ) (s : List ℕ) (at : ℕ) → IsOk (stmt t left s at) → next_of (stmt t left s at) ≤ length s
stmt-end t = level-end (stmt_levels t) (cases_move t)

module _ (t : List Text) (left : ℕ) (s : List ℕ) (at : ℕ) (h : IsOk (body (stmt t left) s at)) where
  body-within : at ≤ length s
  body-within = let i = body_in (stmt t left) s at h in omega arith

  pub body_forward : at ≤ next_of (body (stmt t left) s at)
  body_forward = ((body-moves (stmt-moves t left)).moves s at body-within h).0

  pub body_end : next_of (body (stmt t left) s at) ≤ length s
  body_end = ((body-moves (stmt-moves t left)).moves s at body-within h).1
