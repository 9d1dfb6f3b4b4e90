-- Operands, modifiers and statements are read back from their bytes. Assumes nothing.
use Prim.Native.Nat.{ℕ, zero, suc, ◌<◌, ◌≤◌, ◌+◌, ◌-◌}
use mathlib.Core.List.{List, ◌∷◌, flatten}
use mathlib.Core.Option.{Option, none, some}
use native.Mathlib.Omega.{arith}
use native.Mathlib.Numerals.{sub-one}
use lib.ListN.{length, get_or}
use lib.Dec.{lit<}
use Rattle.ast.specs.Tree.{Text, TextNumber, Expr, Exprs, no_expr, more_expr, GateOperand, GateModifier, ForRange, Stmt, Stmts, no_stmt, more_stmt, Else, no_else, some_else, expr_count}
use Rattle.ast.specs.declared.ClassicalType.{ClassicalType}
use Rattle.ast.specs.declared.ClassicalQualifier.{ClassicalQualifier}
use Rattle.tree.specs.Limits.{texts_limit, vec_limit, expr_levels}
use Rattle.tree.specs.Ans.{Reader, refuse}
use Rattle.tree.specs.Read.{u64, option, vec, repeat}
use Rattle.tree.specs.Texts.{is_name, is_path}
use Rattle.tree.specs.Exprs.{exprs, name}
use Rattle.tree.specs.Stmts.{qualifier, slice, body, to_else, else_body, operand, held, ctrl, neg_ctrl, inv, pow, modifier, for_range, param, include, qubit_decl, bit_decl, classical_decl, assignment, gate_call, gate_def, function_def, measure, reset, barrier, delay, branch, for_loop, while_loop, stmt_cases, stmt}
use Rattle.tree.specs.Encode.{big, put_option, put_vec, put_string, put_qualifier, put_expr, put_exprs, put_slice, put_operand, put_modifier, put_range, put_param, stmt_count, put_counted, put_stmt, put_all, put_else, put_body}
use Rattle.tree.specs.Fits.{NumberFits, SliceFits, OptionFits, VecFits, NameFits, EachFits, HeldFits, OperandFits, ModifierFits, RangeFits, ParamFits, StmtFits, AllFit, ElseFits}
use Rattle.tree.proofs.Back.{Reads, seq, last, done-reads, length-big, number-reads, span-reads, choice-reads, none_reads, some-reads, option-reads, vec-reads, counted-reads}
use Rattle.tree.proofs.BackExprs.{type_reads, qualifier-reads, assign_reads, string_reads, expr-reads, each-reads}

slice-reads : {s : List ℕ} {at : ℕ} (ab : ℕ × ℕ) → SliceFits ab → Reads s at slice (put_slice ab) ab
unfolding slice put_slice flatten
slice-reads ab h = seq _ (number-reads 8 _ h.start_fits) (seq _ (number-reads 8 _ h.end_fits) done-reads)

size-reads : {s : List ℕ} {at : ℕ} (n : Option ℕ) → OptionFits (NumberFits 8) n → Reads s at (option u64) (put_option (big 8) n) n
size-reads n h = option-reads u64 (big 8) (NumberFits 8) (λ s at a g. number-reads 8 a g) n h

-- a qualifier has nothing that could fail to fit
qualified_reads : {s : List ℕ} {at : ℕ} (q : Option ClassicalQualifier) → Reads s at (option qualifier) (put_option put_qualifier q) q
unfolding put_option
qualified_reads none = none_reads qualifier
qualified_reads (some q) = some-reads qualifier (qualifier-reads q)

-- a body behind its count
pub body_reads : {s : List ℕ} {at : ℕ} (inner : Reader Stmt) (b : Stmts) → NumberFits 2 (stmt_count b) → Reads s (at + 2) (repeat no_stmt more_stmt inner (stmt_count b)) (put_all b) b → Reads s at (body inner) (put_body b) b
unfolding body put_counted
body_reads inner b h p = seq _ (number-reads 2 (stmt_count b) h) (rw (length-big 2 (stmt_count b)) p)

module _ (t : List Text) (few : length t ≤ texts_limit) where
  name-reads : {s : List ℕ} {at : ℕ} (x : TextNumber) → NameFits t x → Reads s at (name t) (put_string x) x
  name-reads x h = string_reads t few is_name x h

  names-reads : {s : List ℕ} {at : ℕ} (xs : List TextNumber) → VecFits (NameFits t) xs → Reads s at (vec (name t)) (put_vec put_string xs) xs
  names-reads xs h = vec-reads (name t) put_string (NameFits t) (λ s at x g. name-reads x g) xs h

  held_reads : {s : List ℕ} {at : ℕ} (e : Expr) → HeldFits t e → Reads s at (held t) (put_expr e) e
  held_reads e h = expr-reads t few expr_levels e h

  maybe_reads : {s : List ℕ} {at : ℕ} (e : Option Expr) → OptionFits (HeldFits t) e → Reads s at (option (held t)) (put_option put_expr e) e
  maybe_reads e h = option-reads (held t) put_expr (HeldFits t) (λ s at a g. held_reads a g) e h

  operand-reads : {s : List ℕ} {at : ℕ} (q : GateOperand) → OperandFits t q → Reads s at (operand t) (put_operand q) q
  unfolding operand put_operand flatten
  operand-reads q h =
      seq _ (name-reads _ h.name-fits)
      (seq _ (size-reads _ h.index-fits)
      (seq _ (option-reads slice put_slice SliceFits (λ s at a g. slice-reads a g) _ h.slice_fits)
      (seq _ (span-reads h.span_fits) done-reads)))

  operands_reads : {s : List ℕ} {at : ℕ} (qs : List GateOperand) → VecFits (OperandFits t) qs → Reads s at (vec (operand t)) (put_vec put_operand qs) qs
  operands_reads qs h = vec-reads (operand t) put_operand (OperandFits t) (λ s at q g. operand-reads q g) qs h

  modifier-reads : {s : List ℕ} {at : ℕ} (m : GateModifier) → ModifierFits t m → Reads s at (modifier t) (put_modifier m) m
  unfolding modifier ctrl neg_ctrl inv pow put_modifier ModifierFits flatten
  modifier-reads (GateModifier.Ctrl e sp) h = choice-reads 4 _ 0 (lit< tt) (seq _ (maybe_reads e h.0) (seq _ (span-reads h.1) done-reads))
  modifier-reads (GateModifier.NegCtrl e sp) h = choice-reads 4 _ 1 (lit< tt) (seq _ (maybe_reads e h.0) (seq _ (span-reads h.1) done-reads))
  modifier-reads (GateModifier.Inv sp) h = choice-reads 4 _ 2 (lit< tt) (seq _ (span-reads h) done-reads)
  modifier-reads (GateModifier.Pow e sp) h = choice-reads 4 _ 3 (lit< tt) (seq _ (held_reads e h.0) (seq _ (span-reads h.1) done-reads))

  range_reads : {s : List ℕ} {at : ℕ} (r : ForRange) → RangeFits t r → Reads s at (for_range t) (put_range r) r
  unfolding for_range put_range flatten
  range_reads r h = seq _ (held_reads _ h.start_fits) (seq _ (held_reads _ h.end_fits) (seq _ (maybe_reads _ h.step_fits) done-reads))

  param-reads : {s : List ℕ} {at : ℕ} (p : ClassicalType × TextNumber) → ParamFits t p → Reads s at (param t) (put_param p) p
  unfolding param put_param flatten
  param-reads p h = seq _ (type_reads p.0) (seq _ (name-reads p.1 h) done-reads)

  params-reads : {s : List ℕ} {at : ℕ} (es : Exprs) → expr_count es ≤ vec_limit → EachFits t expr_levels es → Reads s at (exprs (held t)) (put_exprs es) es
  unfolding put_exprs
  params-reads es n h = counted-reads no_expr more_expr (held t) (expr_count es) n (each-reads t few expr_levels es h)

  modifiers-reads : {s : List ℕ} {at : ℕ} (ms : List GateModifier) → VecFits (ModifierFits t) ms → Reads s at (vec (modifier t)) (put_vec put_modifier ms) ms
  modifiers-reads ms h = vec-reads (modifier t) put_modifier (ModifierFits t) (λ s at m g. modifier-reads m g) ms h

  typed-reads : {s : List ℕ} {at : ℕ} (ps : List (ClassicalType × TextNumber)) → VecFits (ParamFits t) ps → Reads s at (vec (param t)) (put_vec put_param ps) ps
  typed-reads ps h = vec-reads (param t) put_param (ParamFits t) (λ s at p g. param-reads p g) ps h

  target_reads : {s : List ℕ} {at : ℕ} (q : Option GateOperand) → OptionFits (OperandFits t) q → Reads s at (option (operand t)) (put_option put_operand q) q
  target_reads q h = option-reads (operand t) put_operand (OperandFits t) (λ s at a g. operand-reads a g) q h

  -- below its case byte
  stmt-case : {s : List ℕ} {at : ℕ} (left c : ℕ) {bs : List ℕ} {a : Stmt} → 0 < left → c < 15 → Reads s (at + 1) (get_or (stmt_cases t (stmt t (left - 1)) at) c (refuse 4 at)) bs a → Reads s at (stmt t left) (c ∷ bs) a
  unfolding stmt
  stmt-case zero c l h p = absurd (omega arith)
  stmt-case (suc left) c l h p = choice-reads 15 _ c h (rw sub-one at p)

  mutual
    unfolding put_stmt StmtFits stmt_cases include qubit_decl bit_decl classical_decl assignment gate_call gate_def function_def measure reset barrier delay branch for_loop while_loop to_else else_body repeat stmt_count flatten

    pub stmt-reads : {s : List ℕ} (left at : ℕ) (a : Stmt) → StmtFits t left at a → Reads s at (stmt t left) (put_stmt a) a
    stmt-reads left at (Stmt.Include p x sp) h =
        rw h.0.stands (stmt-case left 0 h.0.level (lit< tt) (seq _ (string_reads t few is_path x h.1) (seq _ (span-reads h.2) done-reads)))
    stmt-reads left at (Stmt.QubitDecl p x size sp) h =
        rw h.0.stands (stmt-case left 1 h.0.level (lit< tt) (seq _ (name-reads x h.1) (seq _ (size-reads size h.2) (seq _ (span-reads h.3) done-reads))))
    stmt-reads left at (Stmt.BitDecl p x size sp) h =
        rw h.0.stands (stmt-case left 2 h.0.level (lit< tt) (seq _ (name-reads x h.1) (seq _ (size-reads size h.2) (seq _ (span-reads h.3) done-reads))))
    stmt-reads left at (Stmt.ClassicalDecl p q ty x init sp) h =
        rw h.0.stands (stmt-case left 3 h.0.level (lit< tt) (seq _ (qualified_reads q) (seq _ (type_reads ty) (seq _ (name-reads x h.1) (seq _ (maybe_reads init h.2) (seq _ (span-reads h.3) done-reads))))))
    stmt-reads left at (Stmt.Assignment p x op e sp) h =
        rw h.0.stands (stmt-case left 4 h.0.level (lit< tt) (seq _ (name-reads x h.1) (seq _ (assign_reads op) (seq _ (held_reads e h.2) (seq _ (span-reads h.3) done-reads)))))
    stmt-reads left at (Stmt.GateCall p x ms es qs sp) h =
        rw h.0.stands (stmt-case left 5 h.0.level (lit< tt) (seq _ (name-reads x h.1) (seq _ (modifiers-reads ms h.2) (seq _ (params-reads es h.3 h.4) (seq _ (operands_reads qs h.5) (seq _ (span-reads h.6) done-reads))))))
    stmt-reads left at (Stmt.GateDef p x ps qs b sp) h =
        rw h.0.stands (stmt-case left 6 h.0.level (lit< tt) (seq _ (name-reads x h.1) (seq _ (names-reads ps h.2) (seq _ (names-reads qs h.3) (seq _ (body_reads _ b h.4 (all-reads (left - 1) _ b h.5)) (seq _ (span-reads h.6) done-reads))))))
    stmt-reads left at (Stmt.FunctionDef p x ps ty e sp) h =
        rw h.0.stands (stmt-case left 7 h.0.level (lit< tt) (seq _ (name-reads x h.1) (seq _ (typed-reads ps h.2) (seq _ (type_reads ty) (seq _ (held_reads e h.3) (seq _ (span-reads h.4) done-reads))))))
    stmt-reads left at (Stmt.Measure p q target sp) h =
        rw h.0.stands (stmt-case left 8 h.0.level (lit< tt) (seq _ (operand-reads q h.1) (seq _ (target_reads target h.2) (seq _ (span-reads h.3) done-reads))))
    stmt-reads left at (Stmt.Reset p q sp) h =
        rw h.0.stands (stmt-case left 9 h.0.level (lit< tt) (seq _ (operand-reads q h.1) (seq _ (span-reads h.2) done-reads)))
    stmt-reads left at (Stmt.Barrier p qs sp) h =
        rw h.0.stands (stmt-case left 10 h.0.level (lit< tt) (seq _ (operands_reads qs h.1) (seq _ (span-reads h.2) done-reads)))
    stmt-reads left at (Stmt.Delay p e qs sp) h =
        rw h.0.stands (stmt-case left 11 h.0.level (lit< tt) (seq _ (held_reads e h.1) (seq _ (operands_reads qs h.2) (seq _ (span-reads h.3) done-reads))))
    stmt-reads left at (Stmt.If p e b c sp) h =
        rw h.0.stands (stmt-case left 12 h.0.level (lit< tt) (seq _ (held_reads e h.1) (seq _ (body_reads _ b h.2 (all-reads (left - 1) _ b h.3)) (seq _ (else_reads (left - 1) _ c h.4) (seq _ (span-reads h.5) done-reads)))))
    stmt-reads left at (Stmt.For p x ty r b sp) h =
        rw h.0.stands (stmt-case left 13 h.0.level (lit< tt) (seq _ (name-reads x h.1) (seq _ (type_reads ty) (seq _ (range_reads r h.2) (seq _ (body_reads _ b h.3 (all-reads (left - 1) _ b h.4)) (seq _ (span-reads h.5) done-reads))))))
    stmt-reads left at (Stmt.While p e b sp) h =
        rw h.0.stands (stmt-case left 14 h.0.level (lit< tt) (seq _ (held_reads e h.1) (seq _ (body_reads _ b h.2 (all-reads (left - 1) _ b h.3)) (seq _ (span-reads h.4) done-reads))))

    pub all-reads : {s : List ℕ} (left at : ℕ) (b : Stmts) → AllFit t left at b → Reads s at (repeat no_stmt more_stmt (stmt t left) (stmt_count b)) (put_all b) b
    all-reads left at no_stmt h = done-reads
    all-reads left at (more_stmt a b) h = seq _ (stmt-reads left at a h.0) (last _ (all-reads left (at + length (put_stmt a)) b h.1))

    else_reads : {s : List ℕ} (left at : ℕ) (c : Else) → ElseFits t left at c → Reads s at (else_body (stmt t left)) (put_else c) c
    else_reads left at no_else h = last to_else (none_reads (body (stmt t left)))
    else_reads left at (some_else b) h = last to_else (some-reads (body (stmt t left)) (body_reads _ b h.0 (all-reads left _ b h.1)))
