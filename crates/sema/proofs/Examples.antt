-- The analysis at single programs, computed: each row a program and what is said of it. Assumes nothing.
use Prim.Native.Nat.{ℕ}
use mathlib.Core.Path.{◌≡◌, refl}
use mathlib.Core.List.{List, [], ◌∷◌, map}
use mathlib.Core.Option.{none, some}
use lib.ListN.{length}
use Rattle.text.specs.Text.{text}
use Rattle.ast.specs.Tree.{Expr, GateOperand, Stmt, expr_count}
use Rattle.ast.specs.declared.ClassicalType.{ClassicalType}
use Rattle.ast.specs.declared.ClassicalQualifier.{ClassicalQualifier}
use Rattle.ast.specs.declared.BinOp.{BinOp}
use Rattle.ast.specs.Build.{span, nth, block, whole, index, slice, qubit, measure, reset as reset-stmt, h, if, if_else, while, int, minus, op, controlled}
use Rattle.sema.specs.Marks.{key}
use Rattle.sema.specs.Messages
use Rattle.sema.specs.Messages.{Diagnostic, error, error_with_note, warning}
use Rattle.types.specs.Types.{assignable_to, arithmetic_of}
use Rattle.types.specs.Names.{name_of}
use Rattle.gates.specs.Gates.{gates, lower, lookup, signature_of}
use Rattle.int128.specs.Whole.{magnitude_of, limit, checked, quotient, divided, powered, positive, word_of}
use Rattle.sema.specs.Symbols.{insert, get, get_current, declare, declare_says, decl_kind, after, insert_all, gate_scope, function_scope, loop_scope}
use Rattle.sema.specs.Marks.{in_slice, is_index, size_of, below_size, measures, resets, mark_measured, clear_measured, effect, mark, apply, unite, after_loop, lookup_measured, first_covered, smallest_covered}
use Rattle.sema.specs.Constants.{within, divide, power, operate, eval_const_int, as_count, count_of, add_count, add_controls, modifier_control_count, controls}
use Rattle.sema.specs.Operands.{fits, is_gate_qubit, index_says, slice_says, bounds_say, check_operand, slice_width, width_by, operand_width, used_says, used_index_says, use_by, use_operands}
use Rattle.sema.specs.Exprs.{expr_span, ident_type, bit_index_type, index_type, neg_type, arithmetic_type, compare_type, mismatch, not_numeric, argument_says, rest, check_expr, check_all, check_arguments, require_type, require_numeric, control_says, check_modifier, check_modifiers}
use Rattle.sema.specs.Stmts.{init_says, classical_says, assign_says, target_says, assignment_says, arity_says, params_say, wide, register_widths, all_equal, widths_say, measure_target, measure_says, step_says, range_says, gate_says, define_function, function_says, standard_says, signature_says, gate_call_says, analyze_stmt, analyze_stmts, analyze_else, analyze}
use Rattle.sema.specs.Keys.{same_index, same_key, has_key, add_key, add_indices, add_range, add_measured, keys_stmt, keys_stmts, keys_else, keys}
use lib.IntN.{pos, negsuc, pow as pow-int, one as one_Int}

pub record Row : Type 0 where
  pub program : List Stmt
  pub said : List Diagnostic

-- statement k uses an operand that statement m measured
abbrev after-measure : GateOperand → ℕ → ℕ → Diagnostic
after-measure o k m = error_with_note (Messages.used o) (nth k) Messages.measured_here (nth m)

-- statement k uses q[i], of a slice, that statement m measured
abbrev slice-after : ℕ → ℕ → ℕ → Diagnostic
slice-after i k m = error_with_note (Messages.used_index 0 i) (nth k) Messages.measured_here (nth m)

abbrev again : GateOperand → ℕ → Diagnostic
again o k = warning (Messages.already_measured o) (nth k)

-- "`else` starts from the entry marks"
else_from_entry : Row
else_from_entry = record { program = qubit none 0 ∷ if_else (measure whole 2 ∷ []) (h whole 3 ∷ []) 1 ∷ []; said = [] }

-- a mark of either arm stands after both
either-arm : Row
either-arm = record { program = qubit none 0 ∷ if_else [] (measure whole 2 ∷ []) 1 ∷ h whole 3 ∷ []; said = after-measure whole 3 2 ∷ [] }

-- "the place of the entry .. side wins"; the second measure warns
entry_wins : Row
entry_wins = record { program = qubit none 0 ∷ measure whole 1 ∷ if (measure whole 3 ∷ []) 2 ∷ h whole 4 ∷ []; said = again whole 3 ∷ after-measure whole 4 1 ∷ [] }

-- with an `else`, even an empty one, the `then` side wins
then_wins : Row
then_wins = record { program = qubit none 0 ∷ measure whole 1 ∷ if_else (measure whole 3 ∷ []) [] 2 ∷ h whole 4 ∷ []; said = again whole 3 ∷ after-measure whole 4 3 ∷ [] }

-- "`measure q; reset q[0]; h q[0]` errs"
whole-key-remains : Row
whole-key-remains = record { program = qubit (some 2) 0 ∷ measure whole 1 ∷ reset-stmt (index 0) 2 ∷ h (index 0) 3 ∷ []; said = after-measure (index 0) 3 1 ∷ [] }

-- "Reset q clears every key of that text."
reset_clears : Row
reset_clears = record { program = qubit (some 2) 0 ∷ measure whole 1 ∷ reset-stmt whole 2 ∷ h (index 0) 3 ∷ h whole 4 ∷ []; said = [] }

-- "For a slice only the whole key counts."
slice_warns_by_whole_key : Row
slice_warns_by_whole_key = record { program = qubit (some 2) 0 ∷ measure (slice 0 1) 1 ∷ measure (slice 0 1) 2 ∷ measure whole 3 ∷ measure (slice 0 1) 4 ∷ []; said = again (slice 0 1) 4 ∷ [] }

-- "A covered slice reports its smallest covered index."
smallest-index : Row
smallest-index = record { program = qubit (some 4) 0 ∷ measure (index 2) 1 ∷ measure (index 1) 2 ∷ h (slice 0 3) 3 ∷ []; said = slice-after 1 3 2 ∷ [] }

-- `const` names have no constant value
const-has-no_value : Row
const-has-no_value = record { program = Stmt.ClassicalDecl 0 (some ClassicalQualifier.Const) ClassicalType.Int 1 (some (int 1)) (nth 0) ∷ qubit (some 2) 1 ∷ controlled (Expr.Ident 1 (span 0 0)) (index 0 ∷ []) 2 ∷ []; said = error Messages.control_count (span 1 2) ∷ [] }

-- int does not take uint
int_refuses_uint : Row
int_refuses_uint = record { program = Stmt.ClassicalDecl 0 none ClassicalType.UInt 0 none (nth 0) ∷ Stmt.ClassicalDecl 0 none ClassicalType.Int 1 (some (Expr.Ident 0 (span 5 6))) (nth 1) ∷ []; said = error (Messages.cannot_initialize ClassicalType.Int 1 ClassicalType.UInt) (span 5 6) ∷ [] }

-- "A gate definition's body is walked where it stands, with the marks of that moment."
gate_body-marks : Row
gate_body-marks = record { program = qubit none 0 ∷ measure whole 1 ∷ Stmt.GateDef 0 1 [] (0 ∷ []) (block (h whole 3 ∷ [])) (nth 2) ∷ []; said = after-measure whole 3 1 ∷ [] }

-- "A loop body is walked once."
loop-once : Row
loop-once = record { program = qubit none 0 ∷ while (h whole 2 ∷ measure whole 3 ∷ []) 1 ∷ h whole 4 ∷ []; said = after-measure whole 4 3 ∷ [] }

rows : List Row
rows =
    else_from_entry
    ∷ either-arm
    ∷ entry_wins
    ∷ then_wins
    ∷ whole-key-remains
    ∷ reset_clears
    ∷ slice_warns_by_whole_key
    ∷ smallest-index
    ∷ const-has-no_value
    ∷ int_refuses_uint
    ∷ gate_body-marks
    ∷ loop-once
    ∷ []

-- a row as the definitions give it; text 1 is h, text 2 is x
computed : Row → Row
unfolding assignable_to arithmetic_of name_of gates lower lookup signature_of magnitude_of limit checked quotient divided powered positive word_of insert get get_current declare declare_says decl_kind after insert_all gate_scope function_scope loop_scope in_slice is_index size_of below_size measures resets mark_measured clear_measured effect mark apply unite after_loop lookup_measured first_covered smallest_covered within divide power operate eval_const_int as_count count_of add_count add_controls modifier_control_count controls fits is_gate_qubit index_says slice_says bounds_say check_operand slice_width width_by operand_width used_says used_index_says use_by use_operands expr_span ident_type bit_index_type index_type neg_type arithmetic_type compare_type mismatch not_numeric argument_says rest expr_count check_expr check_all check_arguments require_type require_numeric control_says check_modifier check_modifiers init_says classical_says assign_says target_says assignment_says arity_says params_say wide register_widths all_equal widths_say measure_target measure_says step_says range_says gate_says define_function function_says standard_says signature_says gate_call_says analyze_stmt analyze_stmts analyze_else analyze same_index same_key has_key add_key add_indices add_range add_measured keys_stmt keys_stmts keys_else keys pow-int one_Int
computed r =
    record {
      program = r.program;
      said = analyze (record { texts = text "q" ∷ text "h" ∷ text "x" ∷ []; statements = block r.program });
    }

rows_hold : map computed rows ≡ rows
unfolding computed rows else_from_entry either-arm entry_wins then_wins whole-key-remains reset_clears slice_warns_by_whole_key smallest-index const-has-no_value int_refuses_uint gate_body-marks loop-once
rows_hold = refl

-- constant values: (-2)**127, 2**127, -7/2, 0**0, a name
values : map eval_const_int
    (op BinOp.Pow (minus (int 2)) (int 127)
    ∷ op BinOp.Pow (int 2) (int 127)
    ∷ op BinOp.Div (minus (int 7)) (int 2)
    ∷ op BinOp.Pow (int 0) (int 0)
    ∷ Expr.Ident 0 (span 0 0)
    ∷ [])
    ≡ some (negsuc 170141183460469231731687303715884105727) ∷ none ∷ some (negsuc 2) ∷ some (pos 1) ∷ none ∷ []
unfolding computed
values = refl

-- `qubit[0] q; measure q;` sets the whole key only
size_0 : keys (record { texts = []; statements = block (qubit (some 0) 0 ∷ measure whole 1 ∷ []) }) ≡ key 0 none ∷ []
unfolding computed
size_0 = refl

-- a size near 2^64 is counted without going through it
size-large : length (keys (record { texts = []; statements = block (qubit (some 18446744073709551615) 0 ∷ measure whole 1 ∷ []) })) ≡ 258
unfolding computed
size-large = refl
