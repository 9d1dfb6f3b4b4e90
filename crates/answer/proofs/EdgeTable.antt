-- The starred edges: for each row the definitions compute the answer and the listing that the row has. Assumes nothing.
use mathlib.Core.Path.{◌≡◌, refl}
use mathlib.Core.List.{List, [], ◌∷◌, map, flatten}
use Rattle.text.specs.Big.{value}
use Rattle.ast.specs.Tree.{expr_count}
use Rattle.answer.specs.Edges.{Edge, no_statements, qubit_declaration, keys_256, keys_257, levels_8, levels_9, expression_levels_32, expression_levels_33, gate_on_q_after_measure_of_index_0, slice_1_0_marks_nothing, slice_1_0_is_covered_by_none, measure_of_size_0, measure_of_size_0_sets_no_index, measure-in_one-arm, loop-body-once, power-has-value, power-has-none, quotient_towards_zero, control_count_0, example}
use Rattle.tree.specs.Ans.{bind, ◌>>=◌, ◌>>◌, done, here, refuse, check}
use Rattle.tree.specs.Read.{within, byte, bytes, number, span, case_byte, one_of, bool, option_case, option, repeat, count, counted}
use Rattle.tree.specs.Texts.{allowed, among, text, more_texts, texts, letter, digit, every, digits, is_name, fraction, is_float, is_path}
use Rattle.tree.specs.Exprs.{const_kind, bin_op, compare_op, text_number, int_lit, float_lit, bool_lit, ident, index, call, const, neg, binary, compare, expr_cases, expr}
use Rattle.tree.specs.Stmts.{classical_type, qualifier, assign_op, slice, body, to_else, else_body, operand, ctrl, neg_ctrl, inv, pow, modifier, for_range, param, include, qubit_decl, bit_decl, classical_decl, assignment, gate_call, gate_def, function_def, measure, reset, barrier, delay, branch, for_loop, while_loop, stmt_cases, stmt}
use Rattle.tree.specs.Decode.{size, nothing_left, file, decode}
use Rattle.tree.specs.Encode.{big, put_span, put_option, put_vec, put_bool, put_type, put_qualifier, put_assign_op, put_bin_op, put_compare_op, put_const_kind, put_expr, put_each, put_exprs, put_slice, put_operand, put_modifier, put_range, put_param, stmt_count, put_counted, put_stmt, put_all, put_else, put_text, put_texts, encode}
use Rattle.text.specs.Decimal.{front, decimal}
use Rattle.types.specs.Types.{assignable_to, arithmetic_of}
use Rattle.types.specs.Names.{name_of}
use Rattle.gates.specs.Gates.{gates, lower, lookup, signature_of}
use Rattle.int128.specs.Whole.{magnitude_of, limit, checked, quotient, divided, powered, positive, word_of}
use Rattle.sema.specs.Messages.{expected_name, kind_name, context_name, name_at, subscript, operand_text, message_parts, note_parts}
use Rattle.sema.specs.Symbols.{insert, get, get_current, declare, declare_says, decl_kind, after, insert_all, gate_scope, function_scope, loop_scope}
use Rattle.sema.specs.Marks.{in_slice, is_index, size_of, below_size, measures, resets, mark_measured, clear_measured, effect, mark, apply, unite, after_loop, lookup_measured, first_covered, smallest_covered}
use Rattle.sema.specs.Constants.{within as sema-within, divide, power, operate, eval_const_int, as_count, count_of, add_count, add_controls, modifier_control_count, controls}
use Rattle.sema.specs.Operands.{fits, is_gate_qubit, index_says, slice_says, bounds_say, check_operand, slice_width, width_by, operand_width, used_says, used_index_says, use_by, use_operands}
use Rattle.sema.specs.Exprs.{expr_span, ident_type, bit_index_type, index_type, neg_type, arithmetic_type, compare_type, mismatch, not_numeric, argument_says, rest, check_expr, check_all, check_arguments, require_type, require_numeric, control_says, check_modifier, check_modifiers}
use Rattle.sema.specs.Stmts.{init_says, classical_says, assign_says, target_says, assignment_says, arity_says, params_say, wide, register_widths, all_equal, widths_say, measure_target, measure_says, step_says, range_says, gate_says, define_function, function_says, standard_says, signature_says, gate_call_says, analyze_stmt, analyze_stmts, analyze_else, analyze}
use Rattle.sema.specs.Keys.{same_index, same_key, has_key, add_key, add_indices, add_range, add_measured, keys_stmt, keys_stmts, keys_else, keys}
use Rattle.listing.specs.Listing.{spaced, ended, letter as listing-letter, span_line, note_lines, diagnostic_line, diagnostic_lines, tally, count_of as listing-countOf, first_line, listing_of, listing}
use Rattle.answer.specs.Answer.{unless_refused, judge_listing, judge_diagnostics, judge_program, judge_file, answer, listing_file, listing_after, scratch_after}
use lib.IntN.{pow as pow-int, one as one_Int}

-- the rows
pub edges : List Edge
edges =
    no_statements
    ∷ qubit_declaration
    ∷ keys_256
    ∷ keys_257
    ∷ levels_8
    ∷ levels_9
    ∷ expression_levels_32
    ∷ expression_levels_33
    ∷ gate_on_q_after_measure_of_index_0
    ∷ slice_1_0_marks_nothing
    ∷ slice_1_0_is_covered_by_none
    ∷ measure_of_size_0
    ∷ measure_of_size_0_sets_no_index
    ∷ measure-in_one-arm
    ∷ loop-body-once
    ∷ power-has-value
    ∷ power-has-none
    ∷ quotient_towards_zero
    ∷ control_count_0
    ∷ example
    ∷ []

-- a row as the definitions give it
pub computed : Edge → Edge
unfolding bind ◌>>=◌ ◌>>◌ done here refuse check within byte bytes value number span case_byte one_of bool option_case option repeat count counted allowed among text more_texts texts letter digit every digits is_name fraction is_float is_path const_kind bin_op compare_op text_number int_lit float_lit bool_lit ident index call const neg binary compare expr_cases expr classical_type qualifier assign_op slice body to_else else_body operand ctrl neg_ctrl inv pow modifier for_range param include qubit_decl bit_decl classical_decl assignment gate_call gate_def function_def measure reset barrier delay branch for_loop while_loop stmt_cases stmt size nothing_left file decode big put_span put_option put_vec put_bool put_type put_qualifier put_assign_op put_bin_op put_compare_op put_const_kind expr_count put_expr put_each put_exprs put_slice put_operand put_modifier put_range put_param stmt_count put_counted put_stmt put_all put_else put_text put_texts encode front decimal assignable_to arithmetic_of name_of gates lower lookup signature_of magnitude_of limit checked quotient divided powered positive word_of expected_name kind_name context_name name_at subscript operand_text message_parts note_parts insert get get_current declare declare_says decl_kind after insert_all gate_scope function_scope loop_scope in_slice is_index size_of below_size measures resets mark_measured clear_measured effect mark apply unite after_loop lookup_measured first_covered smallest_covered sema-within divide power operate eval_const_int as_count count_of add_count add_controls modifier_control_count controls fits is_gate_qubit index_says slice_says bounds_say check_operand slice_width width_by operand_width used_says used_index_says use_by use_operands expr_span ident_type bit_index_type index_type neg_type arithmetic_type compare_type mismatch not_numeric argument_says rest check_expr check_all check_arguments require_type require_numeric control_says check_modifier check_modifiers init_says classical_says assign_says target_says assignment_says arity_says params_say wide register_widths all_equal widths_say measure_target measure_says step_says range_says gate_says define_function function_says standard_says signature_says gate_call_says analyze_stmt analyze_stmts analyze_else analyze same_index same_key has_key add_key add_indices add_range add_measured keys_stmt keys_stmts keys_else keys spaced ended listing-letter span_line note_lines diagnostic_line diagnostic_lines tally listing-countOf first_line listing_of listing unless_refused judge_listing judge_diagnostics judge_program judge_file answer listing_file listing_after scratch_after pow-int one_Int flatten
computed e =
    record { tree = e.tree; answers = answer e.tree 65536 65536; listing = listing_after e.tree [] (answer e.tree 65536 65536) }

pub edges_hold : map computed edges ≡ edges
unfolding computed edges no_statements qubit_declaration keys_256 keys_257 levels_8 levels_9 expression_levels_32 expression_levels_33 gate_on_q_after_measure_of_index_0 slice_1_0_marks_nothing slice_1_0_is_covered_by_none measure_of_size_0 measure_of_size_0_sets_no_index measure-in_one-arm loop-body-once power-has-value power-has-none quotient_towards_zero control_count_0 example
edges_hold = refl
