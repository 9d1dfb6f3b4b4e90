-- Single programs: the errors counted, as the analysis computes them, and as the paths have them. Assumes nothing.
use mathlib.Core.Path.{◌≡◌, refl}
use mathlib.Core.List.{List, [], ◌∷◌, map}
use mathlib.Core.Option.{none, some}
use mathlib.Core.Logic.{inl, inr}
use Rattle.text.specs.Text.{text}
use Rattle.ast.specs.Tree.{Stmt, Program, expr_count}
use Rattle.ast.specs.Build.{nth, block, whole, index, slice, qubit, measure, reset, h, if, if_else, while}
use Rattle.sema.specs.Messages
use Rattle.types.specs.Types.{assignable_to}
use Rattle.gates.specs.Gates.{gates, lower, lookup, signature_of}
use Rattle.sema.specs.Symbols.{Symbols, insert, get, get_current, declare, declare_says, after, insert_all, gate_scope, loop_scope}
use Rattle.sema.specs.Marks.{in_slice, is_index, size_of, below_size, measures, resets, mark_measured, clear_measured, effect, mark, apply, unite, after_loop, lookup_measured, first_covered, smallest_covered}
use Rattle.sema.specs.Constants.{add_controls, modifier_control_count, controls}
use Rattle.sema.specs.Operands.{fits, is_gate_qubit, index_says, slice_says, bounds_say, check_operand, slice_width, width_by, operand_width, used_says, used_index_says, use_by, use_operands}
use Rattle.sema.specs.Exprs.{expr_span, mismatch, check_expr, require_type, check_modifiers}
use Rattle.sema.specs.Stmts.{arity_says, params_say, wide, register_widths, all_equal, widths_say, measure_target, measure_says, standard_says, signature_says, gate_says, gate_call_says, analyze_stmt, analyze}
use Rattle.paths.specs.Places.{place, places_of}
use Rattle.paths.specs.Errors.{Line, line, use_lines, ErrsOn, Number, nil, one}
use Rattle.paths.proofs.Demand3.{demand_3_for}

abbrev program : List Stmt → Program
program ss = record { texts = text "q" ∷ text "h" ∷ []; statements = block ss }

-- a program, and the errors counted of it
pub record Row : Type 0 where
  pub statements : List Stmt
  pub lines : List Line

-- one-armed measure, then a gate
one_armed : Row
one_armed = record { statements = qubit none 0 ∷ if (measure whole 2 ∷ []) 1 ∷ h whole 3 ∷ []; lines = line (nth 3) (Messages.used whole) ∷ [] }

-- measured, and reset in an arm that may be skipped, in a loop that may be skipped
past-arm : Row
past-arm = record { statements = qubit none 0 ∷ measure whole 1 ∷ if (reset whole 3 ∷ []) 2 ∷ h whole 4 ∷ []; lines = line (nth 4) (Messages.used whole) ∷ [] }

past-loop : Row
past-loop = record { statements = qubit none 0 ∷ measure whole 1 ∷ while (reset whole 3 ∷ []) 2 ∷ h whole 4 ∷ []; lines = line (nth 4) (Messages.used whole) ∷ [] }

-- loop body `h q; measure q`
loop-body : Row
loop-body = record { statements = qubit none 0 ∷ while (h whole 2 ∷ measure whole 3 ∷ []) 1 ∷ []; lines = [] }

-- measured in both arms, reset in one of them
both-arms : Row
both-arms = record { statements = qubit none 0 ∷ if_else (measure whole 2 ∷ reset whole 3 ∷ []) (measure whole 4 ∷ []) 1 ∷ h whole 5 ∷ []; lines = line (nth 5) (Messages.used whole) ∷ [] }

-- measured in one arm, used in the other
other_arm : Row
other_arm = record { statements = qubit none 0 ∷ if_else (measure whole 2 ∷ []) (h whole 3 ∷ []) 1 ∷ []; lines = [] }

-- two equal operands
equal_operands : Row
equal_operands = record { statements = qubit none 0 ∷ measure whole 1 ∷ Stmt.Barrier 0 (whole ∷ whole ∷ []) (nth 2) ∷ []; lines = line (nth 2) (Messages.used whole) ∷ line (nth 2) (Messages.used whole) ∷ [] }

-- a slice is named by its smallest covered index, and the indices may be covered on different paths
slice_index : Row
slice_index = record { statements = qubit (some 4) 0 ∷ if_else (measure (index 2) 2 ∷ []) (measure (index 1) 3 ∷ []) 1 ∷ h (slice 0 3) 4 ∷ []; lines = line (nth 4) (Messages.used_index 0 1) ∷ [] }

-- "the whole key remains"
whole-key : Row
whole-key = record { statements = qubit (some 2) 0 ∷ measure whole 1 ∷ reset (index 0) 2 ∷ h (slice 0 1) 3 ∷ h (slice 1 0) 4 ∷ []; lines = line (nth 3) (Messages.used_index 0 0) ∷ [] }

-- a gate's body comes once, with the marks that stand there
gate_body : Row
gate_body = record { statements = qubit none 0 ∷ measure whole 1 ∷ Stmt.GateDef 0 1 [] (0 ∷ []) (block (h whole 3 ∷ reset whole 4 ∷ [])) (nth 2) ∷ h whole 5 ∷ []; lines = line (nth 3) (Messages.used whole) ∷ [] }

rows : List Row
rows = one_armed ∷ past-arm ∷ past-loop ∷ loop-body ∷ both-arms ∷ other_arm ∷ equal_operands ∷ slice_index ∷ whole-key ∷ gate_body ∷ []

computed : Row → Row
unfolding assignable_to gates lower lookup signature_of insert get get_current declare declare_says after insert_all gate_scope loop_scope in_slice is_index size_of below_size measures resets mark_measured clear_measured effect mark apply unite after_loop lookup_measured first_covered smallest_covered add_controls modifier_control_count controls fits is_gate_qubit index_says slice_says bounds_say check_operand slice_width width_by operand_width used_says used_index_says use_by use_operands expr_span mismatch check_expr require_type check_modifiers expr_count arity_says params_say wide register_widths all_equal widths_say measure_target measure_says standard_says signature_says gate_says gate_call_says analyze_stmt analyze
computed r = record { statements = r.statements; lines = use_lines (analyze (program r.statements)) }

rows_hold : map computed rows ≡ rows
unfolding computed rows one_armed past-arm past-loop loop-body both-arms other_arm equal_operands slice_index whole-key gate_body
rows_hold = refl

-- ── By the theorem, of the paths ──

-- two places of one statement with one error
two-places : Number (λ q. (l : Line) × ErrsOn (program equal_operands.statements) q l × (l ≡ line (nth 2) (Messages.used whole))) (places_of (program equal_operands.statements)) 2
unfolding computed equal_operands
two-places = (demand_3_for (program equal_operands.statements) (λ l. l ≡ line (nth 2) (Messages.used whole)) 2).1 (one refl (one refl nil))

-- no path reaches the gate of the loop with a mark standing
no_place : Number (λ q. (l : Line) × ErrsOn (program loop-body.statements) q l × Unit {0}) (places_of (program loop-body.statements)) 0
unfolding computed loop-body
no_place = (demand_3_for (program loop-body.statements) (λ l. Unit {0}) 0).1 nil

-- ── Of the paths, without the analysis ──

-- the path through the arm reaches the gate with a mark standing
through_the_arm : (ss : Symbols) → ErrsOn (program one_armed.statements) (place 3 ss (nth 3) 0 whole) (line (nth 3) (Messages.used whole))
unfolding computed one_armed
through_the_arm ss = (record { path = (tt, (inl (tt, tt), (tt, tt))); reaches = inr (inr (inr (inl (refl, tt)))) }, refl)

-- and the paths that skip the arm and the loop
past_the_arm : (ss : Symbols) → ErrsOn (program past-arm.statements) (place 4 ss (nth 4) 0 whole) (line (nth 4) (Messages.used whole))
unfolding computed past-arm
past_the_arm ss = (record { path = (tt, (tt, (inr tt, (tt, tt)))); reaches = inr (inr (inr (inl (refl, tt)))) }, refl)

past_the_loop : (ss : Symbols) → ErrsOn (program past-loop.statements) (place 4 ss (nth 4) 0 whole) (line (nth 4) (Messages.used whole))
unfolding computed past-loop
past_the_loop ss = (record { path = (tt, (tt, (inr tt, (tt, tt)))); reaches = inr (inr (inr (inl (refl, tt)))) }, refl)
