-- What an accepted statement says of its parts, and which tree it is: for each production, the parts are accepted where they stand, the
-- span's bytes are inside, and the whole is this value and this place. A place past a part is a number that equals its end. Assumes nothing.
use Rattle.std.specs.Prelude.{ℕ, ◌+◌, ◌-◌, ◌≤◌, ◌<◌, ◌≡◌, List, [], ◌⊎◌, length, get_or}
use Rattle.std.proofs.Math.Path.{refl}
use Rattle.std.proofs.Common.{sym, inl, inr, arith}
use Rattle.std.proofs.Math.Option.{Option, none}
use Rattle.span.specs.declared.Span.{Span}
use Rattle.ast.specs.Tree.{Text, TextNumber, no_expr, Stmt, no_stmt, no_else}
use Rattle.tree.specs.Ans.{ok, ◌>>=◌, IsOk, next_of}
use Rattle.tree.specs.Read.{u64, option, vec}
use Rattle.tree.specs.Texts.{is_path}
use Rattle.tree.specs.Exprs.{name, exprs}
use Rattle.tree.specs.Stmts.{classical_type, qualifier, assign_op, body, else_body, operand, held, modifier, for_range, param, include, qubit_decl, bit_decl, classical_decl, assignment, gate_call, gate_def, function_def, measure, reset, barrier, delay, branch, for_loop, while_loop, stmt_cases, stmt}
use Rattle.tree.specs.Levels.{stmt_levels}
use Rattle.context.specs.View.{number_at, span_at, type_of}
use Rattle.accepted.specs.Cases.{assign_op_of, one_of_two, blank, blank_operand, blank_range}
use Rattle.accepted.specs.Parts.{value_or, next_is, end_in, Goes, field, known, past, ends}
use Rattle.accepted.specs.Fields.{span_is, one_below, one_is, text_is}
use Rattle.accepted.specs.Spanned.{one, two, three, spanned_is, Named, named, past-name}
use Rattle.accepted.specs.Levels.{level-goes}
use Rattle.accepted.specs.Operands.{type_is}
use Rattle.accepted.specs.Bodies.{stmt-end}

assign_op_is : (s : List ℕ) (at : ℕ) → IsOk (assign_op s at) → assign_op s at ≡ ok (assign_op_of (get_or s at 0)) (at + 1)
unfolding assign_op
assign_op_is s at h = one_is s at _ _ h

module _ (t : List Text) (left : ℕ) (s : List ℕ) (at : ℕ) (h : IsOk (stmt t left s at)) where
  module _ (b : get_or s at 0 ≡ 0) where
    pub include_is : stmt t left s at ≡ ok (Stmt.Include at (number_at 2 s (at + 1)) (span_at s (at + 3))) (at + 11)
    unfolding stmt_cases include
    include_is = ends _ (known _ _ (at + 11) (span_is s (at + 3)) (omega arith) (known _ _ (at + 3) (text_is s (at + 1) t is_path) (omega arith) (level-goes (stmt_levels t) left s at h 0 b)))

    pub include-inside : at + 11 ≤ length s
    include-inside = end_in include_is (stmt-end t left s at h)

  -- a register, of qubits or of bits
  abbrev pub Register : Type 0
  Register = (get_or s at 0 ≡ 1) ⊎ (get_or s at 0 ≡ 2)

  pub register : 0 < get_or s at 0 → get_or s at 0 < 3 → Register
  register l u = one_of_two (get_or s at 0) 1 (omega arith) u

  unfoldable register_of : Register → TextNumber → Option ℕ → Span → Stmt
  register_of (inl b) = Stmt.QubitDecl at
  register_of (inr b) = Stmt.BitDecl at

  register-goes : (b : Register) → Goes (stmt t left s at) (◌>>=◌ (name t) (λ x. one (option u64) (register_of b x))) s (at + 1)
  unfolding stmt_cases qubit_decl bit_decl register_of
  register-goes (inl b) = level-goes (stmt_levels t) left s at h 1 b
  register-goes (inr b) = level-goes (stmt_levels t) left s at h 2 b

  abbrev RegisterIs : (TextNumber → Option ℕ → Span → Stmt) → Type 0
  RegisterIs make = (k : ℕ) → k ≡ next_of (option u64 s (at + 3)) → stmt t left s at ≡ ok (make (number_at 2 s (at + 1)) (value_or none (option u64 s (at + 3))) (span_at s k)) (k + 8)

  module _ (b : Register) where
    pub register-named : Named t s at
    register-named = named t at _ (register-goes b)

    pub register-size : IsOk (option u64 s (at + 3))
    register-size = field _ _ (past-name t at _ (register-goes b))

    register_is : RegisterIs (register_of b)
    register_is k k-end = spanned_is _ (past _ _ none k k-end (past-name t at _ (register-goes b)))

    module _ (k : ℕ) (k-end : k ≡ next_of (option u64 s (at + 3))) where
      pub register-next : k + 8 ≡ next_of (stmt t left s at)
      register-next = sym (next_is (register_is k k-end))

      pub register-inside : k + 8 ≤ length s
      register-inside = end_in (register_is k k-end) (stmt-end t left s at h)

  pub qubit_decl_is : get_or s at 0 ≡ 1 → RegisterIs (Stmt.QubitDecl at)
  unfolding register_of
  qubit_decl_is b = register_is (inl b)

  pub bit_decl_is : get_or s at 0 ≡ 2 → RegisterIs (Stmt.BitDecl at)
  unfolding register_of
  bit_decl_is b = register_is (inr b)

  module _ (b : get_or s at 0 ≡ 3) where
    pub classical_decl-qualifier : IsOk (option qualifier s (at + 1))
    unfolding stmt_cases classical_decl
    classical_decl-qualifier = field _ _ (level-goes (stmt_levels t) left s at h 3 b)

    module _ (k : ℕ) (k-end : k ≡ next_of (option qualifier s (at + 1))) where
      -- behind the type
      classical_decl-behind : Goes (stmt t left s at) (◌>>=◌ (name t) (λ x. one (option (held t)) (Stmt.ClassicalDecl at (value_or none (option qualifier s (at + 1))) (type_of (get_or s k 0)) x))) s (k + 1)
      unfolding stmt_cases classical_decl
      classical_decl-behind = known _ _ (k + 1) (type_is s k) refl (past _ _ none k k-end (level-goes (stmt_levels t) left s at h 3 b))

      pub classical_decl-named : Named t s k
      classical_decl-named = named t k _ classical_decl-behind

      pub classical_decl_init : IsOk (option (held t) s (k + 3))
      classical_decl_init = field _ _ (past-name t k _ classical_decl-behind)

      module _ (m : ℕ) (m-end : m ≡ next_of (option (held t) s (k + 3))) where
        pub classical_decl_is : stmt t left s at ≡ ok (Stmt.ClassicalDecl at (value_or none (option qualifier s (at + 1))) (type_of (get_or s k 0)) (number_at 2 s (k + 1)) (value_or none (option (held t) s (k + 3))) (span_at s m)) (m + 8)
        classical_decl_is = spanned_is _ (past _ _ none m m-end (past-name t k _ classical_decl-behind))

        pub classical_decl-inside : m + 8 ≤ length s
        classical_decl-inside = end_in classical_decl_is (stmt-end t left s at h)

  module _ (b : get_or s at 0 ≡ 4) where
    assignment-goes : Goes (stmt t left s at) (◌>>=◌ (name t) (λ x. ◌>>=◌ assign_op (λ op. one (held t) (Stmt.Assignment at x op)))) s (at + 1)
    unfolding stmt_cases assignment
    assignment-goes = level-goes (stmt_levels t) left s at h 4 b

    pub assignment-named : Named t s at
    assignment-named = named t at _ assignment-goes

    pub assignment_op : get_or s (at + 3) 0 < 3
    unfolding assign_op
    assignment_op = one_below s (at + 3) _ _ (field _ _ (past-name t at _ assignment-goes))

    assignment-behind : Goes (stmt t left s at) (one (held t) (Stmt.Assignment at (number_at 2 s (at + 1)) (assign_op_of (get_or s (at + 3) 0)))) s (at + 4)
    assignment-behind = known _ _ (at + 4) (assign_op_is s (at + 3)) (omega arith) (past-name t at _ assignment-goes)

    pub assignment-value : IsOk (held t s (at + 4))
    assignment-value = field _ _ assignment-behind

    module _ (k : ℕ) (k-end : k ≡ next_of (held t s (at + 4))) where
      pub assignment_is : stmt t left s at ≡ ok (Stmt.Assignment at (number_at 2 s (at + 1)) (assign_op_of (get_or s (at + 3) 0)) (value_or blank (held t s (at + 4))) (span_at s k)) (k + 8)
      assignment_is = spanned_is _ (past _ _ blank k k-end assignment-behind)

      pub assignment-inside : k + 8 ≤ length s
      assignment-inside = end_in assignment_is (stmt-end t left s at h)

  module _ (b : get_or s at 0 ≡ 5) where
    gate_call-goes : Goes (stmt t left s at) (◌>>=◌ (name t) (λ x. three (vec (modifier t)) (exprs (held t)) (vec (operand t)) (Stmt.GateCall at x))) s (at + 1)
    unfolding stmt_cases gate_call
    gate_call-goes = level-goes (stmt_levels t) left s at h 5 b

    pub gate_call-named : Named t s at
    gate_call-named = named t at _ gate_call-goes

    pub gate_call-modifiers : IsOk (vec (modifier t) s (at + 3))
    gate_call-modifiers = field _ _ (past-name t at _ gate_call-goes)

    module _ (k : ℕ) (k-end : k ≡ next_of (vec (modifier t) s (at + 3))) where
      -- behind the modifiers
      gate_call-behind : Goes (stmt t left s at) (two (exprs (held t)) (vec (operand t)) (Stmt.GateCall at (number_at 2 s (at + 1)) (value_or [] (vec (modifier t) s (at + 3))))) s k
      gate_call-behind = past _ _ [] k k-end (past-name t at _ gate_call-goes)

      pub gate_call-params : IsOk (exprs (held t) s k)
      gate_call-params = field _ _ gate_call-behind

      module _ (m : ℕ) (m-end : m ≡ next_of (exprs (held t) s k)) where
        pub gate_call-args : IsOk (vec (operand t) s m)
        gate_call-args = field _ _ (past _ _ no_expr m m-end gate_call-behind)

        module _ (n : ℕ) (n-end : n ≡ next_of (vec (operand t) s m)) where
          pub gate_call_is : stmt t left s at ≡ ok (Stmt.GateCall at (number_at 2 s (at + 1)) (value_or [] (vec (modifier t) s (at + 3))) (value_or no_expr (exprs (held t) s k)) (value_or [] (vec (operand t) s m)) (span_at s n)) (n + 8)
          gate_call_is = spanned_is _ (past _ _ [] n n-end (past _ _ no_expr m m-end gate_call-behind))

          pub gate_call-inside : n + 8 ≤ length s
          gate_call-inside = end_in gate_call_is (stmt-end t left s at h)

  module _ (b : get_or s at 0 ≡ 6) where
    gate_def-goes : Goes (stmt t left s at) (◌>>=◌ (name t) (λ x. three (vec (name t)) (vec (name t)) (body (stmt t (left - 1))) (Stmt.GateDef at x))) s (at + 1)
    unfolding stmt_cases gate_def
    gate_def-goes = level-goes (stmt_levels t) left s at h 6 b

    pub gate_def-named : Named t s at
    gate_def-named = named t at _ gate_def-goes

    pub gate_def-params : IsOk (vec (name t) s (at + 3))
    gate_def-params = field _ _ (past-name t at _ gate_def-goes)

    module _ (k : ℕ) (k-end : k ≡ next_of (vec (name t) s (at + 3))) where
      pub gate_def_qparams : IsOk (vec (name t) s k)
      gate_def_qparams = field _ _ (past _ _ [] k k-end (past-name t at _ gate_def-goes))

      module _ (m : ℕ) (m-end : m ≡ next_of (vec (name t) s k)) where
        -- behind the names
        gate_def-behind : Goes (stmt t left s at) (one (body (stmt t (left - 1))) (Stmt.GateDef at (number_at 2 s (at + 1)) (value_or [] (vec (name t) s (at + 3))) (value_or [] (vec (name t) s k)))) s m
        gate_def-behind = past _ _ [] m m-end (past _ _ [] k k-end (past-name t at _ gate_def-goes))

        pub gate_def-body : IsOk (body (stmt t (left - 1)) s m)
        gate_def-body = field _ _ gate_def-behind

        module _ (n : ℕ) (n-end : n ≡ next_of (body (stmt t (left - 1)) s m)) where
          pub gate_def_is : stmt t left s at ≡ ok (Stmt.GateDef at (number_at 2 s (at + 1)) (value_or [] (vec (name t) s (at + 3))) (value_or [] (vec (name t) s k)) (value_or no_stmt (body (stmt t (left - 1)) s m)) (span_at s n)) (n + 8)
          gate_def_is = spanned_is _ (past _ _ no_stmt n n-end gate_def-behind)

          pub gate_def-inside : n + 8 ≤ length s
          gate_def-inside = end_in gate_def_is (stmt-end t left s at h)

  module _ (b : get_or s at 0 ≡ 7) where
    function_def-goes : Goes (stmt t left s at) (◌>>=◌ (name t) (λ x. ◌>>=◌ (vec (param t)) (λ params. ◌>>=◌ classical_type (λ ty. one (held t) (Stmt.FunctionDef at x params ty))))) s (at + 1)
    unfolding stmt_cases function_def
    function_def-goes = level-goes (stmt_levels t) left s at h 7 b

    pub function_def-named : Named t s at
    function_def-named = named t at _ function_def-goes

    pub function_def-params : IsOk (vec (param t) s (at + 3))
    function_def-params = field _ _ (past-name t at _ function_def-goes)

    module _ (k : ℕ) (k-end : k ≡ next_of (vec (param t) s (at + 3))) where
      -- behind the type
      function_def-behind : Goes (stmt t left s at) (one (held t) (Stmt.FunctionDef at (number_at 2 s (at + 1)) (value_or [] (vec (param t) s (at + 3))) (type_of (get_or s k 0)))) s (k + 1)
      function_def-behind = known _ _ (k + 1) (type_is s k) refl (past _ _ [] k k-end (past-name t at _ function_def-goes))

      pub function_def-body : IsOk (held t s (k + 1))
      function_def-body = field _ _ function_def-behind

      module _ (m : ℕ) (m-end : m ≡ next_of (held t s (k + 1))) where
        pub function_def_is : stmt t left s at ≡ ok (Stmt.FunctionDef at (number_at 2 s (at + 1)) (value_or [] (vec (param t) s (at + 3))) (type_of (get_or s k 0)) (value_or blank (held t s (k + 1))) (span_at s m)) (m + 8)
        function_def_is = spanned_is _ (past _ _ blank m m-end function_def-behind)

        pub function_def-inside : m + 8 ≤ length s
        function_def-inside = end_in function_def_is (stmt-end t left s at h)

  module _ (b : get_or s at 0 ≡ 8) where
    measure-goes : Goes (stmt t left s at) (two (operand t) (option (operand t)) (Stmt.Measure at)) s (at + 1)
    unfolding stmt_cases measure
    measure-goes = level-goes (stmt_levels t) left s at h 8 b

    pub measure-qubit : IsOk (operand t s (at + 1))
    measure-qubit = field _ _ measure-goes

    module _ (k : ℕ) (k-end : k ≡ next_of (operand t s (at + 1))) where
      pub measure_target_lem : IsOk (option (operand t) s k)
      measure_target_lem = field _ _ (past _ _ blank_operand k k-end measure-goes)

      module _ (m : ℕ) (m-end : m ≡ next_of (option (operand t) s k)) where
        pub measure_is : stmt t left s at ≡ ok (Stmt.Measure at (value_or blank_operand (operand t s (at + 1))) (value_or none (option (operand t) s k)) (span_at s m)) (m + 8)
        measure_is = spanned_is _ (past _ _ none m m-end (past _ _ blank_operand k k-end measure-goes))

        pub measure-inside : m + 8 ≤ length s
        measure-inside = end_in measure_is (stmt-end t left s at h)

  module _ (b : get_or s at 0 ≡ 9) where
    reset-goes : Goes (stmt t left s at) (one (operand t) (Stmt.Reset at)) s (at + 1)
    unfolding stmt_cases reset
    reset-goes = level-goes (stmt_levels t) left s at h 9 b

    pub reset_target : IsOk (operand t s (at + 1))
    reset_target = field _ _ reset-goes

    module _ (k : ℕ) (k-end : k ≡ next_of (operand t s (at + 1))) where
      pub reset_is : stmt t left s at ≡ ok (Stmt.Reset at (value_or blank_operand (operand t s (at + 1))) (span_at s k)) (k + 8)
      reset_is = spanned_is _ (past _ _ blank_operand k k-end reset-goes)

      pub reset-inside : k + 8 ≤ length s
      reset-inside = end_in reset_is (stmt-end t left s at h)

  module _ (b : get_or s at 0 ≡ 10) where
    barrier-goes : Goes (stmt t left s at) (one (vec (operand t)) (Stmt.Barrier at)) s (at + 1)
    unfolding stmt_cases barrier
    barrier-goes = level-goes (stmt_levels t) left s at h 10 b

    pub barrier_targets : IsOk (vec (operand t) s (at + 1))
    barrier_targets = field _ _ barrier-goes

    module _ (k : ℕ) (k-end : k ≡ next_of (vec (operand t) s (at + 1))) where
      pub barrier_is : stmt t left s at ≡ ok (Stmt.Barrier at (value_or [] (vec (operand t) s (at + 1))) (span_at s k)) (k + 8)
      barrier_is = spanned_is _ (past _ _ [] k k-end barrier-goes)

      pub barrier-inside : k + 8 ≤ length s
      barrier-inside = end_in barrier_is (stmt-end t left s at h)

  module _ (b : get_or s at 0 ≡ 11) where
    delay-goes : Goes (stmt t left s at) (two (held t) (vec (operand t)) (Stmt.Delay at)) s (at + 1)
    unfolding stmt_cases delay
    delay-goes = level-goes (stmt_levels t) left s at h 11 b

    pub delay_duration : IsOk (held t s (at + 1))
    delay_duration = field _ _ delay-goes

    module _ (k : ℕ) (k-end : k ≡ next_of (held t s (at + 1))) where
      pub delay_targets : IsOk (vec (operand t) s k)
      delay_targets = field _ _ (past _ _ blank k k-end delay-goes)

      module _ (m : ℕ) (m-end : m ≡ next_of (vec (operand t) s k)) where
        pub delay_is : stmt t left s at ≡ ok (Stmt.Delay at (value_or blank (held t s (at + 1))) (value_or [] (vec (operand t) s k)) (span_at s m)) (m + 8)
        delay_is = spanned_is _ (past _ _ [] m m-end (past _ _ blank k k-end delay-goes))

        pub delay-inside : m + 8 ≤ length s
        delay-inside = end_in delay_is (stmt-end t left s at h)

  module _ (b : get_or s at 0 ≡ 12) where
    branch-goes : Goes (stmt t left s at) (three (held t) (body (stmt t (left - 1))) (else_body (stmt t (left - 1))) (Stmt.If at)) s (at + 1)
    unfolding stmt_cases branch
    branch-goes = level-goes (stmt_levels t) left s at h 12 b

    pub branch-condition : IsOk (held t s (at + 1))
    branch-condition = field _ _ branch-goes

    module _ (k : ℕ) (k-end : k ≡ next_of (held t s (at + 1))) where
      -- behind the condition
      branch-behind : Goes (stmt t left s at) (two (body (stmt t (left - 1))) (else_body (stmt t (left - 1))) (Stmt.If at (value_or blank (held t s (at + 1))))) s k
      branch-behind = past _ _ blank k k-end branch-goes

      pub branch-body : IsOk (body (stmt t (left - 1)) s k)
      branch-body = field _ _ branch-behind

      module _ (m : ℕ) (m-end : m ≡ next_of (body (stmt t (left - 1)) s k)) where
        pub branch_else : IsOk (else_body (stmt t (left - 1)) s m)
        branch_else = field _ _ (past _ _ no_stmt m m-end branch-behind)

        module _ (n : ℕ) (n-end : n ≡ next_of (else_body (stmt t (left - 1)) s m)) where
          pub branch_is : stmt t left s at ≡ ok (Stmt.If at (value_or blank (held t s (at + 1))) (value_or no_stmt (body (stmt t (left - 1)) s k)) (value_or no_else (else_body (stmt t (left - 1)) s m)) (span_at s n)) (n + 8)
          branch_is = spanned_is _ (past _ _ no_else n n-end (past _ _ no_stmt m m-end branch-behind))

          pub branch-inside : n + 8 ≤ length s
          branch-inside = end_in branch_is (stmt-end t left s at h)

  module _ (b : get_or s at 0 ≡ 13) where
    for_loop-goes : Goes (stmt t left s at) (◌>>=◌ (name t) (λ x. ◌>>=◌ classical_type (λ ty. two (for_range t) (body (stmt t (left - 1))) (Stmt.For at x ty)))) s (at + 1)
    unfolding stmt_cases for_loop
    for_loop-goes = level-goes (stmt_levels t) left s at h 13 b

    pub for_loop-named : Named t s at
    for_loop-named = named t at _ for_loop-goes

    -- behind the type
    for_loop-behind : Goes (stmt t left s at) (two (for_range t) (body (stmt t (left - 1))) (Stmt.For at (number_at 2 s (at + 1)) (type_of (get_or s (at + 3) 0)))) s (at + 4)
    for_loop-behind = known _ _ (at + 4) (type_is s (at + 3)) (omega arith) (past-name t at _ for_loop-goes)

    pub for_loop_range : IsOk (for_range t s (at + 4))
    for_loop_range = field _ _ for_loop-behind

    module _ (k : ℕ) (k-end : k ≡ next_of (for_range t s (at + 4))) where
      pub for_loop-body : IsOk (body (stmt t (left - 1)) s k)
      for_loop-body = field _ _ (past _ _ blank_range k k-end for_loop-behind)

      module _ (m : ℕ) (m-end : m ≡ next_of (body (stmt t (left - 1)) s k)) where
        pub for_loop_is : stmt t left s at ≡ ok (Stmt.For at (number_at 2 s (at + 1)) (type_of (get_or s (at + 3) 0)) (value_or blank_range (for_range t s (at + 4))) (value_or no_stmt (body (stmt t (left - 1)) s k)) (span_at s m)) (m + 8)
        for_loop_is = spanned_is _ (past _ _ no_stmt m m-end (past _ _ blank_range k k-end for_loop-behind))

        pub for_loop-inside : m + 8 ≤ length s
        for_loop-inside = end_in for_loop_is (stmt-end t left s at h)

  module _ (b : get_or s at 0 ≡ 14) where
    while_loop-goes : Goes (stmt t left s at) (two (held t) (body (stmt t (left - 1))) (Stmt.While at)) s (at + 1)
    unfolding stmt_cases while_loop
    while_loop-goes = level-goes (stmt_levels t) left s at h 14 b

    pub while_loop-condition : IsOk (held t s (at + 1))
    while_loop-condition = field _ _ while_loop-goes

    module _ (k : ℕ) (k-end : k ≡ next_of (held t s (at + 1))) where
      pub while_loop-body : IsOk (body (stmt t (left - 1)) s k)
      while_loop-body = field _ _ (past _ _ blank k k-end while_loop-goes)

      module _ (m : ℕ) (m-end : m ≡ next_of (body (stmt t (left - 1)) s k)) where
        pub while_loop_is : stmt t left s at ≡ ok (Stmt.While at (value_or blank (held t s (at + 1))) (value_or no_stmt (body (stmt t (left - 1)) s k)) (span_at s m)) (m + 8)
        while_loop_is = spanned_is _ (past _ _ no_stmt m m-end (past _ _ blank k k-end while_loop-goes))

        pub while_loop-inside : m + 8 ≤ length s
        while_loop-inside = end_in while_loop_is (stmt-end t left s at h)
