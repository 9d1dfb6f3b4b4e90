-- The function of a call, and its arguments, for each way out of the code. Assumes nothing.
use Prim.Native.Nat.{ℕ, ◌+◌, ◌≤◌, ◌<◌}
use mathlib.Core.Path.{◌≡◌, sym, ap, ◌∙◌}
use mathlib.Core.List.{List, [], ◌∷◌}
use mathlib.Core.Option.{Option, none, some}
use native.Mathlib.Omega.{arith}
use native.Mathlib.Numerals.{add-one}
use lib.ListN.{length, get_or, drop, drop_of_length-le}
use lib.Dec.{eqb}
use lib.Seq.{drop-cons}
use borrow.Author.Tests.{eq-eqb, ne_eqb}
use Rattle.span.specs.declared.Span.{Span}
use Rattle.ast.specs.Tree.{Text}
use Rattle.ast.specs.declared.ClassicalType.{ClassicalType}
use Rattle.context.specs.declared.FunctionSig.{FunctionSig as FunctionValue}
use Rattle.std.specs.Prelude.{Option as Maybe, Some, None, MatchOption, IsSomeAnd}
use Rattle.sema.specs.Messages
use Rattle.sema.specs.Messages.{Diagnostic, error_with_note}
use Rattle.sema.specs.Symbols.{FunctionSig}
use Rattle.sema.specs.Operands.{unless}
use Rattle.context.specs.declared.Sink.{Sink}
use Rattle.context.specs.Values.{typed_of}
use Rattle.lines.specs.declared.Message.{Message}
use Rattle.lines.specs.declared.Note.{Note}
use Rattle.lines.specs.declared.Diagnostic.{Diagnostic as DiagnosticValue}
use Rattle.lines.specs.Values.{diagnostic_of, error_of, error_with_note_of, Reported}
use Rattle.tables.specs.Tables.{brief_of, params_of}
use Rattle.promises.specs.Emitted.{Emitted, emitted-none, unless_holds, unless_fails}
use Rattle.typing.specs.declared.Wanted.{Wanted}
use Rattle.typing.specs.Checks.{callee_type, callee_says, CalleeOf, unmet, argument_at}

-- another number of arguments than of parameters
abbrev wrong : ℕ → ℕ → ℕ → Span → Span → Diagnostic
wrong x n params sp at = error_with_note (Messages.function_arguments x params n) sp Messages.function_defined at

-- what a call takes from the function that was found: its type, and the number of its parameters
some_typed : (u : Maybe ClassicalType) {ty : ClassicalType} {P : ClassicalType → Type 0} → ((x : ClassicalType) → P x → x ≡ ty) → IsSomeAnd u P → typed_of u ≡ some ty
some_typed None q h = absurd h
some_typed (Some x) q h = ap some (q x h)

module _ {g : Maybe FunctionValue} where
  pub callee_typed : (f : Option FunctionSig) (u : Maybe ClassicalType) {P : FunctionValue → ClassicalType → Type 0} → g ≡ brief_of f → MatchOption g (u ≡ None) (λ sig. IsSomeAnd u (P sig)) → ((sig : FunctionValue) (ty : ClassicalType) → P sig ty → ty ≡ sig.return_type) → typed_of u ≡ callee_type f
  unfolding callee_type
  callee_typed none u e h q = let k : u ≡ None = rw e at h in rw k
  callee_typed (some f) u e h q = some_typed u (q _) (rw e at h)

  pub callee_params : (f : Option FunctionSig) {n : ℕ} {P : FunctionValue → Type 0} → g ≡ brief_of f → MatchOption g (n ≡ 0) P → ((sig : FunctionValue) → P sig → n ≡ sig.param_count) → n ≡ length (params_of f)
  callee_params none e h q = rw e at h
  callee_params (some f) e h q = q _ (rw e at h)

module _ {t : List Text} {s : Sink} {o : List ℕ} where
  -- so many arguments
  module _ (x n params : ℕ) (sp at : Span) where
    pub count-right : n ≡ params → Emitted t (unless (eqb n params) (wrong x n params sp at)) s o s o
    count-right e = unless_holds (eqb n params) (wrong x n params sp at) (eq-eqb n params e)

    pub count-wrong : {d : DiagnosticValue} {r : Sink} {o' : List ℕ} → (n ≡ params → ⊥) → d ≡ error_with_note_of (Message.FunctionArguments x params n) sp Note.FunctionDefined at → Reported t d s o r o' → Emitted t (unless (eqb n params) (wrong x n params sp at)) s o r o'
    count-wrong z e p = unless_fails (eqb n params) (ne_eqb n params z) (rw e at p)

  -- the function by what was found
  module _ (x n : ℕ) (sp : Span) {g : Maybe FunctionValue} {r : Sink} {o' : List ℕ} where
    pub callee_missing : (f : Option FunctionSig) → g ≡ brief_of f → g ≡ None → Emitted t (diagnostic_of (error_of (Message.FunctionNotDefined x) sp) ∷ []) s o r o' → CalleeOf t f x n sp s o (record { sig = g; sink = r }) o'
    unfolding callee_says
    callee_missing none e h p = record { sig = e; emitted = p }
    callee_missing (some f) e h p = let y : ◌≡◌ {A = ℕ} 0 1 = cc in absurd (omega arith)

    pub callee_there : (f : Option FunctionSig) {sig : FunctionValue} → g ≡ brief_of f → g ≡ Some sig → Emitted t (unless (eqb n sig.param_count) (error_with_note (Messages.function_arguments x sig.param_count n) sp Messages.function_defined sig.decl_span)) s o r o' → CalleeOf t f x n sp s o (record { sig = Some sig; sink = r }) o'
    unfolding callee_says
    callee_there none e h p = let y : ◌≡◌ {A = ℕ} 0 1 = cc in absurd (omega arith)
    callee_there (some f) {sig = sig} e h p =
        let same : sig ≡ record { param_count = length f.params; return_type = f.return_type; decl_span = f.decl_span } = cc in
        record { sig = sym h ∙ e; emitted = rw same at p }

  -- an argument against its parameter
  module _ (x i : ℕ) (sp : Span) (ps : List ClassicalType) (u : Maybe ClassicalType) where
    pub argument_free : {n : ℕ} → n ≡ length ps → n ≤ i → Emitted t (argument_at x i sp (drop i ps) (typed_of u)) s o s o
    unfolding argument_at
    argument_free e l =
        let k : length ps ≤ i = omega arith in
        rw (drop_of_length-le ps k) emitted-none

    pub argument_there : {n : ℕ} {p : ClassicalType} {r : Sink} {o' : List ℕ} → n ≡ length ps → i < n → p ≡ get_or ps i ClassicalType.Int → Emitted t (unmet (Wanted.Argument p (i + 1) x) sp (typed_of u)) s o r o' → Emitted t (argument_at x i sp (drop i ps) (typed_of u)) s o r o'
    unfolding argument_at
    argument_there e l q m =
        let k : i < length ps = omega arith in
        rw (drop-cons ps i ClassicalType.Int k, ← q, ← add-one i) m
