-- The errors counted, and the claim: for each operand place the error that it has, if some path reaches it with a covering mark.
use Rattle.std.specs.Prelude.{◌≡◌, Bool, true, false, cond, ℕ, suc, ◌≤◌, ◌<◌, T}
use Rattle.std.proofs.Common.{ap}
use Rattle.std.proofs.Math.Option.{Option, none, some}
use mathlib.Core.List.{List, [], ◌∷◌, List-discrete}
use Rattle.std.proofs.Math.Decide.{ℕ_discrete}
use Rattle.span.specs.declared.Span.{Span}
use Rattle.ast.specs.Tree.{Text, GateOperand, Program}
use Rattle.sema.specs.Messages.{Message, Severity, Error, Warning, Diagnostic, message_text}
use Rattle.sema.specs.Messages
use Rattle.paths.specs.Steps.{State, no_mark, Step, Some, covers, PathOf, path_steps}
use Rattle.paths.specs.Places.{Place}

-- an error's span and message
pub record Line : Type 0 where
  pub span : Span
  pub message : Message

abbrev pub line : Span → Message → Line
line sp m = record { span = sp; message = m }

-- "The errors counted are the E lines `use of qubit` .. `after measurement`"
abbrev pub is_use : Severity → Message → Bool
is_use Error (Messages.already_declared x) = false
is_use Error (Messages.not_declared x) = false
is_use Error (Messages.expected_kind e x k) = false
is_use Error (Messages.cannot_index_gate_qubit x) = false
is_use Error (Messages.index_out_of_bounds i x n) = false
is_use Error (Messages.cannot_index x) = false
is_use Error (Messages.slice_out_of_bounds a b x n) = false
is_use Error (Messages.cannot_slice x) = false
is_use Error (Messages.used_index x i) = true
is_use Error (Messages.used op) = true
is_use Error (Messages.const_without_init x) = false
is_use Error (Messages.input_with_init x) = false
is_use Error (Messages.cannot_initialize ty x a) = false
is_use Error (Messages.cannot_assign a e x) = false
is_use Error Messages.compound_numeric = false
is_use Error (Messages.assign_to_const x) = false
is_use Error (Messages.not_assignable x) = false
is_use Error (Messages.gate_params x e got) = false
is_use Error (Messages.gate_qubits x e got) = false
is_use Error (Messages.gate_not_defined x) = false
is_use Error Messages.params_numeric = false
is_use Error Messages.broadcasting = false
is_use Error (Messages.gate_already_defined x) = false
is_use Error (Messages.function_already_defined x) = false
is_use Error (Messages.function_returns x r a) = false
is_use Error (Messages.measurement_widths a b) = false
is_use Error (Messages.already_measured op) = false
is_use Error Messages.delay_numeric = false
is_use Error Messages.for_variable = false
is_use Error Messages.control_count = false
is_use Error Messages.power_numeric = false
is_use Error (Messages.must_have_type c e a) = false
is_use Error (Messages.not_classical x) = false
is_use Error (Messages.cannot_index_bit x) = false
is_use Error (Messages.not_indexable x) = false
is_use Error (Messages.function_not_defined x) = false
is_use Error (Messages.function_arguments x e got) = false
is_use Error (Messages.argument_type i x e a) = false
is_use Error Messages.negation_numeric = false
is_use Error Messages.arithmetic_numeric = false
is_use Error Messages.comparison_types = false
is_use Warning m = false

-- the errors counted, of a list of diagnostics
abbrev pub use_lines : List Diagnostic → List Line
use_lines [] = []
use_lines (d ∷ ds) = cond (is_use d.severity d.message) (line d.span d.message ∷ use_lines ds) (use_lines ds)

-- The error of an operand of a statement with the span sp, where C i says that q or q[i] is covered. "a slice is named by its smallest
-- index that a mark covers on some path"; one with start > end has none.
abbrev pub Named : (Option ℕ → Type 0) → GateOperand → Span → Option (ℕ × ℕ) → Line → Type 0
Named C op sp none l = C op.index × (l ≡ line sp (Messages.used op))
Named C op sp (some r) l =
    (j : ℕ) × (r.0 ≤ j) × (j ≤ r.1) × C (some j) × ((i : ℕ) → r.0 ≤ i → i < j → C (some i) → ⊥)
    × (l ≡ line sp (Messages.used_index op.name j))

-- l is the error of the place q, which one of the paths j reaches with a covering mark standing
abbrev pub Errs : {J : Type 0} → (J → State) → (J → List Step) → Place → Line → Type 0
Errs st π q l = Named (λ i. Some st π q.number (λ m. T (covers q.symbols m q.op.name i))) q.op q.span q.op.slice l

-- over all paths of a program
abbrev pub ErrsOn : Program → Place → Line → Type 0
ErrsOn p = Errs {J = PathOf p} (λ c. no_mark) (λ c. path_steps p c)

-- the lines, in the order of the places: exactly one for each place that has one
pub data Lists (R : Place → Line → Type 0) : List Place → List Line → Type 0 where
  done : Lists R [] []
  has : {q : Place} {l : Line} {qs : List Place} {ls : List Line} → R q l → Lists R qs ls → Lists R (q ∷ qs) (l ∷ ls)
  skip : {q : Place} {qs : List Place} {ls : List Line} → ((l : Line) → R q l → ⊥) → Lists R qs ls → Lists R (q ∷ qs) ls

-- exactly n of a list have P
pub data Number {A : Type 0} (P : A → Type 0) : List A → ℕ → Type 0 where
  nil : Number P [] 0
  one : {a : A} {l : List A} {n : ℕ} → P a → Number P l n → Number P (a ∷ l) (suc n)
  not : {a : A} {l : List A} {n : ℕ} → (P a → ⊥) → Number P l n → Number P (a ∷ l) n

-- how many of a list pass a test
abbrev pub tally : {A : Type 0} → Dec A → ℕ → ℕ
tally (yes p) n = suc n
tally (no p) n = n

abbrev pub count : {A : Type 0} {P : A → Type 0} → ((a : A) → Dec (P a)) → List A → ℕ
count d [] = 0
count d (a ∷ l) = tally (d a) (count d l)

-- an error with this span, and this message as it is printed over the texts t
abbrev pub Prints : List Text → Span → List ℕ → Line → Type 0
Prints t sp bytes l = (l.span ≡ sp) × (message_text t l.message ≡ bytes)

pub same_span : (a b : Span) → Dec (a ≡ b)
same_span a b = go (ℕ_discrete a.start b.start) (ℕ_discrete a.end b.end)
  where
    go : Dec (a.start ≡ b.start) → Dec (a.end ≡ b.end) → Dec (a ≡ b)
    go (yes p) (yes q) = yes (λ i. record { start = p i; end = q i })
    go (yes p) (no q) = no (λ e. q (ap (λ (x : Span). x.end) e))
    go (no p) q = no (λ e. p (ap (λ (x : Span). x.start) e))

pub prints : (t : List Text) (sp : Span) (bytes : List ℕ) (l : Line) → Dec (Prints t sp bytes l)
prints t sp bytes l = go (same_span l.span sp) (List-discrete ℕ_discrete (message_text t l.message) bytes)
  where
    go : Dec (l.span ≡ sp) → Dec (message_text t l.message ≡ bytes) → Dec (Prints t sp bytes l)
    go (yes p) (yes q) = yes (p, q)
    go (yes p) (no q) = no (λ w. q w.1)
    go (no p) d = no (λ w. p w.0)
