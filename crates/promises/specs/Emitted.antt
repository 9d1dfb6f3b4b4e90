-- What a function of the walk says: a list of diagnostics behind what was written. Laws to put such promises together. Assumes nothing.
use Rattle.std.specs.Prelude.{◌≡◌, Bool, true, false, List, [], ◌∷◌, ◌++◌, ℕ}
use Rattle.std.proofs.Common.{sym, ap, ◌∙◌, subst}
use Rattle.span.specs.declared.Span.{Span}
use Rattle.ast.specs.Tree.{Text}
use Rattle.sema.specs.Messages.{Diagnostic}
use Rattle.sema.specs.Operands.{unless}
use Rattle.context.specs.declared.Sink.{Sink}
use Rattle.context.specs.Sink.{written_of, emit}
use Rattle.lines.specs.declared.Message.{Message}
use Rattle.lines.specs.declared.Note.{Note}
use Rattle.lines.specs.declared.Diagnostic.{Diagnostic as DiagnosticValue}
use Rattle.lines.specs.Values.{diagnostic_of, error_of, error_with_note_of, name_in, name_in_note, Below, Fits, Reported}
use Rattle.lines.specs.EmitLaws.{emit-append, emit-none, emit_one_lem}

-- from the sink s over the buffer o the sink r over o': the diagnostics ds were said
pub record Emitted (t : List Text) (ds : List Diagnostic) (s : Sink) (o : List ℕ) (r : Sink) (o' : List ℕ) : Type 0 where
  pub says : written_of r o' ≡ emit t ds (written_of s o)

-- what a report asks of an error, and of one with a note
module _ {n : ℕ} {d : DiagnosticValue} {m : Message} {sp : Span} where
  pub error-fits : d ≡ error_of m sp → Below n (name_in m) → Fits n d
  error-fits e b = rw e (record { named = b; noted = tt })

  pub noted-fits : {note : Note} {at : Span} → d ≡ error_with_note_of m sp note at → Below n (name_in m) → Below n (name_in_note note) → Fits n d
  noted-fits e b c = rw e (record { named = b; noted = c })

module _ {t : List Text} {s : Sink} {o : List ℕ} where
  -- nothing said
  pub emitted-none : Emitted t [] s o s o
  emitted-none = record { says = sym (emit-none t (written_of s o)) }

  -- one report
  pub emitted-one : {d : DiagnosticValue} {r : Sink} {o' : List ℕ} → Reported t d s o r o' → Emitted t (diagnostic_of d ∷ []) s o r o'
  emitted-one {d = d} p = record { says = p.emits ∙ sym (emit_one_lem t (diagnostic_of d) (written_of s o)) }

  pub emitted_report : {d e : DiagnosticValue} {r : Sink} {o' : List ℕ} → d ≡ e → Reported t d s o r o' → Emitted t (diagnostic_of e ∷ []) s o r o'
  emitted_report q p = emitted-one (rw q at p)

  module _ {ds : List Diagnostic} {r : Sink} {o' : List ℕ} (a : Emitted t ds s o r o') where
    -- one after the other
    pub emitted_then : {es : List Diagnostic} {q : Sink} {o'' : List ℕ} → Emitted t es r o' q o'' → Emitted t (ds ++ es) s o q o''
    emitted_then {es = es} b =
        record { says = b.says ∙ ap (emit t es) a.says ∙ sym (emit-append t ds es (written_of s o)) }

    -- the same under another name
    pub emitted_as : {es : List Diagnostic} → ds ≡ es → Emitted t es s o r o'
    emitted_as e = subst (λ x. Emitted t x s o r o') e a

  -- a test that says nothing where it holds
  pub unless_holds : (b : Bool) (d : Diagnostic) → b ≡ true → Emitted t (unless b d) s o s o
  unless_holds b d e = rw e emitted-none

  pub unless_fails : (b : Bool) {v : DiagnosticValue} {r : Sink} {o' : List ℕ} → b ≡ false → Reported t v s o r o' → Emitted t (unless b (diagnostic_of v)) s o r o'
  unless_fails b e p = rw e (emitted-one p)
