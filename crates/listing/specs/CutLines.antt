-- No line of a listing holds byte 10, where no text does. Cut at byte 10 the listing gives its lines back.
use Rattle.std.specs.Prelude.{ℕ, zero, suc, ◌≡◌, get_or}
use Rattle.std.proofs.Math.Path.{refl}
use mathlib.Core.List.{List, [], ◌∷◌, ◌++◌}
use Rattle.std.proofs.Math.Option.{Option, none, some}
use Rattle.text.specs.Text.{text}
use Rattle.text.specs.Decimal.{decimal}
use Rattle.span.specs.declared.Span.{Span}
use Rattle.ast.specs.Tree.{Text, TextNumber, GateOperand}
use Rattle.ast.specs.declared.ClassicalType.{ClassicalType}
use Rattle.types.specs.Names.{name_of}
use Rattle.sema.specs.Messages
use Rattle.sema.specs.Messages.{Message, Note, Diagnostic, Severity, Error, Warning, SymbolKind, Expected, Context, name_at, subscript, operand_text, message_parts, note_parts, kind_name, expected_name, context_name}
use Rattle.listing.specs.Listing.{spaced, letter, span_line, note_lines, diagnostic_line, diagnostic_lines, first_line, listing_of, count_of}
use Rattle.listing.specs.Cut.{lines_of, Clean, AllClean, cut-ended, clean-append, clean-concat, no10, word, clean-decimal}

clean-type : (ty : ClassicalType) → Clean (name_of ty)
unfolding name_of no10
clean-type ClassicalType.Int = word refl
clean-type ClassicalType.UInt = word refl
clean-type ClassicalType.Float = word refl
clean-type ClassicalType.Angle = word refl
clean-type ClassicalType.Bool = word refl

clean-kind : (k : SymbolKind) → Clean (kind_name k)
unfolding kind_name no10
clean-kind Messages.Qubit = word refl
clean-kind Messages.Bit = word refl
clean-kind (Messages.Classical ty) = clean-type ty
clean-kind (Messages.Const ty) = clean-concat (text "const " ∷ name_of ty ∷ []) (word refl, (clean-type ty, tt))
clean-kind Messages.GateParam = word refl
clean-kind Messages.GateQubit = word refl

clean_expected : (e : Expected) → Clean (expected_name e)
unfolding expected_name no10
clean_expected Messages.a_qubit = word refl
clean_expected Messages.a_bit = word refl

clean_context : (c : Context) → Clean (context_name c)
unfolding context_name no10
clean_context Messages.if_condition = word refl
clean_context Messages.while_condition = word refl
clean_context Messages.range_bound = word refl
clean_context Messages.range_step = word refl
clean_context Messages.control_argument = word refl

clean-letter : (s : Severity) → Clean (letter s)
unfolding letter no10
clean-letter Error = word refl
clean-letter Warning = word refl

clean-spaced : (f : List ℕ) (fs : List (List ℕ)) → Clean f → AllClean fs → Clean (spaced f fs)
unfolding spaced no10
clean-spaced f [] h g = h
clean-spaced f (x ∷ fs) h g = clean-append f (32 ∷ spaced x fs) h (clean-append (32 ∷ []) (spaced x fs) (word refl) (clean-spaced x fs g.0 g.1))

clean_at : (t : List Text) → AllClean t → (x : ℕ) → Clean (get_or t x [])
unfolding no10
clean_at [] h x = word refl
clean_at (y ∷ t) h zero = h.0
clean_at (y ∷ t) h (suc x) = clean_at t h.1 x

clean_all : (a b : List (List ℕ)) → AllClean a → AllClean b → AllClean (a ++ b)
clean_all [] b h g = g
clean_all (l ∷ a) b h g = (h.0, clean_all a b h.1 g)

-- over texts without byte 10
module _ (t : List Text) (clean : AllClean t) where
  clean-name : (x : TextNumber) → Clean (name_at t x)
  unfolding name_at
  clean-name x = clean_at t clean x

  clean-subscript : (i : Option ℕ) (sl : Option (ℕ × ℕ)) → Clean (subscript t i sl)
  unfolding subscript no10
  clean-subscript (some i) sl = clean-concat (text "[" ∷ decimal i ∷ text "]" ∷ []) (word refl, (clean-decimal i, (word refl, tt)))
  clean-subscript none (some (a, b)) = clean-concat (text "[" ∷ decimal a ∷ text ":" ∷ decimal b ∷ text "]" ∷ []) (word refl, (clean-decimal a, (word refl, (clean-decimal b, (word refl, tt)))))
  clean-subscript none none = word refl

  clean-operand : (op : GateOperand) → Clean (operand_text t op)
  unfolding operand_text
  clean-operand op = clean-concat (name_at t op.name ∷ subscript t op.index op.slice ∷ []) (clean-name op.name, (clean-subscript op.index op.slice, tt))

  clean-message : (m : Message) → AllClean (message_parts t m)
  unfolding message_parts no10
  clean-message (Messages.already_declared x) = (word refl, (clean-name x, (word refl, tt)))
  clean-message (Messages.not_declared x) = (word refl, (clean-name x, (word refl, tt)))
  clean-message (Messages.expected_kind e x k) = (word refl, (clean_expected e, (word refl, (clean-name x, (word refl, (clean-kind k, tt))))))
  clean-message (Messages.cannot_index_gate_qubit x) = (word refl, (clean-name x, (word refl, tt)))
  clean-message (Messages.index_out_of_bounds i x n) = (word refl, (clean-decimal i, (word refl, (clean-name x, (word refl, (clean-decimal n, (word refl, tt)))))))
  clean-message (Messages.cannot_index x) = (word refl, (clean-name x, (word refl, tt)))
  clean-message (Messages.slice_out_of_bounds a b x n) = (word refl, (clean-decimal a, (word refl, (clean-decimal b, (word refl, (clean-name x, (word refl, (clean-decimal n, (word refl, tt)))))))))
  clean-message (Messages.cannot_slice x) = (word refl, (clean-name x, (word refl, tt)))
  clean-message (Messages.used_index x i) = (word refl, (clean-name x, (word refl, (clean-decimal i, (word refl, tt)))))
  clean-message (Messages.used op) = (word refl, (clean-operand op, (word refl, tt)))
  clean-message (Messages.const_without_init x) = (word refl, (clean-name x, (word refl, tt)))
  clean-message (Messages.input_with_init x) = (word refl, (clean-name x, (word refl, tt)))
  clean-message (Messages.cannot_initialize ty x a) = (word refl, (clean-type ty, (word refl, (clean-name x, (word refl, (clean-type a, (word refl, tt)))))))
  clean-message (Messages.cannot_assign a e x) = (word refl, (clean-type a, (word refl, (clean-type e, (word refl, (clean-name x, (word refl, tt)))))))
  clean-message Messages.compound_numeric = (word refl, tt)
  clean-message (Messages.assign_to_const x) = (word refl, (clean-name x, (word refl, tt)))
  clean-message (Messages.not_assignable x) = (word refl, (clean-name x, (word refl, tt)))
  clean-message (Messages.gate_params x n got) = (word refl, (clean-name x, (word refl, (clean-decimal n, (word refl, (clean-decimal got, tt))))))
  clean-message (Messages.gate_qubits x n got) = (word refl, (clean-name x, (word refl, (clean-decimal n, (word refl, (clean-decimal got, tt))))))
  clean-message (Messages.gate_not_defined x) = (word refl, (clean-name x, (word refl, tt)))
  clean-message Messages.params_numeric = (word refl, tt)
  clean-message Messages.broadcasting = (word refl, tt)
  clean-message (Messages.gate_already_defined x) = (word refl, (clean-name x, (word refl, tt)))
  clean-message (Messages.function_already_defined x) = (word refl, (clean-name x, (word refl, tt)))
  clean-message (Messages.function_returns x r a) = (word refl, (clean-name x, (word refl, (clean-type r, (word refl, (clean-type a, tt))))))
  clean-message (Messages.measurement_widths a b) = (word refl, (clean-decimal a, (word refl, (clean-decimal b, (word refl, tt)))))
  clean-message (Messages.already_measured op) = (word refl, (clean-operand op, (word refl, tt)))
  clean-message Messages.delay_numeric = (word refl, tt)
  clean-message Messages.for_variable = (word refl, tt)
  clean-message Messages.control_count = (word refl, tt)
  clean-message Messages.power_numeric = (word refl, tt)
  clean-message (Messages.must_have_type c e a) = (clean_context c, (word refl, (clean-type e, (word refl, (clean-type a, tt)))))
  clean-message (Messages.not_classical x) = (word refl, (clean-name x, (word refl, tt)))
  clean-message (Messages.cannot_index_bit x) = (word refl, (clean-name x, (word refl, tt)))
  clean-message (Messages.not_indexable x) = (word refl, (clean-name x, (word refl, tt)))
  clean-message (Messages.function_not_defined x) = (word refl, (clean-name x, (word refl, tt)))
  clean-message (Messages.function_arguments x n got) = (word refl, (clean-name x, (word refl, (clean-decimal n, (word refl, (clean-decimal got, tt))))))
  clean-message (Messages.argument_type i x e a) = (word refl, (clean-decimal i, (word refl, (clean-name x, (word refl, (clean-type e, (word refl, (clean-type a, tt))))))))
  clean-message Messages.negation_numeric = (word refl, tt)
  clean-message Messages.arithmetic_numeric = (word refl, tt)
  clean-message Messages.comparison_types = (word refl, tt)

  clean_note : (n : Note) → AllClean (note_parts t n)
  unfolding note_parts no10
  clean_note (Messages.first_declared x) = (word refl, (clean-name x, (word refl, tt)))
  clean_note (Messages.declared_as x k) = (word refl, (clean-name x, (word refl, (clean-kind k, (word refl, tt)))))
  clean_note (Messages.declared_with_size x n) = (word refl, (clean-name x, (word refl, (clean-decimal n, (word refl, tt)))))
  clean_note (Messages.declared_without_size x) = (word refl, (clean-name x, (word refl, tt)))
  clean_note Messages.measured_here = (word refl, tt)
  clean_note (Messages.defined_here x) = (word refl, (clean-name x, (word refl, tt)))
  clean_note Messages.first_defined = (word refl, tt)
  clean_note Messages.target_declared = (word refl, tt)
  clean_note Messages.function_defined = (word refl, tt)

  clean-span_line : (h : List ℕ) (sp : Span) (m : List ℕ) → Clean h → Clean m → Clean (span_line h sp m)
  unfolding span_line
  clean-span_line h sp m c d = clean-spaced h _ c (clean-decimal sp.start, (clean-decimal sp.end, (d, tt)))

  clean_notes : (n : Option (Note × Span)) → AllClean (note_lines t n)
  unfolding note_lines no10
  clean_notes none = tt
  clean_notes (some n) = (clean-span_line (text "N") n.1 _ (word refl) (clean-concat (note_parts t n.0) (clean_note n.0)), tt)

  clean-first : (ds : List Diagnostic) → Clean (first_line ds)
  unfolding first_line no10
  clean-first ds = clean-spaced (text "list") _ (word refl) (clean-decimal (count_of Error ds), (clean-decimal (count_of Warning ds), tt))

  clean-lines : (ds : List Diagnostic) → AllClean (diagnostic_lines t ds)
  unfolding diagnostic_lines diagnostic_line
  clean-lines [] = tt
  clean-lines (d ∷ ds) = (
    clean-span_line (letter d.severity) d.span _ (clean-letter d.severity) (clean-concat (message_parts t d.message) (clean-message d.message)),
    clean_all (note_lines t d.secondary) (diagnostic_lines t ds) (clean_notes d.secondary) (clean-lines ds),
  )

  pub lines_of-listing : (ds : List Diagnostic) → lines_of (listing_of t ds) ≡ first_line ds ∷ diagnostic_lines t ds
  unfolding listing_of
  lines_of-listing ds = cut-ended (first_line ds ∷ diagnostic_lines t ds) (clean-first ds, clean-lines ds)
