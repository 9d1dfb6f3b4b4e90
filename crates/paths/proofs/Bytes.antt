-- The theorem over bytes: in the listing of an accepted file, cut into lines at byte 10, there are as many lines `E start end use of
-- qubit ..` with a span and a message as there are operand places whose error has both and that some path reaches with a covering mark
-- standing. Assumes nothing.
use Prim.Native.Nat.{ℕ}
use mathlib.Core.Path.{◌≡◌, refl, sym, ap, ◌∙◌}
use mathlib.Core.Bool.{Bool, true, false, cond, true≢false}
use mathlib.Core.Option.{Option, none, some}
use mathlib.Core.List.{List, [], ◌∷◌, ◌++◌}
use native.Mathlib.Omega.{arith}
use lib.ListN.{get_or}
use lib.Dec.{eqb}
use borrow.Author.Tests.{eqb-false}
use Rattle.text.specs.Text.{text}
use Rattle.span.specs.declared.Span.{Span}
use Rattle.ast.specs.Tree.{Text, Program}
use Rattle.tree.specs.Ans.{ok}
use Rattle.tree.specs.Texts.{between}
use Rattle.tree.specs.Decode.{decode}
use Rattle.tree.specs.TextLaws.{Printable, AllPrintable, accepted_printable}
use Rattle.sema.specs.Messages
use Rattle.sema.specs.Messages.{Message, Note, Severity, Error, Warning, Diagnostic, message_parts, message_text, note_text, context_name}
use Rattle.sema.specs.Stmts.{analyze}
use Rattle.listing.specs.Listing.{spaced, letter, span_line, note_lines, diagnostic_line, diagnostic_lines, first_line, listing_of, listing}
use Rattle.listing.specs.Cut.{lines_of, no10, Clean, AllClean, word, other_byte}
use Rattle.listing.specs.CutLines.{lines_of-listing}
use Rattle.listing.specs.Apart.{line-head, line-span, line-message}
use Rattle.paths.specs.Places.{places_of}
use Rattle.paths.specs.Errors.{Line, line, is_use, use_lines, ErrsOn, Number, tally, count, Prints, prints}
use Rattle.paths.specs.Lines.{use_text, use_line, is_line}
use Rattle.paths.proofs.Demand3.{demand_3}

-- ── Texts without byte 10 ──

between-low : (c : ℕ) → between 33 126 c ≡ true → c ≡ 10 → ⊥
between-low c h e = absurd (go (rw e at h))
  where
    go : between 33 126 10 ≡ true → ⊥
    go h = let z : ◌≡◌ {A = ℕ} 0 1 = cc in omega arith

clean-text : (x : Text) → Printable x → Clean x
unfolding no10
clean-text [] h = word refl
clean-text (c ∷ x) h = other_byte c x (between-low c h.0) (clean-text x h.1)

clean-texts : (t : List Text) → AllPrintable t → AllClean t
clean-texts [] h = tt
clean-texts (x ∷ t) h = (clean-text x h.0, clean-texts t h.1)

-- ── No other line is such a line ──

-- lists that differ at a place
clash : (i : ℕ) (a b : List ℕ) → eqb (get_or a i 0) (get_or b i 0) ≡ false → a ≡ b → ⊥
clash i a b h e = eqb-false (get_or a i 0) (get_or b i 0) h (ap (λ (l : List ℕ). get_or l i 0) e)

module _ (t : List Text) where
  other : (m : Message) → is_use Error m ≡ false → (tail : List ℕ) → message_text t m ≡ use_text tail → ⊥
  unfolding message_parts context_name
  other (Messages.already_declared name) h tail e = clash 0 _ _ refl e
  other (Messages.not_declared name) h tail e = clash 0 _ _ refl e
  other (Messages.expected_kind expected name found) h tail e = clash 0 _ _ refl e
  other (Messages.cannot_index_gate_qubit name) h tail e = clash 0 _ _ refl e
  other (Messages.index_out_of_bounds index name size) h tail e = clash 0 _ _ refl e
  other (Messages.cannot_index name) h tail e = clash 0 _ _ refl e
  other (Messages.slice_out_of_bounds start end name size) h tail e = clash 0 _ _ refl e
  other (Messages.cannot_slice name) h tail e = clash 0 _ _ refl e
  other (Messages.used_index name index) h tail e = absurd (true≢false h)
  other (Messages.used op) h tail e = absurd (true≢false h)
  other (Messages.const_without_init name) h tail e = clash 0 _ _ refl e
  other (Messages.input_with_init name) h tail e = clash 0 _ _ refl e
  other (Messages.cannot_initialize ty name actual) h tail e = clash 0 _ _ refl e
  other (Messages.cannot_assign actual expected name) h tail e = clash 0 _ _ refl e
  other Messages.compound_numeric h tail e = clash 0 _ _ refl e
  other (Messages.assign_to_const name) h tail e = clash 0 _ _ refl e
  other (Messages.not_assignable name) h tail e = clash 0 _ _ refl e
  other (Messages.gate_params name expected got) h tail e = clash 0 _ _ refl e
  other (Messages.gate_qubits name expected got) h tail e = clash 0 _ _ refl e
  other (Messages.gate_not_defined name) h tail e = clash 0 _ _ refl e
  other Messages.params_numeric h tail e = clash 0 _ _ refl e
  other Messages.broadcasting h tail e = clash 0 _ _ refl e
  other (Messages.gate_already_defined name) h tail e = clash 0 _ _ refl e
  other (Messages.function_already_defined name) h tail e = clash 0 _ _ refl e
  other (Messages.function_returns name return_type actual) h tail e = clash 0 _ _ refl e
  other (Messages.measurement_widths source target) h tail e = clash 0 _ _ refl e
  other (Messages.already_measured op) h tail e = clash 0 _ _ refl e
  other Messages.delay_numeric h tail e = clash 0 _ _ refl e
  other Messages.for_variable h tail e = clash 0 _ _ refl e
  other Messages.control_count h tail e = clash 0 _ _ refl e
  other Messages.power_numeric h tail e = clash 0 _ _ refl e
  other (Messages.must_have_type Messages.if_condition expected actual) h tail e = clash 0 _ _ refl e
  other (Messages.must_have_type Messages.while_condition expected actual) h tail e = clash 0 _ _ refl e
  other (Messages.must_have_type Messages.range_bound expected actual) h tail e = clash 0 _ _ refl e
  other (Messages.must_have_type Messages.range_step expected actual) h tail e = clash 0 _ _ refl e
  other (Messages.must_have_type Messages.control_argument expected actual) h tail e = clash 0 _ _ refl e
  other (Messages.not_classical name) h tail e = clash 0 _ _ refl e
  other (Messages.cannot_index_bit name) h tail e = clash 0 _ _ refl e
  other (Messages.not_indexable name) h tail e = clash 0 _ _ refl e
  other (Messages.function_not_defined name) h tail e = clash 0 _ _ refl e
  other (Messages.function_arguments name expected got) h tail e = clash 0 _ _ refl e
  other (Messages.argument_type position name expected actual) h tail e = clash 0 _ _ refl e
  other Messages.negation_numeric h tail e = clash 1 _ _ refl e
  other Messages.arithmetic_numeric h tail e = clash 0 _ _ refl e
  other Messages.comparison_types h tail e = clash 0 _ _ refl e

  other-line : (d : Diagnostic) → is_use d.severity d.message ≡ false → (sp : Span) (tail : List ℕ) → diagnostic_line t d ≡ use_line sp tail → ⊥
  unfolding diagnostic_line letter
  other-line d h sp tail e = go d.severity h e
    where
      go : (s : Severity) → is_use s d.message ≡ false → span_line (letter s) d.span (message_text t d.message) ≡ use_line sp tail → ⊥
      go Error h e = other d.message h tail (line-message (text "E") (text "E") d.span sp _ _ ((λ x. omega arith), tt) ((λ x. omega arith), tt) e)
      go Warning h e = clash 0 (text "W") (text "E") refl (line-head (text "W") (text "E") d.span sp _ _ ((λ x. omega arith), tt) ((λ x. omega arith), tt) e)

  note_line : (n : Note) (at : Span) (sp : Span) (tail : List ℕ) → span_line (text "N") at (note_text t n) ≡ use_line sp tail → ⊥
  note_line n at sp tail e = clash 0 (text "N") (text "E") refl (line-head (text "N") (text "E") at sp _ _ ((λ x. omega arith), tt) ((λ x. omega arith), tt) e)

  first_line_lem : (ds : List Diagnostic) (sp : Span) (tail : List ℕ) → first_line ds ≡ use_line sp tail → ⊥
  unfolding first_line span_line spaced
  first_line_lem ds sp tail e = clash 0 _ _ refl e

  -- ── How many ──

  tally_no : {A : Type 0} (d : Dec A) (n : ℕ) → (A → ⊥) → tally d n ≡ n
  tally_no (yes p) n h = absurd (h p)
  tally_no (no p) n h = refl

  tally-same : {A B : Type 0} (d : Dec A) (e : Dec B) (n : ℕ) → (A → B) → (B → A) → tally d n ≡ tally e n
  tally-same (yes p) (yes q) n f g = refl
  tally-same (yes p) (no q) n f g = absurd (q (f p))
  tally-same (no p) (yes q) n f g = absurd (p (g q))
  tally-same (no p) (no q) n f g = refl

  module _ (sp : Span) (tail : List ℕ) where
    passed_notes : (n : Option (Note × Span)) (ls : List (List ℕ)) → count (is_line (use_line sp tail)) (note_lines t n ++ ls) ≡ count (is_line (use_line sp tail)) ls
    unfolding note_lines
    passed_notes none ls = refl
    passed_notes (some n) ls = tally_no (is_line (use_line sp tail) (span_line (text "N") n.1 (note_text t n.0))) _ (note_line n.0 n.1 sp tail)

    -- a line of the errors counted is that line exactly where it prints so
    use_line_lem : (d : Diagnostic) → is_use d.severity d.message ≡ true
        → (diagnostic_line t d ≡ use_line sp tail → Prints t sp (use_text tail) (line d.span d.message)) × (Prints t sp (use_text tail) (line d.span d.message) → diagnostic_line t d ≡ use_line sp tail)
    unfolding diagnostic_line letter
    use_line_lem d h = go d.severity h
      where
        go : (s : Severity) → is_use s d.message ≡ true
            → (span_line (letter s) d.span (message_text t d.message) ≡ use_line sp tail → Prints t sp (use_text tail) (line d.span d.message)) × (Prints t sp (use_text tail) (line d.span d.message) → span_line (letter s) d.span (message_text t d.message) ≡ use_line sp tail)
        go Error h = (
          λ e. (line-span (text "E") (text "E") d.span sp _ _ ((λ x. omega arith), tt) ((λ x. omega arith), tt) e, line-message (text "E") (text "E") d.span sp _ _ ((λ x. omega arith), tt) ((λ x. omega arith), tt) e),
          λ w. cc (w.0, w.1),
        )
        go Warning h = absurd (true≢false (sym h))

    counted-lines : (ds : List Diagnostic) → count (is_line (use_line sp tail)) (diagnostic_lines t ds) ≡ count (prints t sp (use_text tail)) (use_lines ds)
    unfolding diagnostic_lines
    counted-lines [] = refl
    counted-lines (d ∷ ds) = go (is_use d.severity d.message) refl (passed_notes d.secondary (diagnostic_lines t ds) ∙ counted-lines ds)
      where
        go : (b : Bool) → is_use d.severity d.message ≡ b
            → count (is_line (use_line sp tail)) (note_lines t d.secondary ++ diagnostic_lines t ds) ≡ count (prints t sp (use_text tail)) (use_lines ds)
            → tally (is_line (use_line sp tail) (diagnostic_line t d)) (count (is_line (use_line sp tail)) (note_lines t d.secondary ++ diagnostic_lines t ds)) ≡ count (prints t sp (use_text tail)) (cond b (line d.span d.message ∷ use_lines ds) (use_lines ds))
        go true h e =
            let u = use_line_lem d h in
            tally-same (is_line (use_line sp tail) (diagnostic_line t d)) (prints t sp (use_text tail) (line d.span d.message)) _ u.0 u.1
            ∙ ap (λ (n : ℕ). tally (prints t sp (use_text tail) (line d.span d.message)) n) e
        go false h e = tally_no (is_line (use_line sp tail) (diagnostic_line t d)) _ (other-line d h sp tail) ∙ e

-- Demand 3 in the bytes of the listing, for every accepted file.
pub demand_3_bytes : (s : List ℕ) (p : Program) (next : ℕ) → decode s ≡ ok p next → (sp : Span) (tail : List ℕ)
    → Number (λ q. (l : Line) × ErrsOn p q l × Prints p.texts sp (use_text tail) l) (places_of p) (count (is_line (use_line sp tail)) (lines_of (listing p)))
unfolding listing
demand_3_bytes s p next e sp tail =
    let t = p.texts in
    let c : count (is_line (use_line sp tail)) (lines_of (listing_of t (analyze p))) ≡ count (prints t sp (use_text tail)) (use_lines (analyze p)) =
    ap (count (is_line (use_line sp tail))) (lines_of-listing t (clean-texts t (accepted_printable s p next e)) (analyze p))
    ∙ (tally_no t (is_line (use_line sp tail) (first_line (analyze p))) _ (first_line_lem t (analyze p) sp tail) ∙ counted-lines t sp tail (analyze p)) in
    rw c (demand_3 p sp (use_text tail))
