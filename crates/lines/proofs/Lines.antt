-- What is said of a message or a note. Assumes nothing.
use Rattle.std.proofs.Common.{length, ◌≡◌, ℕ, ◌+◌, ◌<◌, ◌≤◌, List, [], ◌∷◌, ◌++◌, Some, None, refl, sym, ◌∙◌, append_assoc, append-nil, add-zero, add-one, arith}
use Rattle.std.specs.Prelude.{Option as Maybe}
use Rattle.text.specs.Text.{text}
use Rattle.text.specs.Decimal.{decimal}
use Rattle.span.specs.declared.Span.{Span}
use Rattle.ast.specs.Tree.{Text}
use Rattle.sema.specs.Messages.{message_text, note_text, name_at, subscript, operand_text}
use Rattle.listing.specs.Listing.{ended, spaced, span_line, letter, note_lines, diagnostic_line, diagnostic_lines}
use Rattle.context.specs.declared.GateOperand.{GateOperand}
use Rattle.context.specs.declared.Sink.{Sink}
use Rattle.context.specs.Values.{operand_of}
use Rattle.context.specs.Sink.{written_of, store, bytes_of}
use Rattle.lines.specs.declared.Severity.{Severity}
use Rattle.lines.specs.declared.Message.{Message}
use Rattle.lines.specs.declared.Note.{Note}
use Rattle.lines.specs.declared.Diagnostic.{Diagnostic}
use Rattle.lines.specs.Stored.{Wrote, Said, Shown}
use Rattle.lines.specs.EmitLaws.{ended-append, one-within, one-past}
use Rattle.lines.specs.Values.{severity_of, message_of, note_of, secondary_of, diagnostic_of, counted_of, Reported}
use Rattle.lines.specs.Texts.{head_text}
use Rattle.lines.proofs.Sink.{wrote_then}

pub said-all : {o b xs : List ℕ} {n k : ℕ} → Wrote o n b k xs → Said o n b k xs (length xs)
said-all w = record { wrote = w; within = omega (arith, w.after) }

pub shown-said : {o b v xs : List ℕ} {n k i : ℕ} → Shown v xs i → Wrote o n b k v → Said o n b k xs i
shown-said d w = rw (← d.shows) (record { wrote = w; within = omega (arith, w.after, d.short) })

-- the last of a text
pub said-end : {o b xs : List ℕ} {n k i : ℕ} → Said o n b k xs i → Said o n b k (xs ++ []) i
said-end {xs = xs} s = rw (append-nil xs) s

pub then_said : {o b b' xs ys : List ℕ} {n k k' i j : ℕ} → Said o n b k xs i → Said b k b' k' ys j → Said o n b' k' (xs ++ ys) (i + j)
then_said u w = record { wrote = wrote_then u.wrote w.wrote; within = omega (arith, u.within, w.within) }

module _ {o b xs : List ℕ} {n k i : ℕ} where
  pub note-said : (t : List Text) {m m' : Note} → m ≡ m' → Said o n b k xs i → xs ≡ note_text t (note_of m') → i ≤ 384 → Said o n b k (note_text t (note_of m)) 384
  note-said t e s f h = rw (e, ← f) (record { wrote = s.wrote; within = omega (arith, s.within) })

  pub message-said : (t : List Text) {m m' : Message} → m ≡ m' → Said o n b k xs i → xs ≡ message_text t (message_of m') → i ≤ 384 → Said o n b k (message_text t (message_of m)) 384
  message-said t e s f h = rw (e, ← f) (record { wrote = s.wrote; within = omega (arith, s.within) })

  pub said_as : {ys : List ℕ} {j : ℕ} → Said o n b k xs i → xs ≡ ys → i ≤ j → Said o n b k ys j
  said_as s f h = rw (← f) (record { wrote = s.wrote; within = omega (arith, s.within) })

-- an operand by its index, by its slice, or whole
module _ (t : List Text) (op : GateOperand) where
  pub by-index : {i : ℕ} → op.index ≡ Some i → name_at t op.name ++ (91 ∷ (decimal i ++ (93 ∷ []))) ≡ operand_text t (operand_of op)
  unfolding operand_text subscript
  by-index e = rw e (simp (append_assoc, append-nil))

  pub by-slice : {a b : ℕ} → op.index ≡ None → op.slice ≡ Some (a, b) → name_at t op.name ++ (91 ∷ (decimal a ++ (58 ∷ (decimal b ++ (93 ∷ []))))) ≡ operand_text t (operand_of op)
  unfolding operand_text subscript
  by-slice e f = rw (e, f) (simp (append_assoc, append-nil))

  pub by-name : op.index ≡ None → op.slice ≡ None → name_at t op.name ≡ operand_text t (operand_of op)
  unfolding operand_text subscript
  by-name e f = rw (e, f) (sym (append-nil (name_at t op.name)))

line-text : (l xs : List ℕ) (sp : Span) → head_text (l ++ (32 ∷ [])) sp ++ (xs ++ (10 ∷ [])) ≡ ended (span_line l sp xs ∷ [])
unfolding head_text ended span_line spaced
line-text l xs sp = simp append_assoc

-- head, text and end make a line
pub line-said : (l xs : List ℕ) (sp : Span) {o o₁ o₂ o₃ : List ℕ} {n a b r : ℕ} → Said o n o₁ a (head_text (l ++ (32 ∷ [])) sp) 96 → Said o₁ a o₂ b xs 384 → Wrote o₂ b o₃ r (10 ∷ []) → Said o n o₃ r (ended (span_line l sp xs ∷ [])) 512
line-said l xs sp u v w =
    record {
      wrote = rw (← line-text l xs sp) (wrote_then u.wrote (wrote_then v.wrote w));
      within = omega (arith, u.within, v.within, w.after);
    }

pub message-line : (t : List Text) (d : Diagnostic) {o o₁ o₂ o₃ l : List ℕ} {n a b r : ℕ} → l ≡ letter (severity_of d.severity) → Said o n o₁ a (head_text (l ++ (32 ∷ [])) d.span) 96 → Said o₁ a o₂ b (message_text t (message_of d.message)) 384 → Wrote o₂ b o₃ r (10 ∷ []) → Said o n o₃ r (ended (diagnostic_line t (diagnostic_of d) ∷ [])) 512
unfolding diagnostic_line
message-line t d {o} {o₁} {n = n} {a} e u v w = line-said _ _ d.span (rw e at u) v w

pub note-line : (t : List Text) {sec : Maybe (Note × Span)} {m : Note} {sp : Span} {o o₁ o₂ o₃ : List ℕ} {n a b r : ℕ} → sec ≡ Some (m, sp) → Said o n o₁ a (head_text (text "N ") sp) 96 → Said o₁ a o₂ b (note_text t (note_of m)) 384 → Wrote o₂ b o₃ r (10 ∷ []) → Said o n o₃ r (ended (note_lines t (secondary_of sec))) 512
unfolding note_lines
note-line t {sp = sp} e u v w = rw e (line-said _ _ sp u v w)

pub no-note : (t : List Text) {sec : Maybe (Note × Span)} {o : List ℕ} {n : ℕ} → sec ≡ None → Said o n o n (ended (note_lines t (secondary_of sec))) 512
unfolding note_lines ended
no-note t {n = n} e = rw e (record { wrote = record { holds = refl; after = sym (add-zero n) }; within = omega arith })

-- the bytes of a diagnostic: its line, and its note's
two-lines : (t : List Text) (d : Diagnostic) → bytes_of t (diagnostic_of d) ≡ ended (diagnostic_line t (diagnostic_of d) ∷ []) ++ ended (note_lines t (secondary_of d.secondary))
unfolding bytes_of diagnostic_lines
two-lines t d =
    ended-append (diagnostic_line t (diagnostic_of d) ∷ []) (note_lines t (secondary_of d.secondary) ++ [])
    ∙ rw (append-nil (note_lines t (secondary_of d.secondary)))

-- `report` stores both and counts
module _ (s : Sink) {b : ℕ} where
  stored : {o o' : List ℕ} (v : Severity) (xs : List ℕ) (r : Sink) → ((o : List ℕ) → written_of r o ≡ counted_of s v b o) → Wrote o s.n o' b xs → written_of r o' ≡ store xs (severity_of v) (written_of s o)
  stored {o' = o'} Severity.Error xs r e w = rw (e o', w.holds, w.after, add-one s.errors)
  stored {o' = o'} Severity.Warning xs r e w = rw (e o', w.holds, w.after, add-one s.warnings)

  pub reported : (t : List Text) (d : Diagnostic) {o o₁ o' : List ℕ} {a : ℕ} {r : Sink} → s.errors + s.warnings ≤ 256 → Said o s.n o₁ a (ended (diagnostic_line t (diagnostic_of d) ∷ [])) 512 → Said o₁ a o' b (ended (note_lines t (secondary_of d.secondary))) 512 → ((o : List ℕ) → written_of r o ≡ counted_of s d.severity b o) → Reported t d s o r o'
  reported t d {o} {r = r} few u w e =
      let v = rw (← two-lines t d) at (wrote_then u.wrote w.wrote) in
      record {
        emits = stored d.severity (bytes_of t (diagnostic_of d)) r e v ∙ sym (one-within t (diagnostic_of d) (written_of s o) few);
      }

pub report_past : (t : List Text) (d : Diagnostic) (s : Sink) (o : List ℕ) → 256 < s.errors + s.warnings → Reported t d s o s o
report_past t d s o h = record { emits = sym (one-past t (diagnostic_of d) (written_of s o) h) }

-- two numbers, a space between them and a byte behind
pub numbers-said : (x y : ℕ) {o o₁ o₂ o₃ o' : List ℕ} {n k₁ k₂ k₃ r c : ℕ} → Said o n o₁ k₁ (decimal x) 20 → Wrote o₁ k₁ o₂ k₂ (32 ∷ []) → Said o₂ k₂ o₃ k₃ (decimal y) 20 → Wrote o₃ k₃ o' r (c ∷ []) → Said o n o' r (decimal x ++ (32 ∷ (decimal y ++ (c ∷ [])))) 64
numbers-said x y u f v g =
    record {
      wrote = wrote_then u.wrote (wrote_then f (wrote_then v.wrote g));
      within = omega (arith, u.within, f.after, v.within, g.after);
    }

pub head-said : (sp : Span) {c x y n k₁ k₂ r : ℕ} {o o₁ o₂ o' : List ℕ} → x ≡ sp.start → y ≡ sp.end → Wrote o n o₁ k₁ (c ∷ []) → Wrote o₁ k₁ o₂ k₂ (32 ∷ []) → Said o₂ k₂ o' r (decimal x ++ (32 ∷ (decimal y ++ (32 ∷ [])))) 64 → Said o n o' r (head_text (c ∷ (32 ∷ [])) sp) 96
unfolding head_text
head-said sp e f u v w =
    record {
      wrote = rw (← e, ← f) (wrote_then u (wrote_then v w.wrote));
      within = omega (arith, u.after, v.after, w.within);
    }

pub first-line : (x y : ℕ) {a b k : ℕ} {o o₁ o' : List ℕ} {r : ℕ} → Wrote o 0 o₁ k (text "list ") → Said o₁ k o' r (decimal x ++ (32 ∷ (decimal y ++ (10 ∷ [])))) 64 → x ≡ a → y ≡ b → Wrote o 0 o' r (ended (spaced (text "list") (decimal a ∷ decimal b ∷ []) ∷ []))
unfolding ended spaced
first-line x y u s e f = rw (← e, ← f, append_assoc (decimal x) (32 ∷ decimal y) (10 ∷ [])) (wrote_then u s.wrote)
