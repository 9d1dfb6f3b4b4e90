-- What a list of diagnostics leaves of a listing.
use Rattle.std.specs.Prelude.{ℕ, suc, ◌+◌, ◌≤◌, ◌<◌, min, ◌≡◌, refl, Bool, true, false, List, [], ◌∷◌, ◌++◌, length, leb}
use Rattle.std.proofs.Common.{sym, ap, ◌∙◌, append_assoc, append-nil, arith, add-zero, zero-add, length-append, le-leb, leb-true, leb-false}
use Rattle.std.proofs.lemmas.List.Edits.{sets}
use Rattle.std.proofs.lemmas.Bool.{lt-leb}
use Rattle.ast.specs.Tree.{Text}
use Rattle.sema.specs.Limits.{diagnostic_limit}
use Rattle.sema.specs.Messages.{Diagnostic, Severity, Error, Warning}
use Rattle.listing.specs.Listing.{ended, diagnostic_line, diagnostic_lines, note_lines, tally, count_of, first_line, listing_of}
use Rattle.context.specs.Sink.{Written, store, bytes_of, emit_one, emit}
use Rattle.text.proofs.Sets.{sets-append}

pub emit-append : (t : List Text) (a b : List Diagnostic) (w : Written) → emit t (a ++ b) w ≡ emit t b (emit t a w)
unfolding emit
emit-append t [] b w = refl
emit-append t (d ∷ a) b w = emit-append t a b (emit_one t d w)

pub emit-none : (t : List Text) (w : Written) → emit t [] w ≡ w
unfolding emit
emit-none t w = refl

pub emit_one_lem : (t : List Text) (d : Diagnostic) (w : Written) → emit t (d ∷ []) w ≡ emit_one t d w
unfolding emit
emit_one_lem t d w = refl

-- within the limit a diagnostic is stored
pub one-within : (t : List Text) (d : Diagnostic) (w : Written) → w.errors + w.warnings ≤ diagnostic_limit → emit_one t d w ≡ store (bytes_of t d) d.severity w
unfolding emit_one
one-within t d w h = rw (le-leb (w.errors + w.warnings) diagnostic_limit h, emit_one)

-- past the limit nothing is added
pub one-past : (t : List Text) (d : Diagnostic) (w : Written) → diagnostic_limit < w.errors + w.warnings → emit_one t d w ≡ w
unfolding emit_one
one-past t d w h = rw (lt-leb (w.errors + w.warnings) diagnostic_limit h, emit_one)

pub past : (t : List Text) (ds : List Diagnostic) (w : Written) → diagnostic_limit < w.errors + w.warnings → emit t ds w ≡ w
unfolding emit
past t [] w h = refl
past t (d ∷ ds) w h = rw (one-past t d w h) (past t ds w h)

-- the bytes of several diagnostics
abbrev pub all_bytes : List Text → List Diagnostic → List ℕ
all_bytes t ds = ended (diagnostic_lines t ds)

pub ended-append : (a b : List (List ℕ)) → ended (a ++ b) ≡ ended a ++ ended b
unfolding ended
ended-append [] b = refl
ended-append (l ∷ a) b = rw (ended-append a b, append_assoc l (10 ∷ ended a) (ended b))

pub bytes_next : (t : List Text) (d : Diagnostic) (ds : List Diagnostic) → all_bytes t (d ∷ ds) ≡ bytes_of t d ++ all_bytes t ds
unfolding bytes_of diagnostic_lines
bytes_next t d ds =
    ended-append (diagnostic_line t d ∷ note_lines t d.secondary) (diagnostic_lines t ds)
    ∙ rw (append-nil (note_lines t d.secondary))

-- xs stored, and so many errors and warnings more
abbrev pub grown : List ℕ → ℕ → ℕ → Written → Written
grown xs e v w = record { out = sets w.out w.n xs; n = w.n + length xs; errors = w.errors + e; warnings = w.warnings + v }

shift : (a b : ℕ) → suc a + b ≡ a + suc b
shift a b = omega arith

join : (n : ℕ) (xs ys : List ℕ) → n + length xs + length ys ≡ n + length (xs ++ ys)
join n xs ys = omega (arith, length-append xs ys)

stored-then : (xs ys : List ℕ) (s : Severity) (e v : ℕ) (w : Written) → grown ys e v (store xs s w) ≡ grown (xs ++ ys) (tally Error s e) (tally Warning s v) w
unfolding tally
stored-then xs ys Error e v w = rw (shift w.errors e, join w.n xs ys, sets-append xs ys w.out w.n)
stored-then xs ys Warning e v w = rw (shift w.warnings v, join w.n xs ys, sets-append xs ys w.out w.n)

count-store : (xs : List ℕ) (s : Severity) (w : Written) → (store xs s w).errors + (store xs s w).warnings ≡ suc (w.errors + w.warnings)
count-store xs Error w = omega arith
count-store xs Warning w = omega arith

grown-none : (w : Written) → grown [] 0 0 w ≡ w
grown-none w = rw (add-zero w.n, add-zero w.errors, add-zero w.warnings)

-- as long as none is left out: all the bytes, and the number of each severity
pub emit-within : (t : List Text) (ds : List Diagnostic) (w : Written) → w.errors + w.warnings + length ds ≤ suc diagnostic_limit → emit t ds w ≡ grown (all_bytes t ds) (count_of Error ds) (count_of Warning ds) w
unfolding emit count_of ended diagnostic_lines
emit-within t [] w h = sym (grown-none w)
emit-within t (d ∷ ds) w h =
    rw (one-within t d w (omega arith), bytes_next t d ds)
    (emit-within t ds (store (bytes_of t d) d.severity w) (omega (arith, count-store (bytes_of t d) d.severity w))
    ∙ stored-then (bytes_of t d) (all_bytes t ds) d.severity (count_of Error ds) (count_of Warning ds) w)

-- no diagnostic yet, and n bytes before the first
abbrev pub empty : List ℕ → ℕ → Written
empty o n = record { out = o; n = n; errors = 0; warnings = 0 }

pub emit-from : (t : List Text) (ds : List Diagnostic) (o : List ℕ) (n : ℕ) → length ds ≤ suc diagnostic_limit → emit t ds (empty o n) ≡ record { out = sets o n (all_bytes t ds); n = n + length (all_bytes t ds); errors = count_of Error ds; warnings = count_of Warning ds }
emit-from t ds o n h =
    emit-within t ds (empty o n) (omega arith)
    ∙ rw (zero-add (count_of Error ds), zero-add (count_of Warning ds))

-- the diagnostics listed
abbrev pub listed : Written → ℕ
listed w = w.errors + w.warnings

count_next : (t : List Text) (d : Diagnostic) (ds : List Diagnostic) (w : Written) → ((v : Written) → listed v ≤ suc diagnostic_limit → listed (emit t ds v) ≡ min (listed v + length ds) (suc diagnostic_limit)) → listed w ≤ suc diagnostic_limit → (b : Bool) → leb (listed w) diagnostic_limit ≡ b → listed (emit t ds (emit_one t d w)) ≡ min (listed w + suc (length ds)) (suc diagnostic_limit)
count_next t d ds w rest h true e =
    let l = leb-true (listed w) diagnostic_limit e in
    let v = store (bytes_of t d) d.severity w in
    let c : listed v ≡ suc (listed w) = count-store (bytes_of t d) d.severity w in
    rw (one-within t d w l) (rest v (omega arith) ∙ rw c (ap (λ (k : ℕ). min k (suc diagnostic_limit)) (shift (listed w) (length ds))))
count_next t d ds w rest h false e =
    let l = leb-false (listed w) diagnostic_limit e in
    rw (one-past t d w l, past t ds w l) (omega arith)

-- all are listed, or one more than the limit
pub emit-count : (t : List Text) (ds : List Diagnostic) (w : Written) → listed w ≤ suc diagnostic_limit → listed (emit t ds w) ≡ min (listed w + length ds) (suc diagnostic_limit)
unfolding emit
emit-count t [] w h = omega arith
emit-count t (d ∷ ds) w h = count_next t d ds w (emit-count t ds) h (leb (listed w) diagnostic_limit) refl

-- more diagnostics than the limit are seen by the counts, and no fewer
pub emit-over : (t : List Text) (ds : List Diagnostic) (o : List ℕ) (n : ℕ) → diagnostic_limit < length ds → diagnostic_limit < listed (emit t ds (empty o n))
emit-over t ds o n h = omega (arith, emit-count t ds (empty o n) (omega arith))

pub emit-few : (t : List Text) (ds : List Diagnostic) (o : List ℕ) (n : ℕ) → length ds ≤ diagnostic_limit → listed (emit t ds (empty o n)) ≤ diagnostic_limit
emit-few t ds o n h = omega (arith, emit-count t ds (empty o n) (omega arith))

-- the listing: its first line, and the bytes of the diagnostics behind it
pub listing-parts : (t : List Text) (ds : List Diagnostic) → listing_of t ds ≡ ended (first_line ds ∷ []) ++ all_bytes t ds
unfolding listing_of
listing-parts t ds = ended-append (first_line ds ∷ []) (diagnostic_lines t ds)

-- the first line stored from place 0 on, and the diagnostics behind it, are the listing stored
pub listing-stored : (t : List Text) (ds : List Diagnostic) (o : List ℕ) → sets (sets o 0 (ended (first_line ds ∷ []))) (length (ended (first_line ds ∷ []))) (all_bytes t ds) ≡ sets o 0 (listing_of t ds)
listing-stored t ds o =
    rw (listing-parts t ds, sets-append (ended (first_line ds ∷ [])) (all_bytes t ds) o 0, zero-add (length (ended (first_line ds ∷ []))))
