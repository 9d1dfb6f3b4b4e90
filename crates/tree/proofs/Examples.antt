-- The decoder at single files, computed. Assumes nothing.
use Prim.Native.Nat.{ℕ, zero, suc, ◌+◌, ◌*◌}
use mathlib.Core.Path.{◌≡◌, refl}
use mathlib.Core.List.{List, [], ◌∷◌, ◌++◌, map, flatten}
use mathlib.Core.Option.{some}
use mathlib.Core.Bool.{Bool, true, false}
use native.Mathlib.Omega.{arith}
use lib.ListN.{replicate}
use lib.Dec.{lit<, lit≤}
use Rattle.text.specs.Big.{value}
use Rattle.ast.specs.Tree.{Program, Stmt, no_stmt, more_stmt}
use Rattle.tree.specs.Ans.{Ans, ok, refused, bind, ◌>>=◌, ◌>>◌, done, here, refuse, check}
use Rattle.tree.specs.Read.{within, byte, bytes, number, span, case_byte, one_of, bool, option_case, option, repeat, count, counted}
use Rattle.tree.specs.Texts.{allowed, among, text, more_texts, texts, letter, digit, every, digits, is_name, fraction, is_float, is_path}
use Rattle.tree.specs.Exprs.{text_number, const_kind, bin_op, compare_op, int_lit, float_lit, bool_lit, ident, index, call, const, neg, binary, compare, expr_cases, expr}
use Rattle.tree.specs.Stmts.{classical_type, qualifier, assign_op, slice, body, to_else, else_body, operand, ctrl, neg_ctrl, inv, pow, modifier, for_range, param, include, qubit_decl, bit_decl, classical_decl, assignment, gate_call, gate_def, function_def, measure, reset, barrier, delay, branch, for_loop, while_loop, stmt_cases, stmt}
use Rattle.tree.specs.Decode.{size, nothing_left, file, decode}
use Rattle.tree.specs.Encode.{big, put_span, put_option, stmt_count, put_counted, put_stmt, put_text, put_texts, encode}
use Rattle.tree.specs.Fits.{OptionFits, Each, StmtFits, Fits}

-- the decoder, with all of its readers open
opened : List ℕ → Ans Program
unfolding bind ◌>>=◌ ◌>>◌ done here refuse check within byte bytes value number span case_byte one_of bool option_case option repeat count counted allowed among text more_texts texts letter digit every digits is_name fraction is_float is_path text_number const_kind bin_op compare_op int_lit float_lit bool_lit ident index call const neg binary compare expr_cases expr classical_type qualifier assign_op slice body to_else else_body operand ctrl neg_ctrl inv pow modifier for_range param include qubit_decl bit_decl classical_decl assignment gate_call gate_def function_def measure reset barrier delay branch for_loop while_loop stmt_cases stmt size nothing_left file decode
opened s = decode s

-- no text, no statement
empty : decode (0 ∷ 0 ∷ 0 ∷ 0 ∷ []) ≡ ok (record { texts = []; statements = no_stmt }) 4
unfolding opened
empty = refl

-- one text, `q`, and one statement, `qubit[2] q;`, whose bytes are those of the example
qubits : List ℕ
qubits =
    0x00 ∷ 0x01 ∷ 0x01 ∷ 0x71
    ∷ 0x00 ∷ 0x01
    ∷ 0x01 ∷ 0x00 ∷ 0x00 ∷ 0x01 ∷ 0x00 ∷ 0x00 ∷ 0x00 ∷ 0x00 ∷ 0x00 ∷ 0x00 ∷ 0x00 ∷ 0x02 ∷ 0x00 ∷ 0x00 ∷ 0x00 ∷ 0x00 ∷ 0x00 ∷ 0x00 ∷ 0x00 ∷ 0x0B ∷ []

abbrev qubits-tree : Program
qubits-tree = record { texts = (0x71 ∷ []) ∷ []; statements = more_stmt (Stmt.QubitDecl 6 0 (some 2) (record { start = 0; end = 11 })) no_stmt }

qubits-read : decode qubits ≡ ok qubits-tree 26
unfolding opened qubits
qubits-read = refl

qubits-written : encode qubits-tree ≡ qubits
unfolding qubits encode put_texts put_text put_counted put_stmt put_option put_span stmt_count big flatten
qubits-written = refl

qubits_fit : Fits qubits-tree
unfolding opened encode put_texts put_text put_counted put_stmt put_option put_span stmt_count big flatten Each OptionFits StmtFits
qubits_fit = record {
  texts_fit = record {
    few = lit≤ tt;
    each = (record { some_bytes = lit≤ tt; few_bytes = lit≤ tt; plain = refl }, tt);
    unequal = λ i j l m e. omega arith;
  };
  count_fits = lit< tt;
  statements_fit = (
    (record { level = lit< tt; stands = refl }, record { known = lit< tt; spelling = refl }, lit< tt, record { start_fits = lit< tt; end_fits = lit< tt }),
    tt,
  );
  small = lit≤ tt;
}

-- 16,385 and 16,384 bytes: the second has four bytes of a tree, and then bytes remain
large : decode (replicate 16385 0) ≡ refused 2 16384
unfolding opened
large = refl

not-large : decode (replicate 16384 0) ≡ refused 3 4
unfolding opened
not-large = refl

-- a span of zeros
span₀ : List ℕ
span₀ = replicate 8 0

-- so many `while true`, one in the other, and a `barrier` without targets within
loops : ℕ → List ℕ
unfolding span₀
loops zero = 10 ∷ 0 ∷ span₀
loops (suc n) = 14 ∷ 2 ∷ 1 ∷ span₀ ++ (0 ∷ 1 ∷ loops n) ++ span₀

-- so many minus signs, and `true` within
signs : ℕ → List ℕ
unfolding span₀
signs zero = 2 ∷ 1 ∷ span₀
signs (suc n) = 7 ∷ signs n ++ span₀

-- a file without texts and with one statement
one : List ℕ → List ℕ
one statement = 0 ∷ 0 ∷ 0 ∷ 1 ∷ statement

-- a `delay` without targets
delayed : List ℕ → List ℕ
unfolding span₀
delayed e = 11 ∷ e ++ (0 ∷ span₀)

accepted : {A : Type 0} → Ans A → Bool
accepted (ok a next) = true
accepted (refused number place) = false

-- statement levels 8 and 9, expression levels 32 and 33
stmts_8 : accepted (decode (one (loops 7))) ≡ true
unfolding opened accepted one loops
stmts_8 = refl

stmts_9 : decode (one (loops 8)) ≡ refused 6 (4 + 8 * 13)
unfolding opened one loops
stmts_9 = refl

exprs_32 : accepted (decode (one (delayed (signs 31)))) ≡ true
unfolding opened accepted one delayed signs
exprs_32 = refl

exprs_33 : decode (one (delayed (signs 32))) ≡ refused 6 (5 + 32)
unfolding opened one delayed signs
exprs_33 = refl

-- a file with the texts `a` and `1`, and one statement
two : List ℕ → List ℕ
two statement = 0 ∷ 2 ∷ 1 ∷ 97 ∷ 1 ∷ 49 ∷ 0 ∷ 1 ∷ statement

-- files that are refused: each sentence of "Refused calls" that names a place, and which of two comes first
files : List (List ℕ)
unfolding one two
files =
    -- the bytes end inside a count, a text's length, a text
    (0 ∷ [])
    ∷ (0 ∷ 1 ∷ [])
    ∷ (0 ∷ 1 ∷ 3 ∷ 97 ∷ 10 ∷ [])
    -- or remain
    ∷ (0 ∷ 0 ∷ 0 ∷ 0 ∷ 7 ∷ [])
    -- 257 texts; a text of no byte, of 65, with the byte 32, with the byte 127, equal to an earlier one
    ∷ (1 ∷ 1 ∷ 0 ∷ [])
    ∷ (0 ∷ 1 ∷ 0 ∷ [])
    ∷ (0 ∷ 1 ∷ 65 ∷ [])
    ∷ (0 ∷ 1 ∷ 2 ∷ 97 ∷ 32 ∷ [])
    ∷ (0 ∷ 1 ∷ 2 ∷ 127 ∷ 32 ∷ [])
    ∷ (0 ∷ 2 ∷ 1 ∷ 97 ∷ 1 ∷ 97 ∷ [])
    -- a statement's case byte missing, or no case; a text number missing its second byte
    ∷ one []
    ∷ one (15 ∷ [])
    ∷ two (1 ∷ 0 ∷ [])
    -- a text number too large, a text that is no name, an Option's byte, a number that ends early
    ∷ two (1 ∷ 0 ∷ 2 ∷ [])
    ∷ two (1 ∷ 0 ∷ 1 ∷ [])
    ∷ two (1 ∷ 0 ∷ 0 ∷ 2 ∷ [])
    ∷ two (1 ∷ 0 ∷ 0 ∷ 1 ∷ 0 ∷ 0 ∷ [])
    -- a path may be any text; then its span ends early
    ∷ two (0 ∷ 0 ∷ 1 ∷ 0 ∷ 0 ∷ 0 ∷ 0 ∷ 0 ∷ [])
    -- 17 targets, with no target behind
    ∷ one (10 ∷ 17 ∷ [])
    -- `1` is no float; a Bool's byte; no case of an expression, of a modifier, of a type
    ∷ two (11 ∷ 1 ∷ 0 ∷ 1 ∷ [])
    ∷ one (11 ∷ 2 ∷ 2 ∷ [])
    ∷ one (11 ∷ 10 ∷ [])
    ∷ two (5 ∷ 0 ∷ 0 ∷ 1 ∷ 4 ∷ [])
    ∷ one (3 ∷ 0 ∷ 5 ∷ [])
    ∷ []

files-refused : map decode files
    ≡ refused 3 1 ∷ refused 3 2 ∷ refused 3 5 ∷ refused 3 4
    ∷ refused 5 0 ∷ refused 4 2 ∷ refused 4 2 ∷ refused 4 4 ∷ refused 4 3 ∷ refused 4 4
    ∷ refused 3 4 ∷ refused 4 4 ∷ refused 3 10
    ∷ refused 4 9 ∷ refused 4 9 ∷ refused 4 11 ∷ refused 3 14
    ∷ refused 3 16
    ∷ refused 5 5
    ∷ refused 4 10 ∷ refused 4 6 ∷ refused 4 5 ∷ refused 4 12 ∷ refused 4 6
    ∷ []
unfolding opened files
files-refused = refl

-- so many `while true`, one in the other, and a byte within
inner : ℕ → ℕ → List ℕ
unfolding span₀
inner zero b = b ∷ []
inner (suc n) b = 14 ∷ 2 ∷ 1 ∷ span₀ ++ (0 ∷ 1 ∷ inner n b)

-- a case byte that is none is refused so also at level 9 and at level 33
files-deep : (decode (one (inner 8 15)) ≡ refused 4 108) × (decode (one (11 ∷ replicate 32 7 ++ (10 ∷ []))) ≡ refused 4 37)
unfolding opened one inner
files-deep = (refl, refl)
