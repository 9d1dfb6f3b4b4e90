-- The starred edges of the document: for each a tree file, the answer with buffers of 65,536 bytes, and the listing.
use Rattle.std.specs.Prelude.{ℕ, zero, suc, List, [], ◌∷◌}
use Prim.Native.String.{String}
use Rattle.std.proofs.Math.Option.{none, some}
use Rattle.text.specs.Text.{text, concat}
use Rattle.ast.specs.Tree.{Text, Expr, no_expr, Stmt}
use Rattle.ast.specs.declared.BinOp.{BinOp}
use Rattle.ast.specs.declared.ClassicalType.{ClassicalType}
use Rattle.tree.specs.Encode.{encode}
use Rattle.ast.specs.Build.{span, nth, block, whole, index, slice, qubit, measure, h, if, while, nested, int, minus, op, controlled}
use Rattle.answer.specs.Answer.{Answer, accepted, refusal}

pub record Edge : Type 0 where
  pub tree : List ℕ
  pub answers : Answer
  pub listing : List ℕ

-- text 0 is q, text 1 is h, text 2 is x
abbrev names : List Text
names = text "q" ∷ text "h" ∷ text "x" ∷ []

-- the places of the statements are the decoder's to find, and play no part in the bytes
abbrev file : List Stmt → List ℕ
file ss = encode (record { texts = names; statements = block ss })

-- 1 with so many signs before it, and `int h = ..;`
abbrev negated : ℕ → Expr
negated zero = int 1
negated (suc n) = minus (negated n)

abbrev declared : Expr → Stmt
declared e = Stmt.ClassicalDecl 0 none ClassicalType.Int 1 (some e) (nth 0)

abbrev lines : List String → List ℕ
lines [] = []
lines (l ∷ ls) = concat (text l ∷ text "\n" ∷ lines ls ∷ [])

abbrev empty : List ℕ
empty = text "list 0 0\n"

unfoldable pub no_statements : Edge
no_statements = record { tree = 0 ∷ 0 ∷ 0 ∷ 0 ∷ []; answers = accepted 0 0 9; listing = empty }

-- `qubit[2] q;` with text 0, span 0 to 11, byte for byte, behind one text and one count
unfoldable pub qubit_declaration : Edge
qubit_declaration = record {
  tree =
      0x00 ∷ 0x01 ∷ 0x01 ∷ 0x71 ∷ 0x00 ∷ 0x01
      ∷ 0x01 ∷ 0x00 ∷ 0x00 ∷ 0x01 ∷ 0x00 ∷ 0x00 ∷ 0x00 ∷ 0x00 ∷ 0x00 ∷ 0x00 ∷ 0x00 ∷ 0x02 ∷ 0x00 ∷ 0x00 ∷ 0x00 ∷ 0x00 ∷ 0x00 ∷ 0x00 ∷ 0x00 ∷ 0x0B ∷ [];
  answers = accepted 0 0 9;
  listing = empty;
}

unfoldable pub keys_256 : Edge
keys_256 = record { tree = file (qubit (some 300) 0 ∷ measure (slice 0 255) 1 ∷ []); answers = accepted 0 0 9; listing = empty }

unfoldable pub keys_257 : Edge
keys_257 = record { tree = file (qubit (some 300) 0 ∷ measure (slice 0 256) 1 ∷ []); answers = refusal 7 0; listing = [] }

unfoldable pub levels_8 : Edge
levels_8 = record { tree = file (nested 8); answers = accepted 0 0 9; listing = empty }

-- the ninth `while` stands at 10 (texts and the count) + 8 * 13 (case, condition and count)
unfoldable pub levels_9 : Edge
levels_9 = record { tree = file (nested 9); answers = refusal 6 114; listing = [] }

unfoldable pub expression_levels_32 : Edge
expression_levels_32 = record { tree = file (declared (negated 31) ∷ []); answers = accepted 0 0 9; listing = empty }

-- the initializer stands at 16, and each `-` is one byte before its part
unfoldable pub expression_levels_33 : Edge
expression_levels_33 = record { tree = file (declared (negated 32) ∷ []); answers = refusal 6 48; listing = [] }

unfoldable pub gate_on_q_after_measure_of_index_0 : Edge
gate_on_q_after_measure_of_index_0 = record {
  tree = file (qubit (some 2) 0 ∷ measure (index 0) 1 ∷ h whole 2 ∷ []);
  answers = accepted 0 0 9;
  listing = empty;
}

unfoldable pub slice_1_0_marks_nothing : Edge
slice_1_0_marks_nothing = record {
  tree = file (qubit (some 2) 0 ∷ measure (slice 1 0) 1 ∷ h whole 2 ∷ h (index 0) 3 ∷ h (index 1) 4 ∷ []);
  answers = accepted 1 0 95;
  listing = lines ("list 1 0" ∷ "E 0 0 slice 1:0 is out of bounds for `q` (size 2)" ∷ "N 0 9 `q` declared with size 2 here" ∷ []);
}

unfoldable pub slice_1_0_is_covered_by_none : Edge
slice_1_0_is_covered_by_none = record {
  tree = file (qubit (some 2) 0 ∷ measure whole 1 ∷ h (slice 1 0) 2 ∷ []);
  answers = accepted 1 0 95;
  listing = lines ("list 1 0" ∷ "E 0 0 slice 1:0 is out of bounds for `q` (size 2)" ∷ "N 0 9 `q` declared with size 2 here" ∷ []);
}

unfoldable pub measure_of_size_0 : Edge
measure_of_size_0 = record {
  tree = file (qubit (some 0) 0 ∷ measure whole 1 ∷ h whole 2 ∷ []);
  answers = accepted 1 0 171;
  listing =
      lines
      ("list 1 0"
      ∷ "E 20 29 use of qubit `q` after measurement — qubit state has collapsed and cannot be used in a gate without an explicit `reset`"
      ∷ "N 10 19 qubit was measured here"
      ∷ []);
}

-- the whole key and 255 indices are 256 keys: no index is set besides
unfoldable pub measure_of_size_0_sets_no_index : Edge
measure_of_size_0_sets_no_index = record {
  tree = file (qubit (some 0) 0 ∷ measure whole 1 ∷ measure (slice 1 255) 2 ∷ []);
  answers = accepted 1 1 148;
  listing =
      lines
      ("list 1 1"
      ∷ "E 0 0 slice 1:255 is out of bounds for `q` (size 0)"
      ∷ "N 0 9 `q` declared with size 0 here"
      ∷ "W 20 29 qubit `q[1:255]` has already been measured"
      ∷ []);
}

unfoldable pub measure-in_one-arm : Edge
measure-in_one-arm = record {
  tree = file (qubit none 0 ∷ if (measure whole 2 ∷ []) 1 ∷ h whole 3 ∷ []);
  answers = accepted 1 0 171;
  listing =
      lines
      ("list 1 0"
      ∷ "E 30 39 use of qubit `q` after measurement — qubit state has collapsed and cannot be used in a gate without an explicit `reset`"
      ∷ "N 20 29 qubit was measured here"
      ∷ []);
}

unfoldable pub loop-body-once : Edge
loop-body-once = record {
  tree = file (qubit none 0 ∷ while (h whole 2 ∷ measure whole 3 ∷ []) 1 ∷ []);
  answers = accepted 0 0 9;
  listing = empty;
}

-- 0 - (-2)**127 / 2**126 is 2, so `x` takes three qubits
unfoldable pub power-has-value : Edge
power-has-value = record {
  tree =
      file
      (qubit (some 3) 0
      ∷ controlled (op BinOp.Sub (int 0) (op BinOp.Div (op BinOp.Pow (minus (int 2)) (int 127)) (op BinOp.Pow (int 2) (int 126)))) (index 0 ∷ index 1 ∷ index 2 ∷ []) 1
      ∷ []);
  answers = accepted 0 0 9;
  listing = empty;
}

-- 2**127 / 2**126 has no value, so that it counts 0 and `x` takes one qubit
unfoldable pub power-has-none : Edge
power-has-none = record {
  tree =
      file
      (qubit (some 3) 0
      ∷ controlled (op BinOp.Div (op BinOp.Pow (int 2) (int 127)) (op BinOp.Pow (int 2) (int 126))) (index 0 ∷ []) 1
      ∷ []);
  answers = accepted 1 0 69;
  listing = lines ("list 1 0" ∷ "E 1 2 control count must be a positive compile-time integer" ∷ []);
}

-- -7/2 + 4 is 1
unfoldable pub quotient_towards_zero : Edge
quotient_towards_zero = record {
  tree =
      file
      (qubit (some 2) 0
      ∷ controlled (op BinOp.Add (op BinOp.Div (minus (int 7)) (int 2)) (int 4)) (index 0 ∷ index 1 ∷ []) 1
      ∷ []);
  answers = accepted 0 0 9;
  listing = empty;
}

unfoldable pub control_count_0 : Edge
control_count_0 = record {
  tree = file (qubit (some 2) 0 ∷ controlled (int 0) (index 0 ∷ []) 1 ∷ []);
  answers = accepted 1 0 69;
  listing = lines ("list 1 0" ∷ "E 1 2 control count must be a positive compile-time integer" ∷ []);
}

-- the example under "The listing"
unfoldable pub example : Edge
example = record {
  tree =
      file
      (Stmt.QubitDecl 0 0 (some 2) (span 0 11)
      ∷ Stmt.Measure 0 whole none (span 12 22)
      ∷ Stmt.Reset 0 (index 0) (span 23 34)
      ∷ Stmt.GateCall 0 1 [] no_expr (slice 0 1 ∷ []) (span 35 44)
      ∷ []);
  answers = accepted 1 0 87;
  listing = lines ("list 1 0" ∷ "E 35 44 use of qubit `q[0]` after measurement" ∷ "N 12 22 qubit was measured here" ∷ []);
}
