-- The keys that the code holds. Assumes nothing.
use Rattle.std.proofs.Common.{ℕ, ◌≡◌, refl, ◌∙◌, ◌&&◌, eqb}
use Rattle.std.specs.Prelude.{Bool, true, Option as Maybe, Some, None}
use Rattle.std.specs.Option.{option_eq}
use Rattle.sema.specs.Marks.{Key, measures, resets, below_size}
use Rattle.sema.specs.Keys.{same_index, same_key}
use Rattle.context.specs.Values.{number_of, key_of}
use Rattle.ast.specs.Tree.{GateOperand}
use Rattle.std.proofs.Math.Option.{Option, none, some}
use Rattle.context.specs.declared.Key.{Key as KeyValue}
use Rattle.sheet.specs.Sheet.{same, reached}

-- equal keys
same-index : (i j : Maybe ℕ) → option_eq eqb i j ≡ same_index (number_of i) (number_of j)
unfolding same_index
same-index None None = refl
same-index None (Some j) = refl
same-index (Some i) None = refl
same-index (Some i) (Some j) = refl

pub same_is : (a b : KeyValue) → same a b ≡ same_key (key_of a) (key_of b)
unfolding same_key
same_is a b = rw (same-index a.index b.index)

pub same_decoded : (a b : KeyValue) (r : Bool) → r ≡ same a b → r ≡ same_key (key_of a) (key_of b)
same_decoded a b r e = e ∙ same_is a b

-- the keys that a measure of an operand sets, and those that a reset clears
abbrev pub set_by : Option ℕ → GateOperand → Key → Bool
set_by size op k = eqb k.name op.name && measures size op.slice op.index k.index

abbrev pub cleared_by : GateOperand → Key → Bool
cleared_by op k = eqb k.name op.name && resets op.slice op.index k.index

reached-measures : (size : Option ℕ) (slice : Option (ℕ × ℕ)) (index i : Option ℕ) → reached slice index i (below_size size i) ≡ measures size slice index i
unfolding reached measures
reached-measures size none none i = refl
reached-measures size none (some j) i = refl
reached-measures size (some r) index i = refl

reached-resets : (slice : Option (ℕ × ℕ)) (index i : Option ℕ) → reached slice index i true ≡ resets slice index i
unfolding reached resets
reached-resets none none i = refl
reached-resets none (some j) i = refl
reached-resets (some r) index i = refl

pub reached-set : (size : Option ℕ) (op : GateOperand) (k : Key) (r : Bool) → r ≡ (eqb k.name op.name && reached op.slice op.index k.index (below_size size k.index)) → r ≡ set_by size op k
reached-set size op k r e = e ∙ rw (reached-measures size op.slice op.index k.index)

pub reached-cleared : (op : GateOperand) (k : Key) (r : Bool) → r ≡ (eqb k.name op.name && reached op.slice op.index k.index true) → r ≡ cleared_by op k
reached-cleared op k r e = e ∙ rw (reached-resets op.slice op.index k.index)
