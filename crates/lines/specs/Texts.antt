-- What values say, and how many bytes they may take.
use Rattle.std.specs.Prelude.{ℕ, ◌+◌, ◌<◌, List, [], ◌∷◌, ◌++◌}
use Rattle.text.specs.Decimal.{decimal}
use Rattle.types.specs.Names as types
use Rattle.span.specs.declared.Span.{Span}
use Rattle.ast.specs.Tree.{Text}
use Rattle.sema.specs.Messages.{name_at, kind_name, expected_name}
use Rattle.context.specs.Values.{kind_of}
use Rattle.lines.specs.declared.pieces.Value.{Value}
use Rattle.lines.specs.Values.{expected_of}

abbrev pub value_text : List Text → Value → List ℕ
value_text t (Value.Name x) = name_at t x
value_text t (Value.TypeName ty) = types.name_of ty
value_text t (Value.KindName k) = kind_name (kind_of k)
value_text t (Value.ExpectedName e) = expected_name (expected_of e)
value_text t (Value.Number v) = decimal v
value_text t (Value.Sum a b) = decimal (a + b)

abbrev pub value_room : Value → ℕ
value_room (Value.Name x) = 64
value_room (Value.TypeName ty) = 16
value_room (Value.KindName k) = 16
value_room (Value.ExpectedName e) = 16
value_room (Value.Number v) = 20
value_room (Value.Sum a b) = 39

-- a text number is below the number of texts
abbrev pub Named : ℕ → Value → Type 0
Named n (Value.Name x) = x < n
Named n (Value.TypeName ty) = Unit {0}
Named n (Value.KindName k) = Unit {0}
Named n (Value.ExpectedName e) = Unit {0}
Named n (Value.Number v) = Unit {0}
Named n (Value.Sum a b) = Unit {0}

-- the head of a line: its letter and its span
unfoldable pub head_text : List ℕ → Span → List ℕ
head_text letter sp = letter ++ (decimal sp.start ++ (32 ∷ (decimal sp.end ++ (32 ∷ []))))
