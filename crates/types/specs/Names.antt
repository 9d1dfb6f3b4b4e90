-- The names of the classical types.
-- Assumes nothing.
use Rattle.std.specs.Prelude.{ℕ, List}
use Rattle.ast.specs.declared.ClassicalType.{ClassicalType}
use Rattle.ast.specs.declared.ClassicalType.TheVariants.{Int, UInt, Float, Angle}
use Rattle.ast.specs.declared.ClassicalType.TheVariants as type
use Rattle.text.specs.Text.{text}

unfoldable pub name_of : ClassicalType → List ℕ
name_of Int = text "int"
name_of UInt = text "uint"
name_of Float = text "float"
name_of Angle = text "angle"
name_of type.Bool = text "bool"
