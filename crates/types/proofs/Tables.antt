-- The tables of the code, made from the rules, and the entry of each type. Assumes nothing.
use Prim.Native.Nat.{ℕ}
use mathlib.Core.Path.{◌≡◌, refl}
use mathlib.Core.Bool.{Bool, false}
use mathlib.Core.List.{List, [], map}
use lib.ListN.{get_or}
use Rattle.ast.specs.declared.ClassicalType.{ClassicalType}
use Rattle.ast.specs.declared.ClassicalType.TheVariants.{Int, UInt, Float, Angle}
use Rattle.ast.specs.declared.ClassicalType.TheVariants as type
use Rattle.types.specs.Types.{types, number_of, assignable_to}

-- of what a function makes of the types, the entry of a type is what it makes of that
mapped : {A : Type 0} (f : ClassicalType → A) (d : A) (t : ClassicalType) → get_or (map f types) (number_of t) d ≡ f t
mapped f d Int = refl
mapped f d UInt = refl
mapped f d Float = refl
mapped f d Angle = refl
mapped f d type.Bool = refl

-- the answers of the rule: a row for each expected type, a cell for each actual one
unfoldable pub answers : List (List Bool)
answers = map (λ (expected : ClassicalType). map (assignable_to expected) types) types

pub assigned : (e a : ClassicalType) (i j : ℕ) → i ≡ number_of e → j ≡ number_of a → get_or (get_or answers i []) j false ≡ assignable_to e a
unfolding answers
assigned e a i j h k =
    rw (h, k, mapped (λ (expected : ClassicalType). map (assignable_to expected) types) [] e) (mapped (assignable_to e) false a)
