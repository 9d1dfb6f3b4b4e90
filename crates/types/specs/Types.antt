-- The rules on classical types: which type takes which, and the type of arithmetic.
-- Assumes nothing.
use Rattle.std.specs.Prelude.{ℕ, ◌+◌, ◌*◌, ◌≡◌, refl, Bool, true, false, cond, ◌&&◌, ◌||◌, List, [], ◌∷◌, length, ltb, eqb}
use Rattle.ast.specs.declared.ClassicalType.{ClassicalType}
use Rattle.ast.specs.declared.ClassicalType.TheVariants.{Int, UInt, Float, Angle}
use Rattle.ast.specs.declared.ClassicalType.TheVariants as type
use Rattle.std.specs.Prelude.{Option as Maybe, Some, None}

-- the types in the order of the source
abbrev pub types : List ClassicalType
types = Int ∷ UInt ∷ Float ∷ Angle ∷ type.Bool ∷ []

-- the place of a type in that order
abbrev pub number_of : ClassicalType → ℕ
number_of Int = 0
number_of UInt = 1
number_of Float = 2
number_of Angle = 3
number_of type.Bool = 4

-- a type is among some
abbrev pub among : ClassicalType → List ClassicalType → Bool
among t [] = false
among t (u ∷ us) = eqb (number_of t) (number_of u) || among t us

-- the types that an expected type takes
abbrev pub takes : ClassicalType → List ClassicalType
takes Int = Int ∷ []
takes UInt = UInt ∷ Int ∷ []
takes Float = Float ∷ Int ∷ UInt ∷ []
takes Angle = Angle ∷ Float ∷ Int ∷ UInt ∷ []
takes type.Bool = type.Bool ∷ []

-- a value of the actual type may be assigned where the expected type stands
unfoldable pub assignable_to : ClassicalType → ClassicalType → Bool
assignable_to expected actual = among actual (takes expected)

-- bool is not numeric
abbrev pub numeric : ClassicalType → Bool
numeric Int = true
numeric UInt = true
numeric Float = true
numeric Angle = true
numeric type.Bool = false

-- the rank of a numeric type; bool has none, and 0 stands in for it
abbrev pub rank_of : ClassicalType → ℕ
rank_of UInt = 0
rank_of Int = 1
rank_of Float = 2
rank_of Angle = 3
rank_of type.Bool = 0

-- of two types the one of the larger rank
abbrev pub larger : ClassicalType → ClassicalType → ClassicalType
larger l r = cond (ltb (rank_of l) (rank_of r)) r l

-- arithmetic on two numeric types has the larger one; on others no type
unfoldable pub arithmetic_of : ClassicalType → ClassicalType → Maybe ClassicalType
arithmetic_of l r = cond (numeric l && numeric r) (Some (larger l r)) None

int_and_uint : arithmetic_of UInt Int ≡ Some Int
unfolding arithmetic_of
int_and_uint = refl

bool-and-int : arithmetic_of type.Bool Int ≡ None
unfolding arithmetic_of
bool-and-int = refl

-- the sum of f over some types
abbrev sum : (ClassicalType → ℕ) → List ClassicalType → ℕ
sum f [] = 0
sum f (t ∷ ts) = f t + sum f ts

-- 11 of the 25 pairs are yes
eleven : sum (λ expected. sum (λ actual. cond (assignable_to expected actual) 1 0) types) types ≡ 11
unfolding assignable_to
eleven = refl

all_pairs : length types * length types ≡ 25
all_pairs = refl
