-- The numbers of the refusals, and how a refused call is printed.
use Rattle.std.specs.Prelude.{ℕ, List, ◌∷◌, ◌++◌, codes}
use Rattle.std.specs.Fmt.{decimal}
use Rattle.refusal.specs.declared.Refused.{Refused}
use Rattle.refusal.specs.declared.Refusal.{Refusal}
use Rattle.refusal.specs.declared.Refusal.TheVariants.{ShortScratch, LongTree, WrongEnd, NotAllowed, LargeCount, TooDeep, ManyKeys, ManyDiagnostics, LongListing}

abbrev pub number_of : Refusal → ℕ
number_of ShortScratch = 1
number_of LongTree = 2
number_of WrongEnd = 3
number_of NotAllowed = 4
number_of LargeCount = 5
number_of TooDeep = 6
number_of ManyKeys = 7
number_of ManyDiagnostics = 8
number_of LongListing = 9

-- number and place
abbrev pub text_of : Refused → List ℕ
text_of r = codes "refused " ++ (decimal (number_of r.refusal) ++ (32 ∷ decimal r.place))
