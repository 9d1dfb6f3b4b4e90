-- The paths of a tree, and the marks that stand on a path.
use Rattle.std.specs.Prelude.{◌≡◌, Bool, true, false, ◌||◌, List, [], ◌∷◌, ◌++◌, ◌⊎◌, ℕ, suc, ◌+◌}
use Rattle.std.proofs.Math.Option.{Option, none, some}
use Rattle.std.proofs.Common.{inl, inr}
use Rattle.ast.specs.Tree.{TextNumber, Stmt, Program}
use Rattle.sema.specs.Symbols.{Symbols, empty as noSymbols, after}
use Rattle.sema.specs.Marks.{Key, key, Effect, set, clear, keep, effect}
use Rattle.paths.specs.Flow.{Flow, Flows, alone, once, arms, loop, no_flow, more_flow, head, flows}

-- how many statements of the tree
abbrev mutual
  pub size : Flow → ℕ
  size (alone s) = 1
  size (once s sc b) = suc (sizes b)
  size (arms s a b) = suc (sizes a + sizes b)
  size (loop s sc b) = suc (sizes b)

  pub sizes : Flows → ℕ
  sizes no_flow = 0
  sizes (more_flow f r) = size f + sizes r

-- A statement as it comes on a path: its number in the tree, counted from 0 in the order of the text, so that equal statements are
-- told apart; the symbols where it stands; itself.
pub record Step : Type 0 where
  pub number : ℕ
  pub symbols : Symbols
  pub stmt : Stmt

abbrev pub step : Symbols → ℕ → Stmt → Step
step ss n s = record { number = n; symbols = ss; stmt = s }

-- "its body once or not at all": the choices at a loop whose body has the choices C, and the statements that they make
abbrev pub Turns : Type 0 → Type 0
Turns C = C ⊎ Unit {0}

abbrev pub either : {C D : Type 0} → (C → List Step) → (D → List Step) → C ⊎ D → List Step
either l r (inl c) = l c
either l r (inr d) = r d

abbrev pub turns : {C : Type 0} → (C → List Step) → Turns C → List Step
turns body = either body (λ u. [])

-- The choices that make a path. "No value of a condition or bound rules a path out."
abbrev mutual
  pub Choice : Flow → Type 0
  Choice (alone s) = Unit {0}
  Choice (once s sc b) = Choices b
  Choice (arms s a b) = Choices a ⊎ Choices b
  Choice (loop s sc b) = Turns (Choices b)

  pub Choices : Flows → Type 0
  Choices no_flow = Unit {0}
  Choices (more_flow f r) = Choice f × Choices r

-- "A path is a list of statements of the tree": those that the choices make, from the statement number n on, where the symbols are ss.
-- "The q that a statement sees, and its size, go by where the statement stands, whichever path leads there."
abbrev mutual
  pub steps₁ : (f : Flow) → Symbols → ℕ → Choice f → List Step
  steps₁ (alone s) ss n c = step ss n s ∷ []
  steps₁ (once s sc b) ss n c = step ss n s ∷ steps b (sc ∷ ss) (suc n) c
  steps₁ (arms s a b) ss n c = step ss n s ∷ either (λ d. steps a (noSymbols ∷ ss) (suc n) d) (λ d. steps b (noSymbols ∷ ss) (suc n + sizes a) d) c
  steps₁ (loop s sc b) ss n c = step ss n s ∷ turns (λ d. steps b (sc ∷ ss) (suc n) d) c

  pub steps : (b : Flows) → Symbols → ℕ → Choices b → List Step
  steps no_flow ss n c = []
  steps (more_flow f r) ss n c = steps₁ f ss n c.0 ++ steps r (after ss (head f)) (n + size f) c.1

-- which keys stand
abbrev pub State : Type 0
State = Key → Bool

-- "begun with no mark standing"
abbrev pub no_mark : State
no_mark k = false

abbrev pub stands : Effect → Bool → Bool
stands set b = true
stands clear b = false
stands keep b = b

-- The marks that a statement leaves standing. src/sema.rs takes them into a gate definition's body and out of it from statement to
-- statement too, and a function's body has no statements.
abbrev pub next : State → Step → State
next m x k = stands (effect x.symbols x.stmt k) (m k)

abbrev pub run : State → List Step → State
run m [] = m
run m (x ∷ π) = run (next m x) π

-- "A path reaches it when its statement comes, with the marks that the earlier statements of the path left standing": the path π, begun
-- with the marks m, comes to the statement number a, and P holds of the marks that stand there.
abbrev pub Reaches : (State → Type 0) → State → List Step → ℕ → Type 0
Reaches P m [] a = ⊥
Reaches P m (x ∷ π) a = ((x.number ≡ a) × P m) ⊎ Reaches P (next m x) π a

-- one of the paths j, each begun with the marks st j, reaches statement number a with P of the marks that stand there
pub record Some {J : Type 0} (st : J → State) (π : J → List Step) (a : ℕ) (P : State → Type 0) : Type 0 where
  pub path : J
  pub reaches : Reaches P (st path) (π path) a

-- the key of q, or of q[i], where the symbols are ss: "Keys go by text, not by declaration."
abbrev pub key_at : Symbols → TextNumber → Option ℕ → Key
key_at ss x i = key x i

-- a mark that covers q, or q[i], stands: "q by its whole key only; q[i] by its own and the whole key"
abbrev pub covers : Symbols → State → TextNumber → Option ℕ → Bool
covers ss m x none = m (key_at ss x none)
covers ss m x (some i) = m (key_at ss x (some i)) || m (key_at ss x none)

-- of a whole program
abbrev pub PathOf : Program → Type 0
PathOf p = Choices (flows p.statements)

abbrev pub path_steps : (p : Program) → PathOf p → List Step
path_steps p c = steps (flows p.statements) (noSymbols ∷ []) 0 c
