-- The operand places of a tree.
use Rattle.std.specs.Prelude.{◌≡◌, List, [], ◌∷◌, ◌++◌, ◌⊎◌, ℕ, zero, suc, ◌+◌, ◌<◌}
use Rattle.std.proofs.Math.Option.{Option, none, some}
use Rattle.span.specs.declared.Span.{Span}
use Rattle.ast.specs.Tree.{GateOperand, Stmt, Program}
use Rattle.sema.specs.Symbols.{Symbols, empty as noSymbols, after}
use Rattle.paths.specs.Flow.{Flow, Flows, alone, once, arms, loop, no_flow, more_flow, head, flows}
use Rattle.paths.specs.Steps.{size, sizes, Step}

-- the operands that a statement uses, and its span
abbrev pub uses : Stmt → List GateOperand × Span
uses (Stmt.Include at path sp) = ([], sp)
uses (Stmt.QubitDecl at x size sp) = ([], sp)
uses (Stmt.BitDecl at x size sp) = ([], sp)
uses (Stmt.ClassicalDecl at q ty x init sp) = ([], sp)
uses (Stmt.Assignment at x op value sp) = ([], sp)
uses (Stmt.GateCall at x modifiers params args sp) = (args, sp)
uses (Stmt.GateDef at x params qparams body sp) = ([], sp)
uses (Stmt.FunctionDef at x params return_type body sp) = ([], sp)
uses (Stmt.Measure at qubit target sp) = ([], sp)
uses (Stmt.Reset at target sp) = ([], sp)
uses (Stmt.Barrier at targets sp) = (targets, sp)
uses (Stmt.Delay at duration targets sp) = (targets, sp)
uses (Stmt.If at condition then_body else_body sp) = ([], sp)
uses (Stmt.For at x ty range body sp) = ([], sp)
uses (Stmt.While at condition body sp) = ([], sp)

-- "An operand place is one operand in the list of a gate call, barrier or delay; equal operands are separate places."
pub record Place : Type 0 where
  -- of its statement: the number in the tree, the symbols where it stands, the span
  pub number : ℕ
  pub symbols : Symbols
  pub span : Span
  -- the position in the list, from 0, and the operand there
  pub nth : ℕ
  pub op : GateOperand

abbrev pub place : ℕ → Symbols → Span → ℕ → GateOperand → Place
place n ss sp i op = record { number = n; symbols = ss; span = sp; nth = i; op = op }

-- the places of a list of operands from position i on, in the statement number n
abbrev pub listed : ℕ → Symbols → Span → ℕ → List GateOperand → List Place
listed n ss sp i [] = []
listed n ss sp i (op ∷ ops) = place n ss sp i op ∷ listed n ss sp (suc i) ops

-- the places of a tree, from the statement number n on, where the symbols are ss
abbrev mutual
  pub places₁ : Flow → Symbols → ℕ → List Place
  places₁ (alone s) ss n = listed n ss (uses s).1 0 (uses s).0
  places₁ (once s sc b) ss n = places b (sc ∷ ss) (suc n)
  places₁ (arms s a b) ss n = places a (noSymbols ∷ ss) (suc n) ++ places b (noSymbols ∷ ss) (suc n + sizes a)
  places₁ (loop s sc b) ss n = places b (sc ∷ ss) (suc n)

  pub places : Flows → Symbols → ℕ → List Place
  places no_flow ss n = []
  places (more_flow f r) ss n = places₁ f ss n ++ places r (after ss (head f)) (n + size f)

-- of a whole program
abbrev pub places_of : Program → List Place
places_of p = places (flows p.statements) (noSymbols ∷ []) 0

-- ── That each place is one place, of one statement ──

-- the places stand in order, so no two are the same
abbrev pub Before : Place → Place → Type 0
Before p q = (p.number < q.number) ⊎ ((p.number ≡ q.number) × (p.nth < q.nth))

abbrev pub AllAfter : Place → List Place → Type 0
AllAfter p [] = Unit {0}
AllAfter p (q ∷ qs) = Before p q × AllAfter p qs

abbrev pub Ordered : List Place → Type 0
Ordered [] = Unit {0}
Ordered (p ∷ ps) = AllAfter p ps × Ordered ps

abbrev pub nth_of : List GateOperand → ℕ → Option GateOperand
nth_of [] i = none
nth_of (op ∷ ops) zero = some op
nth_of (op ∷ ops) (suc i) = nth_of ops i

-- the statement x uses the operand of q, at its position, and has its span and symbols
pub record Fits (q : Place) (x : Step) : Type 0 where
  pub operand : nth_of (uses x.stmt).0 q.nth ≡ some q.op
  pub span : (uses x.stmt).1 ≡ q.span
  pub symbols : x.symbols ≡ q.symbols
