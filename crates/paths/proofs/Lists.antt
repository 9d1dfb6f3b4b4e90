-- The lines of parts of a tree, put together. Assumes nothing.
use mathlib.Core.Option.{Option, none, some}
use mathlib.Core.List.{List, ◌++◌}
use mathlib.Core.Logic.{◌↔◌}
use Prim.Native.Nat.{ℕ, ◌≤◌, ◌<◌}
use Rattle.span.specs.declared.Span.{Span}
use Rattle.ast.specs.Tree.{GateOperand}
use lib.Dec.{T}
use Rattle.paths.specs.Steps.{Step, State, Some, covers}
use Rattle.paths.specs.Places.{Place}
use Rattle.paths.specs.Errors.{Line, Named, Errs, Lists, done, has, skip}
use Rattle.paths.proofs.Ranges.{bare, more, PlacesIn}

pub lists_append : {R : Place → Line → Type 0} {ps qs : List Place} {ls ks : List Line} → Lists R ps ls → Lists R qs ks → Lists R (ps ++ qs) (ls ++ ks)
lists_append done w = w
lists_append (has h v) w = has h (lists_append v w)
lists_append (skip h v) w = skip h (lists_append v w)

named-map : (C C' : Option ℕ → Type 0) → ((i : Option ℕ) → C i ↔ C' i) → (op : GateOperand) (sp : Span) (r : Option (ℕ × ℕ)) (l : Line)
    → Named C op sp r l → Named C' op sp r l
named-map C C' f op sp none l h = ((f op.index).0 h.0, h.1)
named-map C C' f op sp (some r) l h = (h.0, h.1, h.2, (f (some h.0)).0 h.3, λ i x y z. h.4 i x y ((f (some i)).1 z), h.5)

pub flip : {A B : Type 0} → A ↔ B → B ↔ A
flip h = (h.1, h.0)

-- the same lines, where the same statements are reached by other paths
pub move : {J K : Type 0} (st : J → State) (π : J → List Step) (st' : K → State) (π' : K → List Step) {lo hi : ℕ}
    → ((a : ℕ) → lo ≤ a → a < hi → (P : State → Type 0) → Some st π a P ↔ Some st' π' a P)
    → {qs : List Place} {ls : List Line} → PlacesIn lo hi qs → Lists (Errs st π) qs ls → Lists (Errs st' π') qs ls
move st π st' π' f bare done = done
move st π st' π' f (more u v w) (has {q = q} {l = l} h t) =
    has (named-map _ _ (λ i. f q.number u v (λ m. T (covers q.symbols m q.op.name i))) q.op q.span q.op.slice l h) (move st π st' π' f w t)
move st π st' π' f (more u v w) (skip {q = q} h t) =
    skip (λ l x. h l (named-map _ _ (λ i. flip (f q.number u v (λ m. T (covers q.symbols m q.op.name i)))) q.op q.span q.op.slice l x)) (move st π st' π' f w t)
