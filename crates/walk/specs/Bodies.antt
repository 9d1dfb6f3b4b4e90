-- Statements with and without a body, by their case byte; what a loop makes of its body; what an `else` asks, and what the analysis makes of it.
use Rattle.std.specs.Prelude.{ℕ, suc, ◌+◌, ◌-◌, ◌≤◌, ◌<◌, Bool, not, ◌&&◌, List, [], length, eqb, ltb, Option, Some, None}
use Rattle.ast.specs.Tree.{Text, Else}
use Rattle.tree.specs.Ans.{Ans, given, next_of}
use Rattle.tree.specs.Stmts.{stmt, body, else_body}
use Rattle.tree.specs.Decode.{texts_of}
use Rattle.sema.specs.Symbols.{empty}
use Rattle.sema.specs.Marks.{Key, after_loop}
use Rattle.sema.specs.Stmts.{SemaContext, analyze_else}
use Rattle.context.specs.declared.After.{After}
use Rattle.context.specs.declared.Key.{Key as KeyValue}
use Rattle.context.specs.declared.State.{State}
use Rattle.context.specs.View.{Placed, keys_in, scopes_of, gates_of, context_of}
use Rattle.sheet.specs.Behind.{Blank}
use Rattle.promises.specs.Walks.{Walk, Walked, walk_body}
use Rattle.promises.specs.Went.{body_keys, else_keys, Asked, BodyAsked, Went}
use Rattle.bodies.specs.Opened.{Opened}
use Rattle.walk.specs.declared.Step.{Step}

-- the state past what was checked: the keys and the marks stay
abbrev pub moved_to : State → After → State
moved_to st a = record { at = a.next; sink = a.sink; keys = st.keys; marks = st.marks }

-- the state in which an `else` begins: that in which the `then` body ended, with the marks of the entry
abbrev pub entry_of : State → List ℕ → State
entry_of t entry = record { at = t.at; sink = t.sink; keys = t.keys; marks = entry }

-- the state past a statement without statements in it, if the walk came to one, with the marks beside it
abbrev pub stepped : Option Step → List ℕ → Option State
stepped (Some a) marks = Some (record { at = a.next; sink = a.sink; keys = a.keys; marks = marks })
stepped None marks = None

-- no gate definition, `if` or loop
unfoldable pub is_plain : ℕ → Bool
is_plain case = not (eqb case 6) && ltb case 12

-- what a loop makes of a body that does this: entry and exit united
abbrev pub looped : Walk → Walk
looped walk c =
    let w = walk c in
    (record { symbols = w.0.symbols; gates = w.0.gates; functions = w.0.functions; measured = after_loop c.measured w.0.measured }, w.1)

-- what the walk asks of the body of a loop: there is room for the span behind it
abbrev pub LoopAsked : List ℕ → List KeyValue → ℕ → State → List ℕ → Type 0
LoopAsked tree index left st s = BodyAsked tree index left st s × (next_of (body (stmt (texts_of tree) left) tree st.at) + 8 ≤ length tree)

-- So of the body of a loop, and the span behind it, whose statements have so many levels left.
abbrev pub LoopWalked : List ℕ → List Key → ℕ → State → List ℕ → List ℕ → State → List ℕ → List ℕ → Type 0
LoopWalked tree ks left st s o r s' o' =
    Walked tree (texts_of tree) ks (9 - left) (looped (walk_body (texts_of tree) (body (stmt (texts_of tree) left) tree st.at)))
    (next_of (body (stmt (texts_of tree) left) tree st.at) + 8) st s o r s' o'

-- and so with its keys
abbrev pub LoopWent : List ℕ → ℕ → State → List KeyValue → List ℕ → List ℕ → Option State → List KeyValue → List ℕ → List ℕ → Type 0
LoopWent tree left st i s o r i' s' o' =
    Went i i' (body_keys (body (stmt (texts_of tree) left) tree st.at) (scopes_of s (9 - left)) (keys_in i st.keys)) s s' r (λ x. LoopWalked tree (keys_in i' x.keys) left st s o x s' o')

-- what an `else` asks after a `then` body that ended in the state t, from the marks of the entry: there is room for the span behind it
pub record ElseAsked (tree : List ℕ) (index : List KeyValue) (left : ℕ) (entry : List ℕ) (t : State) (s : List ℕ) : Type 0 where
  pub some : 0 < left
  pub asked : Asked (else_body (stmt (texts_of tree) (left - 1)) tree t.at) tree index left (entry_of t entry) s
  pub placed : Placed tree t.marks
  pub blank : Blank t.keys t.marks
  pub room : next_of (else_body (stmt (texts_of tree) (left - 1)) tree t.at) + 8 ≤ length tree

-- the state in which its body begins, behind its byte
abbrev pub else_start : State → List ℕ → State
else_start t entry = record { at = t.at + 1; sink = t.sink; keys = t.keys; marks = entry }

-- what the analysis makes of an `else` that was read, after a `then` body that ended in the context i
abbrev pub walk_else : List Text → SemaContext → Ans Else → Walk
walk_else t i x = λ c. given (c, []) (λ e. analyze_else t e c i) x

-- its body opened, behind its byte
abbrev pub ElseOpened : List Text → ℕ → State → List ℕ → List ℕ → State → List ℕ → List ℕ → Type 0
ElseOpened t left st s o r s' o' = Opened t (9 - left) empty (gates_of s) [] (st.at + 1) st s o r s' o'

-- an `else` after a `then` body that ended in the state t, from the marks of the entry, and the span behind it
abbrev pub ElseWalked : List ℕ → List Key → ℕ → List ℕ → State → List ℕ → List ℕ → State → List ℕ → List ℕ → Type 0
ElseWalked tree ks left entry t s o r s' o' =
    Walked tree (texts_of tree) ks (9 - left) (walk_else (texts_of tree) (context_of tree ks s (suc (9 - left)) t.marks) (else_body (stmt (texts_of tree) (left - 1)) tree t.at))
    (next_of (else_body (stmt (texts_of tree) (left - 1)) tree t.at) + 8) (entry_of t entry) s o r s' o'

abbrev pub ElseWent : List ℕ → ℕ → List ℕ → State → List KeyValue → List ℕ → List ℕ → Option State → List KeyValue → List ℕ → List ℕ → Type 0
ElseWent tree left entry t i s o r i' s' o' =
    Went i i' (else_keys (else_body (stmt (texts_of tree) (left - 1)) tree t.at) (scopes_of s (9 - left)) (keys_in i t.keys)) s s' r (λ x. ElseWalked tree (keys_in i' x.keys) left entry t s o x s' o')
