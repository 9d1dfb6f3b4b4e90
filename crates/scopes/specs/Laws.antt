-- Laws of the scopes for those who call this crate. Assumes nothing.
use Rattle.std.specs.Prelude.{ℕ, zero, suc, ◌+◌, ◌≤◌, ◌<◌, ◌≡◌, List, ◌∷◌, length, get_or}
use Rattle.std.proofs.Common.{arith}
use Rattle.ast.specs.Tree.{Text}
use Rattle.tree.specs.Ans.{IsOk, next_of}
use Rattle.tree.specs.Read.{option}
use Rattle.tree.specs.Stmts.{qualifier, stmt}
use Rattle.accepted.specs.Stmts.{classical_decl-named}
use Rattle.sema.specs.Symbols.{Symbol, Table, GateSig, FunctionSig, Scope}
use Rattle.context.specs.View.{scopes_of}
use Rattle.tables.specs.Tables.{Becomes, Inserted}
use Rattle.tables.specs.Laws.{scopes_below, scopes_fewer, insert-below}

-- a scope that was entered leaves those below it
pub entered_below : {s u : List ℕ} {depth : ℕ} {c : Scope} {gates : Table GateSig} {functions : Table FunctionSig} → Becomes s u (suc depth) (c ∷ scopes_of s depth) gates functions → (d : ℕ) → d ≤ depth → scopes_of u d ≡ scopes_of s d
entered_below {s} {u} {depth} b d l = scopes_fewer s u depth d (scopes_below b) l

-- and so does a symbol that was given
pub inserted_below : (s u : List ℕ) (depth x : ℕ) (sym : Symbol) → 0 < depth → Inserted s u depth x sym → (d : ℕ) → d < depth → scopes_of u d ≡ scopes_of s d
inserted_below s u zero x sym l b d m = absurd (omega arith)
inserted_below s u (suc n) x sym l b d m = scopes_fewer s u n d (insert-below x sym b) (omega arith)

-- the name of a classical declaration is there, and the type before it
pub classical-named_in : (t : List Text) (left : ℕ) (s : List ℕ) (at : ℕ) → IsOk (stmt t left s at) → get_or s at 0 ≡ 3 → (k : ℕ) → k ≡ next_of (option qualifier s (at + 1)) → k + 3 ≤ length s
classical-named_in t left s at h b k e = (classical_decl-named t left s at h b k e).inside
