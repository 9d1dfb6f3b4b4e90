-- What is still to be said: a list of diagnostics said step by step. Assumes nothing.
use Prim.Native.Nat.{ℕ}
use mathlib.Core.Path.{◌≡◌, refl, sym, ap, ◌∙◌, subst}
use mathlib.Core.List.{List, [], ◌++◌}
use Rattle.ast.specs.Tree.{Text}
use Rattle.sema.specs.Messages.{Diagnostic}
use Rattle.context.specs.declared.Sink.{Sink}
use Rattle.context.specs.Sink.{written_of, emit}
use Rattle.lines.specs.EmitLaws.{emit-append, emit-none}
use Rattle.promises.specs.Emitted.{Emitted}

-- all of `whole` from the sink s₀ on is `rest` from s on
pub record Owes (t : List Text) (whole : List Diagnostic) (s₀ : Sink) (o₀ : List ℕ) (rest : List Diagnostic) (s : Sink) (o : List ℕ) : Type 0 where
  pub same : emit t whole (written_of s₀ o₀) ≡ emit t rest (written_of s o)

module _ {t : List Text} {whole : List Diagnostic} {s₀ : Sink} {o₀ : List ℕ} where
  pub owes-start : Owes t whole s₀ o₀ whole s₀ o₀
  owes-start = record { same = refl }

  module _ {s : Sink} {o : List ℕ} where
    pub owes_as : {a b : List Diagnostic} → Owes t whole s₀ o₀ a s o → a ≡ b → Owes t whole s₀ o₀ b s o
    owes_as p e = subst (λ x. Owes t whole s₀ o₀ x s o) e p

    pub owes_more : {ds rest : List Diagnostic} {r : Sink} {o' : List ℕ} → Owes t whole s₀ o₀ (ds ++ rest) s o → Emitted t ds s o r o' → Owes t whole s₀ o₀ rest r o'
    owes_more {ds = ds} {rest = rest} p q = record { same = p.same ∙ emit-append t ds rest (written_of s o) ∙ ap (emit t rest) (sym q.says) }

    pub owes-end : Owes t whole s₀ o₀ [] s o → Emitted t whole s₀ o₀ s o
    owes-end p = record { says = sym (p.same ∙ emit-none t (written_of s o)) }
