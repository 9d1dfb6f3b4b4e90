-- Trees given to a closure, one by one. Assumes nothing.
use Rattle.std.proofs.Common.{◌≡◌, refl, sym, ap, ◌∙◌, subst, ℕ, ◌≤◌, List, [], ◌∷◌, ◌++◌, Option, Some, length, take, append-nil, append_assoc, length-take-le}
use Rattle.std.specs.Io.KnownBytes.{Consumes}
use Rattle.std.specs.List.{FoldsTo}
use Rattle.std.proofs.KnownBytes.{Consumes-nil, Consumes-trans}
use Rattle.cases.specs.Case.{length_bytes, framed, Given, Taken}

framed_last : (ts : List (List ℕ)) (t : List ℕ) → framed ts ++ (length_bytes (length t) ++ t) ≡ framed (ts ++ (t ∷ []))
unfolding framed
framed_last [] t = ap (λ l. length_bytes (length t) ++ l) (sym (append-nil t))
framed_last (x ∷ ts) t = append_assoc (length_bytes (length x)) (x ++ framed ts) _ ∙ ap (λ l. length_bytes (length x) ++ l) (append_assoc x (framed ts) _ ∙ ap (λ l. x ++ l) (framed_last ts t))

framed_next : (ts : List (List ℕ)) (t : List ℕ) (n : ℕ) → length t ≡ n → framed ts ++ (length_bytes n ++ t) ≡ framed (ts ++ (t ∷ []))
framed_next ts t n e = rw (← e) (framed_last ts t)

module _ {F : Type 0} (call : F → List ℕ → F → Type 0) where
  calls_last : (f : F) (ts : List (List ℕ)) (g : F) (t : List ℕ) (h : F) → FoldsTo call f ts g → call g t h → FoldsTo call f (ts ++ (t ∷ [])) h
  calls_last f [] g t h e c = (h, subst (λ s. call s t h) (sym e) c, refl)
  calls_last f (x ∷ ts) g t h e c = (e.0, e.1, calls_last e.0 ts g t h e.2 c)

  pub given_start : (f : F) (old : Option (List ℕ)) → Given call f old old f
  unfolding framed
  given_start f old = record { trees = []; taken = Consumes-nil old; called = refl }

  pub given_more : (f : F) (old now : Option (List ℕ)) (g : F) → Given call f old now g → (new : Option (List ℕ)) (space : List ℕ) (n : ℕ) → n ≤ length space → Taken now new space (Some n) → (h : F) → call g (take n space) h → Given call f old new h
  given_more f old now g given new space n l t h c = record {
    trees = given.trees ++ (take n space ∷ []);
    taken = subst (Consumes old new) (framed_next given.trees (take n space) n (length-take-le n space l)) (Consumes-trans old now new _ _ given.taken t);
    called = calls_last f given.trees g (take n space) h given.called c;
  }
