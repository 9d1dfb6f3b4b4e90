-- The count byte of a Vec is the size of its value. Assumes nothing.
use Prim.Native.Nat.{ℕ, zero, suc, ◌+◌}
use Rattle.std.specs.Prelude.{◌≡◌, List, [], ◌∷◌, length, get_or}
use Rattle.std.proofs.Math.Path.{refl, ap}
use Rattle.std.proofs.Common.{◌∙◌}
use Rattle.ast.specs.Tree.{Expr, no_expr, more_expr, expr_count}
use Rattle.tree.specs.Ans.{Reader, IsOk}
use Rattle.tree.specs.Read.{repeat, counted, vec}
use Rattle.tree.specs.Exprs.{exprs}
use Rattle.accepted.specs.Cases.{blank}
use Rattle.accepted.specs.Parts.{value_or, value_is, start, field, past, ends}
use Rattle.accepted.specs.Fields.{counted_is, counted-held}

-- for a size that is 0 of none and one more for each value
module _ {A B : Type 0} (nil : B) (cons : A → B → B) (p : Reader A) (d : A) (size : B → ℕ) (none_is : size nil ≡ 0) (more_is : (a : A) (b : B) → size (cons a b) ≡ suc (size b)) (s : List ℕ) where
  repeat-size : (n at : ℕ) → IsOk (repeat nil cons p n s at) → size (value_or nil (repeat nil cons p n s at)) ≡ n
  unfolding repeat
  repeat-size zero at h = ap size (value_is (ends nil (start h)) nil) ∙ none_is
  repeat-size (suc n) at h =
      let rest = past _ _ d _ refl (start h) in
      ap size (value_is (ends _ (past _ _ nil _ refl rest)) nil) ∙ more_is _ _ ∙ ap suc (repeat-size n _ (field _ _ rest))

  counted-size : (at : ℕ) → IsOk (counted nil cons p s at) → size (value_or nil (counted nil cons p s at)) ≡ get_or s at 0
  counted-size at h = ap (λ x. size (value_or nil x)) (counted_is s at nil cons p h) ∙ repeat-size (get_or s at 0) (at + 1) (counted-held s at nil cons p h)

pub vec_size : {A : Type 0} (d : A) (p : Reader A) (s : List ℕ) (at : ℕ) → IsOk (vec p s at) → length (value_or [] (vec p s at)) ≡ get_or s at 0
vec_size d p s at h = counted-size [] ◌∷◌ p d length refl (λ a b. refl) s at h

pub exprs-size : (p : Reader Expr) (s : List ℕ) (at : ℕ) → IsOk (exprs p s at) → expr_count (value_or no_expr (exprs p s at)) ≡ get_or s at 0
unfolding expr_count
exprs-size p s at h = counted-size no_expr more_expr p blank expr_count refl (λ a b. refl) s at h
