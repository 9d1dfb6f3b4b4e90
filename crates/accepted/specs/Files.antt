-- What an accepted file says of its parts: few bytes, few texts, and a body behind them that ends with the file. Assumes nothing.
use Rattle.std.specs.Prelude.{ℕ, zero, suc, ◌+◌, ◌≤◌, ◌≡◌, List, [], ◌∷◌, ◌++◌, Bool, true, false, length, leb}
use Rattle.std.proofs.Math.Path.{refl}
use Rattle.std.proofs.Common.{sym, ap, subst, ◌∙◌, arith, length-append}
use borrow.Author.Tests.{leb-true}
use Rattle.ast.specs.Tree.{Text, no_stmt}
use Rattle.tree.specs.Limits.{file_limit, texts_limit, stmt_levels}
use Rattle.tree.specs.Ans.{ok, ◌>>=◌, ◌>>◌, done, refuse, check, IsOk, next_of, given}
use Rattle.tree.specs.Texts.{more_texts, texts}
use Rattle.tree.specs.Stmts.{body, stmt}
use Rattle.tree.specs.Decode.{size, nothing_left, file, decode, texts_of}
use Rattle.context.specs.View.{number_at}
use Rattle.accepted.specs.Parts.{value_or, ok_is, value_is, given_ok, is_of, Goes, start, field, known, past, beyond, past-here, unit_field, past_unit, checked, past-check, ends}
use Rattle.accepted.specs.Fields.{number_is}
use Rattle.accepted.specs.Bodies.{body_end}

more-length : (n : ℕ) (earlier : List Text) (s : List ℕ) (at : ℕ) → IsOk (more_texts n earlier s at) → length (value_or [] (more_texts n earlier s at)) ≡ length earlier + n
unfolding more_texts
more-length zero earlier s at h = ap length (value_is (ends earlier (start h)) []) ∙ omega arith
more-length (suc n) earlier s at h =
    let o = is_of _ (field _ _ (start h)) in
    let g = beyond _ _ o _ refl (start h) in
    let e = more-length n (earlier ++ (o.value ∷ [])) s _ (subst IsOk g.is h) in
    ap (λ x. length (value_or [] x)) g.is ∙ e ∙ omega (arith, length-append earlier (o.value ∷ []))

-- "texts (at most 256)"
pub texts-few : (s : List ℕ) → IsOk (texts s 0) → length (texts_of s) ≤ texts_limit
unfolding texts texts_of
texts-few s h =
    let g = known _ _ 2 (number_is s 0 2) (omega arith) (past-here _ (start h)) in
    let l = leb-true (number_at 2 s 0) texts_limit (checked _ _ _ _ g) in
    let m = past-check _ _ _ _ g in
    let e = more-length (number_at 2 s 0) [] s 2 (subst IsOk m.is h) in
    let f : given [] (λ t. t) (texts s 0) ≡ value_or [] (texts s 0) = given_ok [] [] (λ t. t) (texts s 0) h in
    let j : length (given [] (λ t. t) (texts s 0)) ≡ length (value_or [] (more_texts (number_at 2 s 0) [] s 2)) = ap length f ∙ ap (λ x. length (value_or [] x)) m.is in
    omega arith

pub texts_are : (s : List ℕ) → IsOk (texts s 0) → texts s 0 ≡ ok (texts_of s) (next_of (texts s 0))
unfolding texts_of
texts_are s h = ok_is [] (texts s 0) h ∙ ap (λ t. ok t (next_of (texts s 0))) (sym (given_ok [] [] (λ t. t) (texts s 0) h))

check-alone : (b : Bool) (number place : ℕ) (s : List ℕ) (k : ℕ) → IsOk (check b number place s k) → (b ≡ true) × (check b number place s k ≡ ok tt k)
unfolding check done refuse IsOk
check-alone true number place s k h = (refl, refl)
check-alone false number place s k h = absurd h

nothing_left_lem : (s : List ℕ) (k : ℕ) → IsOk (nothing_left s k) → (length s ≤ k) × (nothing_left s k ≡ ok tt k)
unfolding nothing_left size
nothing_left_lem s k h =
    let g = known _ _ k (λ o. refl) refl (past-here _ (start h)) in
    let c = check-alone (leb (length s) k) 3 k s k (subst IsOk g.is h) in
    (leb-true (length s) k c.0, g.is ∙ c.1)

module _ (s : List ℕ) (h : IsOk (decode s)) where
  file-goes : Goes (decode s) (◌>>=◌ texts (λ t. ◌>>=◌ (body (stmt t stmt_levels)) (λ b. ◌>>◌ nothing_left (done (record { texts = t; statements = b }))))) s 0
  unfolding decode file size
  file-goes = past-check _ _ _ _ (known _ _ 0 (λ o. refl) refl (start h))

  -- "At most 16,384 bytes"
  pub file-small : length s ≤ file_limit
  unfolding decode file size
  file-small = leb-true (length s) file_limit (checked _ _ _ _ (known _ _ 0 (λ o. refl) refl (start h)))

  pub file-texts : IsOk (texts s 0)
  file-texts = field _ _ file-goes

  module _ (k : ℕ) (k-end : k ≡ next_of (texts s 0)) where
    body-goes : Goes (decode s) (◌>>=◌ (body (stmt (texts_of s) stmt_levels)) (λ b. ◌>>◌ nothing_left (done (record { texts = texts_of s; statements = b })))) s k
    body-goes = known _ _ k (texts_are s) (sym k-end) file-goes

    pub file-body : IsOk (body (stmt (texts_of s) stmt_levels) s k)
    file-body = field _ _ body-goes

    -- "Nothing follows."
    pub file-end : next_of (body (stmt (texts_of s) stmt_levels) s k) ≡ length s
    file-end =
        let n = nothing_left_lem s _ (unit_field _ _ (past _ _ no_stmt _ refl body-goes)) in
        let i = body_end (texts_of s) stmt_levels s k file-body in
        omega arith

    pub file_is : decode s ≡ ok (record { texts = texts_of s; statements = value_or no_stmt (body (stmt (texts_of s) stmt_levels) s k) }) (length s)
    file_is = ends _ (past_unit _ _ (length s) (λ o. (nothing_left_lem s (length s) o).1) (past _ _ no_stmt (length s) (sym file-end) body-goes))
