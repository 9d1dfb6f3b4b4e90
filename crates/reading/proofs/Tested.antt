-- Readers that test what they read. Assumes nothing.
use Rattle.std.proofs.Common.{◌≡◌, refl, ℕ, List, [], length, get_or, Bool, true, false, ◌&&◌, cond, leb, ltb}
use Rattle.ast.specs.Tree.{Text}
use Rattle.tree.specs.Limits.{vec_limit, texts_limit}
use Rattle.tree.specs.Ans.{Ans, ok, refused, bind, ◌>>=◌, ◌>>◌, done, here, refuse, check}
use Rattle.tree.specs.Read.{byte, u16, case_byte, count}
use Rattle.tree.specs.Texts.{is_path}
use Rattle.tree.specs.Exprs.{text_number}
use Rattle.reading.specs.Answers.{tested}
use Rattle.reading.specs.Section.{text_count, has_text}

check_is : {A : Type 0} (b : Bool) (n place : ℕ) (s : List ℕ) (v : A) (k : ℕ) → bind (check b n place s k) (λ u m. ok v m) ≡ cond b (ok v k) (refused n place)
unfolding bind check done refuse
check_is true n place s v k = refl
check_is false n place s v k = refl

tested_is : {A : Type 0} (test : A → Bool) (n place : ℕ) (s : List ℕ) (x : Ans A) → bind x (λ v k. bind (check (test v) n place s k) (λ u m. ok v m)) ≡ tested test n place x
unfolding tested bind
tested_is test n place s (ok v k) = check_is (test v) n place s v k
tested_is test n place s (refused m p) = refl

module _ (s : List ℕ) (at : ℕ) where
  pub case_is : (cases : ℕ) → case_byte cases s at ≡ tested (λ b. ltb b cases) 4 at (byte s at)
  unfolding case_byte here done ◌>>=◌ ◌>>◌ bind
  case_is cases = tested_is (λ b. ltb b cases) 4 at s (byte s at)

  pub count_is : count s at ≡ tested (λ n. leb n vec_limit) 5 at (byte s at)
  unfolding count here done ◌>>=◌ ◌>>◌ bind
  count_is = tested_is (λ n. leb n vec_limit) 5 at s (byte s at)

  pub text_count_is : text_count s at ≡ tested (λ n. leb n texts_limit) 5 at (u16 s at)
  unfolding text_count here done ◌>>=◌ ◌>>◌ bind
  text_count_is = tested_is (λ n. leb n texts_limit) 5 at s (u16 s at)

  pub path_is : (t : List Text) → text_number t is_path s at ≡ tested (λ n. ltb n (length t)) 4 at (u16 s at)
  unfolding text_number is_path here check done refuse ◌>>=◌ ◌>>◌ bind tested
  path_is t = go (u16 s at)
    where
      test : (b : Bool) (n k : ℕ) → bind (check b 4 at s k) (λ u next. ok n next) ≡ cond b (ok n k) (refused 4 at)
      test true n k = refl
      test false n k = refl

      go : (x : Ans ℕ) → bind x (λ n k. bind (check (ltb n (length t)) 4 at s k) (λ u next. ok n next)) ≡ tested (λ n. ltb n (length t)) 4 at x
      go (ok n k) = test (ltb n (length t)) n k
      go (refused o p) = refl

  pub spelled_is : (t : List Text) (spelled : Text → Bool) → text_number t spelled s at ≡ tested (has_text t spelled) 4 at (u16 s at)
  unfolding text_number has_text here check done refuse ◌>>=◌ ◌>>◌ bind tested
  spelled_is t spelled = go (u16 s at)
    where
      test : (a b : Bool) (n k : ℕ) → bind (check a 4 at s k) (λ u next. bind (check b 4 at s next) (λ v after. ok n after)) ≡ cond (a && b) (ok n k) (refused 4 at)
      test true true n k = refl
      test true false n k = refl
      test false b n k = refl

      go : (x : Ans ℕ) → bind x (λ n k. bind (check (ltb n (length t)) 4 at s k) (λ u next. bind (check (spelled (get_or t n [])) 4 at s next) (λ v after. ok n after))) ≡ tested (has_text t spelled) 4 at x
      go (ok n k) = test (ltb n (length t)) (spelled (get_or t n [])) n k
      go (refused o p) = refl

pub ruleset reads = (case_is, count_is, text_count_is, path_is, spelled_is)
