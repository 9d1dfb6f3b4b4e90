-- The types of a function's parameters as the decoder reads them are those of their bytes. Assumes nothing.
use Rattle.std.specs.Prelude.{ℕ, zero, suc, ◌+◌, ◌*◌, ◌≤◌, ◌<◌, ◌≡◌, refl, List, [], ◌∷◌, map, Bool, true, false, length, get_or, take, drop, ltb, leb}
use Rattle.std.proofs.Common.{ap₂, ◌∙◌, arith, ltb-true, leb-true}
use Rattle.text.specs.Big.{value}
use Rattle.tree.specs.AnsLaws.{never_ok, came}
use Rattle.span.specs.declared.Span.{Span}
use Rattle.ast.specs.Tree.{Text, TextNumber}
use Rattle.ast.specs.declared.ClassicalType.{ClassicalType}
use Rattle.tree.specs.Ans.{ok, bind, ◌>>=◌, ◌>>◌, done, here, refuse, check}
use Rattle.tree.specs.Read.{within, byte, bytes, number, case_byte, one_of, repeat}
use Rattle.tree.specs.Texts.{is_name}
use Rattle.tree.specs.Exprs.{text_number}
use Rattle.tree.specs.Stmts.{classical_type, param}
use Rattle.context.specs.View.{type_of}
use Rattle.tables.specs.Entries.{type_bytes}
use Rattle.tables.specs.Tables.{function_in}

type-read : (s : List ℕ) (at : ℕ) (ty : ClassicalType) (next : ℕ) → classical_type s at ≡ ok ty next → (at < length s) × (ty ≡ type_of (get_or s at 0)) × (next ≡ at + 1)
unfolding classical_type one_of case_byte byte within ◌>>=◌ ◌>>◌ bind here check done refuse
type-read s at ty next h = by (ltb at (length s)) refl (ltb (get_or s at 0) 5) refl
  where
    by : (a : Bool) → ltb at (length s) ≡ a → (b : Bool) → ltb (get_or s at 0) 5 ≡ b → (at < length s) × (ty ≡ type_of (get_or s at 0)) × (next ≡ at + 1)
    by true e true f = let r = rw (e, f) at h in (ltb-true at (length s) e, cc, cc)
    by true e false f = absurd (never_ok (rw (e, f) at h) refl)
    by false e b f = absurd (never_ok (rw e at h) refl)

name-read : (t : List Text) (s : List ℕ) (at x next : ℕ) → text_number t is_name s at ≡ ok x next → (at + 2 ≤ length s) × (next ≡ at + 2)
unfolding text_number number bytes within ◌>>=◌ ◌>>◌ bind here check done refuse
name-read t s at x next h =
    let n = value 0 (take 2 (drop at s)) in
    by (leb (at + 2) (length s)) refl (ltb n (length t)) refl (is_name (get_or t n [])) refl
  where
    by : (a : Bool) → leb (at + 2) (length s) ≡ a → (b : Bool) → ltb (value 0 (take 2 (drop at s))) (length t) ≡ b → (c : Bool) → is_name (get_or t (value 0 (take 2 (drop at s))) []) ≡ c → (at + 2 ≤ length s) × (next ≡ at + 2)
    by true e true f true g = let r = rw (e, f, g) at h in (leb-true (at + 2) (length s) e, cc)
    by true e true f false g = absurd (never_ok (rw (e, f, g) at h) refl)
    by true e false f c g = absurd (never_ok (rw (e, f) at h) refl)
    by false e b f c g = absurd (never_ok (rw e at h) refl)

param-read : (t : List Text) (s : List ℕ) (at : ℕ) (p : ClassicalType × TextNumber) (next : ℕ) → param t s at ≡ ok p next → (at + 3 ≤ length s) × (p.0 ≡ type_of (get_or s at 0)) × (next ≡ at + 3)
unfolding param ◌>>=◌ done
param-read t s at p next h =
    let a = came _ _ p next h in
    let b = came _ _ p next a.then in
    let u = type-read s at a.value a.next a.from in
    let v = name-read t s a.next b.value b.next b.from in
    let e = b.then in
    let same : p.0 ≡ a.value = cc in
    let last : next ≡ b.next = cc in
    (omega arith, same ∙ u.1, omega arith)

-- so many parameters from a place on
pub record ParamsRead (s : List ℕ) (at n : ℕ) (ps : List (ClassicalType × TextNumber)) (next : ℕ) : Type 0 where
  pub types : map (λ p. p.0) ps ≡ map type_of (type_bytes s at n)
  pub inside : at + 3 * n ≤ length s
  pub behind : next ≡ at + 3 * n

pub params-read : (t : List Text) (s : List ℕ) (n at : ℕ) (ps : List (ClassicalType × TextNumber)) (next : ℕ) → at ≤ length s → repeat [] ◌∷◌ (param t) n s at ≡ ok ps next → ParamsRead s at n ps next
unfolding repeat type_bytes ◌>>=◌ done
params-read t s zero at ps next l h =
    let e : ps ≡ [] = cc in
    let f : next ≡ at = cc in
    record { types = rw e; inside = omega arith; behind = omega arith }
params-read t s (suc n) at ps next l h =
    let a = came _ _ ps next h in
    let b = came _ _ ps next a.then in
    let u = param-read t s at a.value a.next a.from in
    let v = params-read t s n a.next b.value b.next (omega arith) b.from in
    let g = b.then in
    let e : ps ≡ a.value ∷ b.value = cc in
    let f : next ≡ b.next = cc in
    let k : a.next ≡ at + 3 = u.2 in
    let w : map type_of (type_bytes s a.next n) ≡ map type_of (type_bytes s (at + 3) n) = rw k in
    record {
      types = rw e (ap₂ (λ (c : ClassicalType) (cs : List ClassicalType). c ∷ cs) u.1 (v.types ∙ w));
      inside = omega (arith, v.inside);
      behind = omega (arith, v.behind);
    }

-- so the function that stands there is the one that the decoder reads
pub function_read : {s : List ℕ} {at n next : ℕ} {ps : List (ClassicalType × TextNumber)} (ty : ClassicalType) (sp : Span) → ParamsRead s at n ps next → function_in s at n ty sp ≡ record { params = map (λ p. p.0) ps; return_type = ty; decl_span = sp }
function_read ty sp r = rw r.types
