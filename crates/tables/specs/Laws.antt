-- Laws of the tables for those who call this crate. Assumes nothing.
use Rattle.std.specs.Prelude.{ℕ, zero, suc, ◌+◌, ◌≤◌, ◌<◌, ◌≡◌, refl, List, [], ◌∷◌, map, Bool, true, false, length, get_or, ltb, eqb}
use Rattle.std.proofs.Common.{ap, ◌∙◌, arith, ltb-true}
use Rattle.std.proofs.Math.Path.{fun_ext}
use Rattle.std.proofs.Math.Option.{Option, none}
use Rattle.std.proofs.Math.Decide.{dec_le}
use Rattle.std.proofs.lemmas.List.{length-map}
use Rattle.tree.specs.Limits.{vec_limit}
use Rattle.span.specs.declared.Span.{Span}
use Rattle.ast.specs.declared.ClassicalType.{ClassicalType}
use Rattle.sema.specs.Symbols.{Symbol, FunctionSig, Table, Scope, Symbols, empty, insert, GateSig}
use Rattle.context.specs.View.{type_of, below256, code_place, scope_of, scopes_of, gate_place, gates_of, function_place, functions_of}
use Rattle.tables.specs.Entries.{type_bytes}
use Rattle.tables.specs.Tables.{Becomes, Inserted, params_of, FewParams, function_in}

abbrev outer : Symbols → Symbols
outer [] = []
outer (c ∷ ss) = ss

-- the scopes below a level are what lies below it in the list
pub scopes_below : {s t : List ℕ} {depth : ℕ} {c : Scope} {ss : Symbols} {gates : Table GateSig} {functions : Table FunctionSig} → Becomes s t (suc depth) (c ∷ ss) gates functions → scopes_of t depth ≡ ss
unfolding scopes_of
scopes_below b = ap outer b.scopes_are

-- where so many scopes stay, fewer do
pub scopes_fewer : (s t : List ℕ) (n d : ℕ) → scopes_of t n ≡ scopes_of s n → d ≤ n → scopes_of t d ≡ scopes_of s d
unfolding scopes_of
scopes_fewer s t zero d e l = let z : d ≡ 0 = omega arith in rw z e
scopes_fewer s t (suc n) d e l =
    elim (dec_le d n) [
      | yes h ↦ scopes_fewer s t n d (ap outer e) h
      | no h ↦ (let f : d ≡ suc n = omega arith in rw f e)
    ]

-- so a symbol given at a level leaves the scopes below it
pub insert-below : {s t : List ℕ} {depth : ℕ} (x : ℕ) (sym : Symbol) → Inserted s t (suc depth) x sym → scopes_of t depth ≡ scopes_of s depth
unfolding scopes_of
insert-below x sym b = scopes_below b

-- Tables whose first bytes are 0 are empty.
none_below : {A : Type 0} (f : ℕ → Option A) → ((x : ℕ) → x < 256 → f x ≡ none) → ◌≡◌ {A = Table A} (λ x. below256 x (f x)) empty
none_below f h = fun_ext (λ x. at x (ltb x 256) refl)
  where
    at : (x : ℕ) (b : Bool) → ltb x 256 ≡ b → below256 x (f x) ≡ none
    at x true e = rw e (h x (ltb-true x 256 e))
    at x false e = rw e

pub scope_empty : (s : List ℕ) (level : ℕ) → ((x : ℕ) → x < 256 → get_or s (code_place level x) 0 ≡ 0) → scope_of s level ≡ empty
unfolding scope_of
scope_empty s level h = none_below _ (λ x l. rw (h x l))

pub gates-empty : (s : List ℕ) → ((x : ℕ) → x < 256 → get_or s (gate_place x) 0 ≡ 0) → gates_of s ≡ empty
unfolding gates_of
gates-empty s h = none_below _ (λ x l. rw (h x l))

pub functions-empty : (s : List ℕ) → ((x : ℕ) → x < 256 → get_or s (function_place x) 0 ≡ 0) → functions_of s ≡ empty
unfolding functions_of
functions-empty s h = none_below _ (λ x l. rw (h x l))

-- No function has more parameters than its entry has room for: at first, and after a definition with no more.
pub few-empty : FewParams empty
few-empty = record { few = λ x. omega arith }

pub few-insert : (t : Table FunctionSig) (x : ℕ) (f : FunctionSig) → FewParams t → length f.params ≤ vec_limit → FewParams (insert t x f)
unfolding insert
few-insert t x f h l = record { few = λ y. at y (eqb x y) refl }
  where
    at : (y : ℕ) (b : Bool) → eqb x y ≡ b → length (params_of (insert t x f y)) ≤ vec_limit
    at y true e = rw e l
    at y false e = rw e (h.few y)

-- as many types as parameters
pub length_types : (tree : List ℕ) (at n : ℕ) → length (type_bytes tree at n) ≡ n
unfolding type_bytes
length_types tree at zero = refl
length_types tree at (suc n) = ap suc (length_types tree (at + 3) n)

pub few-defined : (t : Table FunctionSig) (tree : List ℕ) (x at count : ℕ) (ty : ClassicalType) (sp : Span) → FewParams t → count ≤ vec_limit → FewParams (insert t x (function_in tree at count ty sp))
few-defined t tree x at count ty sp h l =
    let n : length (map type_of (type_bytes tree at count)) ≡ count = length-map (type_bytes tree at count) type_of ∙ length_types tree at count in
    few-insert t x (function_in tree at count ty sp) h (omega arith)

-- and where a change keeps the functions, or makes such
pub few-after : {s t : List ℕ} {depth : ℕ} {scopes : Symbols} {gates : Table GateSig} {functions : Table FunctionSig} → Becomes s t depth scopes gates functions → FewParams functions → FewParams (functions_of t)
few-after b h = rw b.functions_are h
