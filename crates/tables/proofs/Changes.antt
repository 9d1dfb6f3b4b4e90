-- What the tables are after a change of the scratch. Assumes nothing.
use Prim.Native.Nat.{ℕ, zero, suc, ◌+◌, ◌*◌, ◌≤◌, ◌<◌}
use mathlib.Core.Path.{◌≡◌, refl, sym, ap₂, fun_ext, ◌∙◌}
use mathlib.Core.List.{List, ◌∷◌}
use mathlib.Core.Logic.{◌⊎◌, inl, inr, ⊎_elim}
use mathlib.Core.Bool.{Bool, true, false}
use mathlib.Core.Option.{Option, some}
use native.Mathlib.Omega.{arith}
use native.Mathlib.Nat.{mul-le-mul_right, suc-mul}
use lib.ListN.{length, get_or, take, drop, length-take, length-drop, length-map}
use lib.Dec.{ltb, eqb}
use borrow.Author.Tests.{ltb-true, lt-ltb, eqb-true, eqb-false}
use Rattle.text.proofs.Order.{le-or-lt}
use Rattle.sema.specs.Symbols.{Symbol, GateSig, FunctionSig, Table, Scope, Symbols, insert}
use Rattle.context.specs.View.{below256, type_of, symbol_at, code_place, symbol_place, scope_of, scopes_of, gate_base, gate_place, gate_by, gates_of, function_base, function_place, function_by, functions_of}
use Rattle.tables.specs.Tables.{params_of, FewParams}
use Rattle.tables.proofs.Frame.{Outside}
use Rattle.tables.proofs.Alike.{untouched, symbol_by_lem, gate-alike, function_alike}
use Rattle.tables.proofs.Views.{function_at}

-- entries are asked below 256 alone
below-same : {A : Type 0} (x : ℕ) (p q : Option A) → (x < 256 → p ≡ q) → below256 x p ≡ below256 x q
below-same x p q h = at (ltb x 256) refl
  where
    at : (b : Bool) → ltb x 256 ≡ b → below256 x p ≡ below256 x q
    at true e = rw e (h (ltb-true x 256 e))
    at false e = rw e

module _ {A : Type 0} (f g : ℕ → Option A) where
  -- tables with the same entries
  table_same : ((x : ℕ) → x < 256 → g x ≡ f x) → ◌≡◌ {A = Table A} (λ x. below256 x (g x)) (λ x. below256 x (f x))
  table_same h = fun_ext (λ x. below-same x (g x) (f x) (h x))

  -- tables that differ in one entry
  table-insert : (x : ℕ) (a : A) → x < 256 → g x ≡ some a → ((y : ℕ) → (y ≡ x → ⊥) → y < 256 → g y ≡ f y) → ◌≡◌ {A = Table A} (λ y. below256 y (g y)) (insert (λ y. below256 y (f y)) x a)
  unfolding insert
  table-insert x a l e h = fun_ext (λ y. at y (eqb x y) refl)
    where
      at : (y : ℕ) (b : Bool) → eqb x y ≡ b → below256 y (g y) ≡ insert (λ z. below256 z (f z)) x a y
      at y true k = rw (k, ← eqb-true x y k, lt-ltb x 256 l) e
      at y false k = rw k (below-same y (g y) (f y) (h y (λ q. eqb-false x y k (sym q))))

-- where a change lies within entry x, entry y lies before it or behind it, whatever the width of the entries
apart : (base w y x a b : ℕ) → (y ≡ x → ⊥) → base + x * w ≤ a → b ≤ base + x * w + w → (base + y * w + w ≤ a) ⊎ (b ≤ base + y * w)
apart base w y x a b n from to =
    ⊎_elim
    (λ (h : x ≤ y). let k : suc x * w ≤ y * w = mul-le-mul_right w (omega arith) in inr (omega (arith, suc-mul x w, k)))
    (λ (h : y < x). let k : suc y * w ≤ x * w = mul-le-mul_right w h in inl (omega (arith, suc-mul y w, k)))
    (le-or-lt x y)

module _ {a b : ℕ} {s t : List ℕ} (r : Outside a b s t) where
  -- a symbol neither of whose parts is touched
  pub symbol-kept : (level x : ℕ) → (code_place level x < a) ⊎ (b ≤ code_place level x) → (symbol_place level x + 17 ≤ a) ⊎ (b ≤ symbol_place level x) → symbol_at t level x ≡ symbol_at s level x
  symbol-kept level x o p =
      rw (r.same (code_place level x) o) (symbol_by_lem (untouched r 17 (symbol_place level x) p) (get_or s (code_place level x) 0) (omega arith))

  scope_kept : (level : ℕ) → level * 4608 + 4608 ≤ a → scope_of t level ≡ scope_of s level
  unfolding scope_of
  scope_kept level o = table_same _ _ (λ x h. symbol-kept level x (inl (omega arith)) (inl (omega arith)))

  pub scopes_kept : (depth : ℕ) → depth * 4608 ≤ a → scopes_of t depth ≡ scopes_of s depth
  unfolding scopes_of
  scopes_kept zero h = refl
  scopes_kept (suc depth) h =
      ap₂ (λ (c : Scope) (ss : Symbols). c ∷ ss) (scope_kept depth (omega arith)) (scopes_kept depth (omega arith))

  pub gates-kept : (gate_base + 2816 ≤ a) ⊎ (b ≤ gate_base) → gates_of t ≡ gates_of s
  unfolding gates_of
  gates-kept o =
      table_same _ _ (λ x h. gate-alike (untouched r 11 (gate_place x)
      (⊎_elim (λ (u : gate_base + 2816 ≤ a). inl (omega arith)) (λ (u : b ≤ gate_base). inr (omega arith)) o)) (omega arith))

  pub functions-kept : b ≤ function_base → functions_of t ≡ functions_of s
  unfolding functions_of
  functions-kept o =
      table_same _ _ (λ x h.
      let n = 11 + get_or s (function_place x + 2) 0 in
      function_alike (untouched r n (function_place x) (inr (omega arith))) (omega arith) (λ k. omega arith))

  -- the entry of a name, where the change was
  pub gate-insert : (x : ℕ) (g : GateSig) → x < 256 → gate_place x ≤ a → b ≤ gate_place x + 11 → gate_by t (gate_place x) (get_or t (gate_place x) 0) ≡ some g → gates_of t ≡ insert (gates_of s) x g
  unfolding gates_of
  gate-insert x g l from to e =
      table-insert _ _ x g l e (λ y n h. gate-alike (untouched r 11 (gate_place y) (apart gate_base 11 y x a b n from to)) (omega arith))

-- the symbol of a name, whose code was set and whose entry was stored
pub scope_insert : {c at : ℕ} {s t u : List ℕ} → Outside c (c + 1) s t → Outside at (at + 17) t u → (level x : ℕ) (v : Symbol) → x < 256 → c ≡ code_place level x → at ≡ symbol_place level x → symbol_at u level x ≡ some v → scope_of u level ≡ insert (scope_of s level) x v
unfolding scope_of
scope_insert {c} {at} o p level x v l e f h =
    table-insert _ _ x v l h (λ y n k.
    symbol-kept p level y (inl (omega arith)) (apart (level * 4608 + 256) 17 y x at (at + 17) n (omega arith) (omega arith))
    ∙ symbol-kept o level y (⊎_elim (λ (q : x ≤ y). inr (omega arith)) (λ (q : y < x). inl (omega arith)) (le-or-lt x y)) (inr (omega arith)))

few_by : (s : List ℕ) (at code : ℕ) → 65536 ≤ length s → at ≤ 51200 → length (params_of (function_by s at code)) ≤ 16 → (code ≡ 0 → ⊥) → get_or s (at + 2) 0 ≤ 16
few_by s at zero room h few n = absurd (n refl)
few_by s at (suc code) room h few n =
    let m = get_or s (at + 2) 0 in
    let l = drop (at + 11) s in
    omega (arith, few, length-map (take m l) type_of, length-take m l, length-drop (at + 11) s)

module _ {a b : ℕ} {s t : List ℕ} (r : Outside a b s t) where
  pub function_insert : (x : ℕ) (f : FunctionSig) → 65536 ≤ length s → FewParams (functions_of s) → x < 256 → function_place x ≤ a → b ≤ function_place x + 27 → function_by t (function_place x) (get_or t (function_place x) 0) ≡ some f → functions_of t ≡ insert (functions_of s) x f
  unfolding functions_of
  function_insert x f room few l from to e =
      table-insert _ _ x f l e (λ y n h.
      let at = function_place y in
      let k : (get_or s at 0 ≡ 0 → ⊥) → get_or s (at + 2) 0 ≤ 16 = few_by s at (get_or s at 0) room (omega arith) (rw (function_at s y h) at (few.few y)) in
      function_alike (untouched r 27 at (apart function_base 27 y x a b n from to)) (omega arith) (λ z. omega (arith, k z)))
