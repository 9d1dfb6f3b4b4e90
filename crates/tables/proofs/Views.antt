-- What the readers find is what the views say. Assumes nothing.
use Prim.Native.Nat.{ℕ, zero, suc, ◌+◌, ◌-◌, ◌≤◌, ◌<◌}
use mathlib.Core.Path.{◌≡◌, refl, sym, ap, subst, ◌∙◌}
use mathlib.Core.List.{List, [], ◌∷◌, map}
use mathlib.Core.Option.{none, some}
use native.Mathlib.Omega.{arith}
use lib.ListN.{length, get_or, take, drop, length-take, length-drop, length-map, get_or-map}
use lib.Seq.{length-take-le, take-take, drop-drop, get_or-take, get_or-drop}
use Rattle.text.specs.Big.{value}
use borrow.Author.Tests.{lt-ltb}
use Rattle.span.specs.declared.Span.{Span}
use Rattle.ast.specs.declared.ClassicalType.{ClassicalType}
use Rattle.sema.specs.Messages.{Qubit}
use Rattle.sema.specs.Symbols.{get, get_current}
use Rattle.std.specs.Prelude.{Option as Maybe, Some, None, IfSome, IsSomeAnd, IsTrue, MatchOption}
use Rattle.std.specs.Option.{option_map}
use Rattle.std.specs.Iterator.Runs.{Run, ItemsCountDown, IsIdenticalRun, CallKeepsClosure, AllItemsGive, IsFirstToGive}
use denote.Param.Members.{Mut, Called}
use Rattle.context.specs.declared.Symbol.{Symbol as SymbolValue}
use Rattle.context.specs.Values.{kind_of, number_of, symbol_of, found_of, found_gate_of}
use Rattle.context.specs.View.{number_at, span_at, span-from, type_of, symbol_size, kinds, size_by, symbol_by, symbol_at, code_place, symbol_place, scope_of, scopes_of, gate_place, gates_of, function_place, function_by, functions_of}
use Rattle.tables.specs.Tables.{brief_of, params_of}

some-suc : (n : ℕ) → (n ≡ 0 → ⊥) → n ≡ suc (n - 1)
some-suc n h = omega arith

symbol_none : (s : List ℕ) (level x : ℕ) → get_or s (code_place level x) 0 ≡ 0 → found_of None ≡ symbol_at s level x
symbol_none s level x e = rw e

symbol-some : (s : List ℕ) (level x : ℕ) (v : SymbolValue) → (get_or s (code_place level x) 0 ≡ 0 → ⊥) → kind_of v.kind ≡ get_or kinds (get_or s (code_place level x) 0 - 1) Qubit → number_of v.size ≡ size_by (get_or s (symbol_place level x) 0) (number_at 8 s (symbol_place level x + 1)) → v.decl_span ≡ span_at s (symbol_place level x + 9) → found_of (Some v) ≡ symbol_at s level x
symbol-some s level x v h k z p =
    let code = get_or s (code_place level x) 0 in
    let q : symbol_at s level x ≡ symbol_by s (symbol_place level x) (suc (code - 1)) = ap (symbol_by s (symbol_place level x)) (some-suc code h) in
    rw (k, z, p) (sym q)

-- a number in a part of the bytes
part-take : (k w n : ℕ) (l : List ℕ) → k + w ≤ n → take w (drop k (take n l)) ≡ take w (drop k l)
part-take zero w n l h = take-take w n l (omega arith)
part-take (suc k) w zero l h = absurd (omega arith)
part-take (suc k) w (suc n) [] h = refl
part-take (suc k) w (suc n) (x ∷ xs) h = part-take k w n xs (omega arith)

part-number : (w k n at : ℕ) (s : List ℕ) → k + w ≤ n → number_at w (take n (drop at s)) k ≡ number_at w s (at + k)
part-number w k n at s h = ap (value 0) (part-take k w n (drop at s) h ∙ ap (take w) (drop-drop k at s))

-- the entry read as a part
pub symbol-part : (s : List ℕ) (level x : ℕ) (v : SymbolValue) (e : List ℕ) → (get_or s (code_place level x) 0 ≡ 0 → ⊥) → kind_of v.kind ≡ get_or kinds (get_or s (code_place level x) 0 - 1) Qubit
    → number_of v.size ≡ size_by (get_or e 0 0) (number_at 8 e 1) → v.decl_span ≡ span_at e 9 → (n : ℕ) → e ≡ take n (drop (symbol_place level x) s) → n ≡ symbol_size → found_of (Some v) ≡ symbol_at s level x
symbol-part s level x v e h k z p n q f =
    let at = symbol_place level x in
    let b : get_or e 0 0 ≡ get_or s at 0 = rw q (get_or-take n (drop at s) 0 0 (omega arith) ∙ get_or-drop at s 0 0 ∙ ap (λ (j : ℕ). get_or s j 0) (omega arith)) in
    let c : (w j : ℕ) → j + w ≤ symbol_size → number_at w e j ≡ number_at w s (at + j) = λ w j l. rw q (part-number w j n at s (omega arith)) in
    let m : at + 13 ≡ at + 9 + 4 = omega arith in
    symbol-some s level x v h k (z ∙ rw (b, c 8 1 (omega arith))) (p ∙ span-from s (at + 9) (c 4 9 (omega arith)) (c 4 13 (omega arith) ∙ ap (number_at 4 s) m))

-- a symbol stands in its scope
pub scope_at : (s : List ℕ) (level x : ℕ) → x < 256 → scope_of s level x ≡ symbol_at s level x
unfolding scope_of
scope_at s level x h = rw (lt-ltb x 256 h)

pub current_at : (s : List ℕ) (depth x : ℕ) (r : Maybe SymbolValue) → 0 < depth → x < 256 → found_of r ≡ symbol_at s (depth - 1) x → found_of r ≡ get_current (scopes_of s depth) x
unfolding scopes_of get_current
current_at s depth x r d h e =
    let n : depth ≡ suc (depth - 1) = omega arith in
    rw n (e ∙ sym (scope_at s (depth - 1) x h))

pub current_none : (s : List ℕ) (depth x : ℕ) → 0 < depth → x < 256 → get_or s (code_place (depth - 1) x) 0 ≡ 0 → found_of None ≡ get_current (scopes_of s depth) x
current_none s depth x d h e = current_at s depth x None d h (symbol_none s (depth - 1) x e)

-- the scopes from so many on are still to be asked
pub record Seeking (s : List ℕ) (depth x left : ℕ) : Type 0 where
  pub same : get (scopes_of s depth) x ≡ get (scopes_of s left) x

module _ {s : List ℕ} {depth x left : ℕ} (r : Seeking s depth x left) where
  pub seeking_found : (f : Maybe SymbolValue) (v : SymbolValue) → 0 < left → x < 256 → found_of f ≡ symbol_at s (left - 1) x → f ≡ Some v → found_of (Some v) ≡ get (scopes_of s depth) x
  unfolding scopes_of get
  seeking_found f v l h e g =
      let n : left ≡ suc (left - 1) = omega arith in
      let here : scope_of s (left - 1) x ≡ some (symbol_of v) = scope_at s (left - 1) x h ∙ sym e ∙ ap found_of g in
      let p : get (scopes_of s depth) x ≡ get (scopes_of s (suc (left - 1))) x = rw n at r.same in
      sym (p ∙ rw here)

  pub seeking_more : (f : Maybe SymbolValue) → 0 < left → x < 256 → found_of f ≡ symbol_at s (left - 1) x → f ≡ None → Seeking s depth x (left - 1)
  unfolding scopes_of get
  seeking_more f l h e g =
      let n : left ≡ suc (left - 1) = omega arith in
      let here : scope_of s (left - 1) x ≡ none = scope_at s (left - 1) x h ∙ sym e ∙ ap found_of g in
      let p : get (scopes_of s depth) x ≡ get (scopes_of s (suc (left - 1))) x = rw n at r.same in
      record { same = p ∙ rw here }

  pub seeking_end : left ≤ 0 → found_of None ≡ get (scopes_of s depth) x
  unfolding scopes_of get
  seeking_end h = let n : left ≡ 0 = omega arith in sym (rw n at r.same)

-- the levels from the innermost on have no symbol of the name
module _ (s : List ℕ) (depth x : ℕ) (small : x < 256) where
  unasked : (n : ℕ) → n ≤ depth → ((k : ℕ) → depth - n ≤ k → k < depth → found_of None ≡ symbol_at s k x) → Seeking s depth x (depth - n)
  unasked zero h e = let f : depth - 0 ≡ depth = omega arith in record { same = rw f refl }
  unasked (suc n) h e =
      let f : depth - suc n ≡ depth - n - 1 = omega arith in
      rw f (seeking_more (unasked n (omega arith) (λ k u v. e k (omega arith) v)) None (omega arith) small (e (depth - n - 1) (omega arith) (omega arith)) refl)

  asked_none : ((k : ℕ) → k < depth → found_of None ≡ symbol_at s k x) → found_of None ≡ get (scopes_of s depth) x
  asked_none e = seeking_end (unasked depth (omega arith) (λ k u v. e k v)) (omega arith)

  asked_some : (v : SymbolValue) (level : ℕ) → level < depth → found_of (Some v) ≡ symbol_at s level x → ((k : ℕ) → level < k → k < depth → found_of None ≡ symbol_at s k x) → found_of (Some v) ≡ get (scopes_of s depth) x
  asked_some v level h f e =
      let n = depth - (level + 1) in
      let l : depth - n - 1 ≡ level = omega arith in
      seeking_found (unasked n (omega arith) (λ k u w. e k (omega arith) w)) (Some v) v (omega arith) small (rw l f) refl

-- what holds of an item is said of its number
if-number : (P : ℕ → Type 0) (o : Maybe ℕ) (j : ℕ) → option_map (λ (y : ℕ). y) o ≡ Some j → IfSome o P → P j
if-number P (Some i) j e h = let f : i ≡ j = cc in subst P f h
if-number P None j e h = absurd (cc)

and-number : (P : ℕ → Type 0) (o : Maybe ℕ) (j : ℕ) → option_map (λ (y : ℕ). y) o ≡ Some j → IsSomeAnd o P → P j
and-number P (Some i) j e h = let f : i ≡ j = cc in subst P f h
and-number P None j e h = absurd (cc)

-- a run over a range from its end, and one that an adapter makes of it
pub same_down : {S T : Type 0} {steps : S → Maybe ℕ → S → Type 0} {source : T → Maybe ℕ → T → Type 0} (p : Run steps) (q : Run source) (a b : ℕ) → IsIdenticalRun p q → ItemsCountDown q a b → ItemsCountDown p a b
same_down p q a b e h = (
  omega (arith, h.0, e.0.0),
  λ w. omega (arith, h.1 (e.1 ∙ w), e.0.0),
  λ k. subst (λ o. IfSome o (λ y. (y + k + 1 ≡ b) × (a ≤ y))) (e.0.2 k) (h.2 k),
  λ k l. sym (ap (option_map (λ (y : ℕ). y)) (e.0.2 k)) ∙ h.3 k (omega (arith, e.0.0)),
)

module _ {S F : Type 0} {steps : S → Maybe ℕ → S → Type 0} (p : Run steps) (g : Mut F (ℕ × Unit {0}) (Maybe SymbolValue)) (f : F) (s : List ℕ) (depth x : ℕ) where
  pub asked : (r : Maybe SymbolValue) → x < 256 → CallKeepsClosure g f → ItemsCountDown p 0 depth
      → ((i : ℕ) (v : Maybe SymbolValue) → i < depth → Called g f (i, tt) v f → found_of v ≡ symbol_at s i x)
      → MatchOption r (IsTrue p.whole × AllItemsGive p g f None) (λ y. (i : ℕ) × (i < p.len) × (p.len ≡ i + 1) × IsFirstToGive p g f (Some y) None i)
      → found_of r ≡ get (scopes_of s depth) x
  asked None small keeps down call (w, all) =
      asked_none s depth x small (λ k h.
      let l : p.len ≡ depth - 0 = down.1 w in
      let j : depth - 1 - (depth - 1 - k) ≡ k = omega arith in
      call k None h (if-number _ (p.at (depth - 1 - k)) k (rw j at (down.3 (depth - 1 - k) (omega arith))) (all keeps (depth - 1 - k))))
  asked (Some y) small keeps down call (i, h, l, first) =
      let n : p.len ≤ depth - 0 = down.0 in
      let here = first keeps in
      asked_some s depth x small y (depth - 1 - i) (omega arith)
      (call (depth - 1 - i) (Some y) (omega arith) (and-number _ (p.at i) (depth - 1 - i) (down.3 i h) here.0))
      (λ k u v.
      let j : depth - 1 - (depth - 1 - k) ≡ k = omega arith in
      call k None v (and-number _ (p.at (depth - 1 - k)) k (rw j at (down.3 (depth - 1 - k) (omega arith))) (here.1 (depth - 1 - k) (omega arith))))

pub gate_none : (s : List ℕ) (x : ℕ) → x < 256 → get_or s (gate_place x) 0 ≡ 0 → found_gate_of None ≡ gates_of s x
unfolding gates_of
gate_none s x h e = rw (lt-ltb x 256 h, e)

pub gate_some : (s : List ℕ) (x p q : ℕ) (sp : Span) → x < 256 → (get_or s (gate_place x) 0 ≡ 0 → ⊥) → p ≡ get_or s (gate_place x + 1) 0 → q ≡ get_or s (gate_place x + 2) 0 → sp ≡ span_at s (gate_place x + 3) → found_gate_of (Some (record { param_count = p; qubit_count = q; decl_span = sp })) ≡ gates_of s x
unfolding gates_of
gate_some s x p q sp h n a b e = rw (lt-ltb x 256 h, some-suc (get_or s (gate_place x) 0) n, a, b, e)

-- a function's entry
pub function_at : (s : List ℕ) (x : ℕ) → x < 256 → functions_of s x ≡ function_by s (function_place x) (get_or s (function_place x) 0)
unfolding functions_of
function_at s x h = rw (lt-ltb x 256 h)

pub function_none : (s : List ℕ) (x : ℕ) → x < 256 → get_or s (function_place x) 0 ≡ 0 → None ≡ brief_of (functions_of s x)
function_none s x h e = rw (function_at s x h, e)

pub function_some : (s : List ℕ) (x count : ℕ) (ty : ClassicalType) (sp : Span) → 65536 ≤ length s → x < 256 → (get_or s (function_place x) 0 ≡ 0 → ⊥) → count < 256 → ty ≡ type_of (get_or s (function_place x + 1) 0) → count ≡ get_or s (function_place x + 2) 0 → sp ≡ span_at s (function_place x + 3) → Some (record { param_count = count; return_type = ty; decl_span = sp }) ≡ brief_of (functions_of s x)
function_some s x count ty sp room h n small t c p =
    let at = function_place x in
    let long : count ≤ length (drop (at + 11) s) = rw length-drop (omega arith) in
    let l : length (map type_of (take count (drop (at + 11) s))) ≡ count = length-map (take count (drop (at + 11) s)) type_of ∙ length-take-le count (drop (at + 11) s) long in
    rw (function_at s x h, some-suc (get_or s at 0) n, ← c, l, t, p)

-- the parameters of an entry: what they are, and where
pub record Param (s : List ℕ) (x i : ℕ) : Type 0 where
  pub inside : function_place x + 11 + i < length s
  pub same : get_or (params_of (functions_of s x)) i ClassicalType.Int ≡ type_of (get_or s (function_place x + 11 + i) 0)

param_by : (s : List ℕ) (at i code : ℕ) → i < length (params_of (function_by s at code)) → (at + 11 + i < length s) × (get_or (params_of (function_by s at code)) i ClassicalType.Int ≡ type_of (get_or s (at + 11 + i) 0))
param_by s at i zero h = absurd (omega arith)
param_by s at i (suc code) h =
    let n = get_or s (at + 2) 0 in
    let l = drop (at + 11) s in
    let short : i < length (take n l) = rw (length-map (take n l) type_of) at h in
    let few : i < n = omega (arith, short, length-take n l) in
    let room : i < length s - (at + 11) = omega (arith, short, length-take n l, length-drop (at + 11) s) in
    (omega arith, get_or-map type_of (take n l) i 0 ∙ ap type_of (get_or-take n l i 0 few ∙ get_or-drop (at + 11) s i 0))

pub param_at : (s : List ℕ) (x i : ℕ) → x < 256 → i < length (params_of (functions_of s x)) → Param s x i
param_at s x i h k =
    let at = function_place x in
    let p = param_by s at i (get_or s at 0) (rw (function_at s x h) at k) in
    record { inside = p.0; same = rw (function_at s x h) p.1 }

pub param_read : (s : List ℕ) (x i : ℕ) (r : ClassicalType) → x < 256 → i < length (params_of (functions_of s x)) → r ≡ type_of (get_or s (function_place x + 11 + i) 0) → r ≡ get_or (params_of (functions_of s x)) i ClassicalType.Int
param_read s x i r h k e = e ∙ sym (param_at s x i h k).same
