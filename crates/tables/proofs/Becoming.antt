-- Each change of the scratch, and what it has become. Assumes nothing.
use Prim.Native.Nat.{ℕ, suc, ◌+◌, ◌-◌, ◌*◌, ◌≤◌, ◌<◌}
use mathlib.Core.Path.{◌≡◌, refl, ap₂, ◌∙◌}
use mathlib.Core.List.{List, ◌∷◌}
use mathlib.Core.Logic.{inl, inr}
use mathlib.Core.Option.{some}
use native.Mathlib.Omega.{arith}
use lib.ListN.{length, get_or, set, replicate, length-set}
use lib.Seq.{sets, get_or-set_same}
use Rattle.std.proofs.lemmas.List.{length-replicate, get_or-replicate}
use borrow.Rule.Slice.PartMut.{put_mid, mid_of}
use Rattle.span.specs.declared.Span.{Span}
use Rattle.ast.specs.declared.ClassicalType.{ClassicalType}
use Rattle.tree.specs.Fits.{SpanFits}
use Rattle.sema.specs.Symbols.{Symbol, GateSig, Scope, Symbols}
use Rattle.context.specs.View.{symbol_at, code_place, symbol_place, scopes_of, gate_base, gate_place, gates_of, function_place, functions_of}
use Rattle.tables.specs.Entries.{SymbolFits, code_of, symbol_bytes, gate_bytes, type_bytes, function_bytes}
use Rattle.tables.specs.Tables.{tables_end, Becomes, Inserted, Entered, Begun, GateDefined, FunctionDefined, FewParams, function_in}
use Rattle.tables.specs.Laws.{scope_empty, gates-empty, functions-empty, length_types}
use Rattle.tables.proofs.Bytes.{put_zeros}
use Rattle.tables.proofs.Frame.{Outside, outside-none, outside_set, outside-sets, same_drop}
use Rattle.tables.proofs.Alike.{stored, symbol_by_lem, gate-alike, function_alike}
use Rattle.tables.proofs.Back.{length-symbol, symbol-back, length-gate, gate-back, length_function, function_count, function_back}
use Rattle.tables.proofs.Changes.{scopes_kept, gates-kept, functions-kept, scope_insert, gate-insert, function_insert}

-- a change among the scopes
in_scopes : {a b : ℕ} {s t : List ℕ} {depth : ℕ} {scopes : Symbols} → Outside a b s t → b ≤ gate_base → scopes_of t depth ≡ scopes → Becomes s t depth scopes (gates_of s) (functions_of s)
in_scopes o h e =
    record {
      scopes_are = e;
      gates_are = gates-kept o (inr h);
      functions_are = functions-kept o (omega arith);
      same_length = o.size;
      same_rest = same_drop o tables_end (omega arith);
    }

-- a symbol given in a scope
inserted_at : (s t : List ℕ) (level x : ℕ) (v : Symbol) → 65536 ≤ length s → level < 9 → x < 256 → t ≡ sets (set s (code_place level x) (code_of v.kind)) (symbol_place level x) (symbol_bytes v) → SymbolFits v → Inserted s t (suc level) x v
unfolding scopes_of
inserted_at s t level x v room few small e h =
    let base = level * 4608 in
    let c = code_place level x in
    let at = symbol_place level x in
    let b = symbol_bytes v in
    let l = length-symbol v.kind v.decl_span v.size in
    let u = set s c (code_of v.kind) in
    let m : length u ≡ length s = length-set s c (code_of v.kind) in
    let o : Outside c (c + 1) s u = outside_set c (code_of v.kind) (outside-none c (c + 1) s) (omega arith) (omega arith) in
    let p : Outside at (at + 17) u (sets u at b) = outside-sets b at (outside-none at (at + 17) u) (omega arith) (omega (arith, l)) in
    let q : Outside base (base + 4608) s (sets u at b) = outside-sets b at (outside_set c (code_of v.kind) (outside-none base (base + 4608) s) (omega arith) (omega arith)) (omega arith) (omega (arith, l)) in
    let code : get_or (sets u at b) c 0 ≡ code_of v.kind = p.same c (inl (omega arith)) ∙ get_or-set_same s c (code_of v.kind) 0 (omega arith) in
    let back = symbol-back v.kind v.decl_span v.size h.size_fits h.span_fits in
    let here : symbol_at (sets u at b) level x ≡ some v = rw code (symbol_by_lem (stored u b at (omega (arith, l, m))) (code_of v.kind) (omega (arith, l)) ∙ back) in
    let top = scope_insert o p level x v small refl refl here in
    rw e (in_scopes q (omega arith) (ap₂ (λ (c : Scope) (ss : Symbols). c ∷ ss) top (scopes_kept q level (omega arith))))

pub inserted : (s t : List ℕ) (depth x : ℕ) (v : Symbol) → 65536 ≤ length s → 0 < depth → depth ≤ 9 → x < 256 → t ≡ sets (set s (code_place (depth - 1) x) (code_of v.kind)) (symbol_place (depth - 1) x) (symbol_bytes v) → SymbolFits v → Inserted s t depth x v
inserted s t depth x v room inner few small e h =
    let n : suc (depth - 1) ≡ depth = omega arith in
    rw n at (inserted_at s t (depth - 1) x v room (omega arith) small e h)

-- some bytes from a place on are cleared
pub record Emptied (s : List ℕ) (base size : ℕ) (t : List ℕ) : Type 0 where
  pub outside : Outside base (base + size) s t
  pub zeros : (j : ℕ) → j < size → get_or t (base + j) 0 ≡ 0

pub emptied : (s z : List ℕ) (base k size : ℕ) → z ≡ replicate (length (mid_of base k s)) 0 → k ≡ size → base + size ≤ length s → Emptied s base size (put_mid base k s z)
emptied s z base k size e f h =
    let n : length (replicate {A = ℕ} size 0) ≡ size = length-replicate {A = ℕ} size 0 in
    rw (put_zeros base k s z size e f h)
    (record {
      outside = outside-sets (replicate size 0) base (outside-none base (base + size) s) (omega arith) (omega arith);
      zeros = λ j l.
          let z : 0 + j ≡ j = omega arith in
          (stored s (replicate size 0) base (omega arith)).byte j (omega arith) ∙ rw z (get_or-replicate size j 0 0 l);
    })

-- a scope entered: the codes of its level are cleared
pub entered : {s t : List ℕ} {depth : ℕ} → depth < 9 → Emptied s (depth * 4608) 256 t → Entered s t depth
unfolding scopes_of
entered {s = s} {t = t} {depth = depth} few r =
    let o = r.outside in
    let top = scope_empty t depth (λ x l. r.zeros x (omega arith)) in
    in_scopes o (omega arith) (ap₂ (λ (c : Scope) (ss : Symbols). c ∷ ss) top (scopes_kept o depth (omega arith)))

-- a walk begun: the first scope entered, the gates and functions cleared
pub begun : {s t u : List ℕ} → Entered s t 0 → Emptied t gate_base 9728 u → Begun s u
unfolding scopes_of
begun {u = u} b r =
    let o = r.outside in
    record {
      scopes_are = scopes_kept o 1 (omega arith) ∙ b.scopes_are;
      gates_are = gates-empty u (λ x l. r.zeros (x * 11) (omega arith));
      functions_are = functions-empty u (λ x l. let e : function_place x ≡ gate_base + (2816 + x * 27) = omega arith in rw e (r.zeros (2816 + x * 27) (omega arith)));
      same_length = o.size ∙ b.same_length;
      same_rest = same_drop o tables_end (omega arith) ∙ b.same_rest;
    }

pub gate_defined : (s t : List ℕ) (x : ℕ) (g : GateSig) → 65536 ≤ length s → x < 256 → t ≡ sets s (gate_place x) (gate_bytes g) → SpanFits g.decl_span → GateDefined s t x g
gate_defined s t x g room small e h depth few =
    let at = gate_place x in
    let b = gate_bytes g in
    let l = length-gate g in
    let o : Outside at (at + 11) s (sets s at b) = outside-sets b at (outside-none at (at + 11) s) (omega arith) (omega (arith, l)) in
    let here = gate-alike (stored s b at (omega (arith, l))) (omega (arith, l)) ∙ gate-back g h in
    rw e (record {
      scopes_are = scopes_kept o depth (omega arith);
      gates_are = gate-insert o x g small (omega arith) (omega arith) here;
      functions_are = functions-kept o (omega arith);
      same_length = o.size;
      same_rest = same_drop o tables_end (omega arith);
    })

pub function_defined : (s t tree : List ℕ) (x at count : ℕ) (ty : ClassicalType) (sp : Span) → 65536 ≤ length s → x < 256 → count ≤ 16 → FewParams (functions_of s) → t ≡ sets s (function_place x) (function_bytes ty sp count (type_bytes tree at count)) → SpanFits sp → FunctionDefined s t x (function_in tree at count ty sp)
function_defined s t tree x from count ty sp room small short fewer e h depth few =
    let at = function_place x in
    let types = type_bytes tree from count in
    let b = function_bytes ty sp count types in
    let n = length_types tree from count in
    let l : length b ≡ 11 + count = omega (arith, n, length_function ty sp types count) in
    let o : Outside at (at + 27) s (sets s at b) = outside-sets b at (outside-none at (at + 27) s) (omega arith) (omega (arith, l)) in
    let c : get_or b (0 + 2) 0 ≡ count = function_count ty sp types count in
    let here = function_alike (stored s b at (omega (arith, l))) (omega (arith, l)) (λ z. omega (arith, l, c)) ∙ function_back ty sp types count n h in
    rw e (record {
      scopes_are = scopes_kept o depth (omega arith);
      gates_are = gates-kept o (inl (omega arith));
      functions_are = function_insert o x (function_in tree from count ty sp) room fewer small (omega arith) (omega arith) here;
      same_length = o.size;
      same_rest = same_drop o tables_end (omega arith);
    })
