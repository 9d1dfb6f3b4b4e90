-- What declarations declare, one law for each way out. Assumes nothing.
use Prim.Native.Nat.{ℕ, ◌+◌, ◌≤◌, ◌<◌}
use mathlib.Core.Path.{◌≡◌, refl, sym, ◌∙◌}
use mathlib.Core.List.{List}
use mathlib.Core.Option.{Option, none}
use mathlib.Core.Logic.{inl, inr, ⊎_elim}
use native.Mathlib.Omega.{arith}
use lib.ListN.{length, get_or}
use Rattle.span.specs.declared.Span.{Span}
use Rattle.ast.specs.Tree.{Text, Stmt}
use Rattle.ast.specs.declared.ClassicalType.{ClassicalType}
use Rattle.ast.specs.declared.ClassicalQualifier.{ClassicalQualifier}
use Rattle.tree.specs.Ans.{Ans, ok, IsOk, next_of}
use Rattle.tree.specs.Read.{u64, option}
use Rattle.tree.specs.Stmts.{qualifier, held, stmt}
use Rattle.sema.specs.Messages.{Qubit, Bit}
use Rattle.sema.specs.Symbols.{Symbols, get_current, declare, decl_kind, after}
use Rattle.context.specs.declared.Symbol.{Symbol as SymbolValue}
use Rattle.std.specs.Prelude.{Option as Maybe, Some, None, true, false}
use Rattle.std.specs.Option.{is_some}
use Rattle.context.specs.declared.SymbolKind.{SymbolKind as Kind}
use Rattle.context.specs.Values.{kind_of, number_of, symbol_of, found_of}
use Rattle.context.specs.View.{number_at, span_at, type_of, stmt_span, scopes_of, gates_of, functions_of}
use Rattle.tables.specs.Tables.{Becomes, Inserted}
use Rattle.accepted.specs.Bodies.{stmt_in}
use Rattle.accepted.specs.Parts.{value_or, next_is, value_is, given_is}
use Rattle.accepted.specs.Fields.{option_in, option-none, option-held, one_below}
use Rattle.accepted.specs.Operands.{some_qualifier_in, some_qualifier_is}
use Rattle.accepted.specs.Stmts as of
use Rattle.accepted.specs.Stmts.{classical_decl-qualifier, classical_decl_init, classical_decl-inside}
use Rattle.scopes.specs.declared.Declaration.{Declaration}
use Rattle.scopes.specs.Laws.{classical-named_in}
use Rattle.scopes.specs.Scopes.{register_kind, qualified_of, Declares}

-- a symbol declared: the name is new in the innermost scope, or not
module _ {s : List ℕ} {depth : ℕ} (x : ℕ) (symbol : SymbolValue) where
  pub declared-new : (found : Maybe SymbolValue) → found_of found ≡ get_current (scopes_of s depth) x → is_some found ≡ false → {u : List ℕ} → Inserted s u depth x (symbol_of symbol)
      → Becomes s u depth (declare (scopes_of s depth) x (kind_of symbol.kind) (number_of symbol.size) symbol.decl_span) (gates_of s) (functions_of s)
  unfolding declare
  declared-new None f e i = rw (← f, declare) i
  declared-new (Some prev) f e i = absurd cc

  pub declared-again : (found : Maybe SymbolValue) → found_of found ≡ get_current (scopes_of s depth) x → is_some found ≡ true
      → Becomes s s depth (declare (scopes_of s depth) x (kind_of symbol.kind) (number_of symbol.size) symbol.decl_span) (gates_of s) (functions_of s)
  unfolding declare
  declared-again None f e = absurd cc
  declared-again (Some prev) f e = rw (← f, declare) (record { scopes_are = refl; gates_are = refl; functions_are = refl; same_length = refl; same_rest = refl })

-- a statement that declares
declares : {t : List Text} {x : Ans Stmt} {st : Stmt} {next : ℕ} → x ≡ ok st next → (r : Declaration) → r.end ≡ next → r.name < length t
    → ((ss : Symbols) → after ss st ≡ declare ss r.name (kind_of r.symbol.kind) (number_of r.symbol.size) r.symbol.decl_span)
    → stmt_span st ≡ r.symbol.decl_span → Declares t x r
declares is r e n a p = record {
  next = e ∙ sym (next_is is);
  named = n;
  after = λ ss. given_is is ss (λ st. after ss st) ∙ a ss;
  span = λ d. given_is is d stmt_span ∙ p;
}

module _ (t : List Text) (left : ℕ) (s : List ℕ) (at : ℕ) (h : IsOk (stmt t left s at)) where
  -- a register, of qubits or of bits
  module _ (l : 0 < get_or s at 0) (u : get_or s at 0 < 3) where
    case : of.Register t left s at h
    case = of.register t left s at h l u

    pub register-name_in : at + 3 ≤ length s
    register-name_in = (of.register-named t left s at h case).inside

    pub register-size : IsOk (option u64 s (at + 3))
    register-size = of.register-size t left s at h case

    module _ {size : Option ℕ} (k : ℕ) (e : option u64 s (at + 3) ≡ ok size k) where
      pub register-inside : k + 8 ≤ length s
      register-inside = of.register-inside t left s at h case k (sym (next_is e))

    pub register-declares : (kind : Kind) → kind_of kind ≡ register_kind (get_or s at 0)
        → (name : ℕ) → name ≡ number_at 2 s (at + 1)
        → (size : Maybe ℕ) (k : ℕ) → option u64 s (at + 3) ≡ ok (number_of size) k
        → (sp : Span) → sp ≡ span_at s k
        → Declares t (stmt t left s at) (record { name = name; symbol = record { kind = kind; size = size; decl_span = sp }; end = k + 8 })
    unfolding after
    register-declares kind p name q size k e sp f = ⊎_elim
        (λ b. let c : kind_of kind ≡ Qubit = rw b at p in
        declares (of.qubit_decl_is t left s at h b k (sym (next_is e))) _ refl (rw q (of.register-named t left s at h (inl b)).below) (λ ss. rw (value_is e none, c, q, f)) (sym f))
        (λ b. let c : kind_of kind ≡ Bit = rw b at p in
        declares (of.bit_decl_is t left s at h b k (sym (next_is e))) _ refl (rw q (of.register-named t left s at h (inr b)).below) (λ ss. rw (value_is e none, c, q, f)) (sym f))
        case

  -- a classical declaration
  pub classical_declares : get_or s at 0 ≡ 3
      → (k : ℕ) → k ≡ next_of (option qualifier s (at + 1))
      → (ty : ClassicalType) → ty ≡ type_of (get_or s k 0)
      → (kind : Kind) → kind_of kind ≡ decl_kind (value_or none (option qualifier s (at + 1))) ty
      → (name : ℕ) → name ≡ number_at 2 s (k + 1)
      → (m : ℕ) → m ≡ next_of (option (held t) s (k + 3))
      → (sp : Span) → sp ≡ span_at s m
      → Declares t (stmt t left s at) (record { name = name; symbol = record { kind = kind; size = None; decl_span = sp }; end = m + 8 })
  unfolding after
  classical_declares b k e ty p kind c name q m g sp f =
      declares (of.classical_decl_is t left s at h b k e m g) _ refl (rw q (of.classical_decl-named t left s at h b k e).below) (λ ss. rw (c, p, q, f)) (sym f)

-- a qualifier by its bytes
module _ (s : List ℕ) (at : ℕ) (h : IsOk (option qualifier s at)) where
  pub qualifier-none : get_or s at 0 ≡ 0 → qualified_of None ≡ value_or none (option qualifier s at)
  qualifier-none e = rw (value_is (option-none s at qualifier h e) none)

  module _ (z : get_or s at 0 ≡ 0 → ⊥) where
    pub qualifier-const : get_or s (at + 1) 0 ≡ 0 → qualified_of (Some ClassicalQualifier.Const) ≡ value_or none (option qualifier s at)
    qualifier-const e = rw (value_is (some_qualifier_is s at h z) none, e)

    pub qualifier_input : get_or s (at + 1) 0 ≡ 1 → qualified_of (Some ClassicalQualifier.Input) ≡ value_or none (option qualifier s at)
    qualifier_input e = rw (value_is (some_qualifier_is s at h z) none, e)

    pub qualifier_output : (get_or s (at + 1) 0 ≡ 0 → ⊥) → (get_or s (at + 1) 0 ≡ 1 → ⊥) → qualified_of (Some ClassicalQualifier.Output) ≡ value_or none (option qualifier s at)
    unfolding qualifier
    qualifier_output a b =
        let l = one_below s (at + 1) _ _ (option-held s at qualifier h z) in
        let e : get_or s (at + 1) 0 ≡ 2 = omega (arith, l, a, b) in
        rw (value_is (some_qualifier_is s at h z) none, e)

pub ruleset qualifiers = (option_in, some_qualifier_in, qualifier-none, qualifier-const, qualifier_input, qualifier_output)

-- what is known of the parts of the declarations where they are read
pub ruleset classical = (stmt_in, classical_decl-qualifier, classical-named_in, classical_decl_init, classical_decl-inside)

pub ruleset registers = (stmt_in, register-name_in, register-size, register-inside)
