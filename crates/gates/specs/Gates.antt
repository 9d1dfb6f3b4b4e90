-- The standard gates.
-- Assumes nothing.
use Rattle.std.specs.Prelude.{ℕ, ◌+◌, cond, ◌&&◌, Option, Some, None, List, [], ◌∷◌, map, ◌≡◌, refl, length, leb}
use Prim.Native.String.{String}
use Rattle.text.specs.Text.{text, same}
use Rattle.gates.specs.declared.StandardGate.{StandardGate}

pub record Gate : Type 0 where
  pub name : List ℕ
  pub params : ℕ
  pub qubits : ℕ

abbrev gate : String → ℕ → ℕ → Gate
gate n p q = record { name = text n; params = p; qubits = q }

-- each gate with its parameters and its qubits
unfoldable pub gates : List Gate
gates =
    gate "u" 3 1
    ∷ gate "gphase" 1 0
    ∷ gate "id" 0 1
    ∷ gate "x" 0 1
    ∷ gate "y" 0 1
    ∷ gate "z" 0 1
    ∷ gate "h" 0 1
    ∷ gate "s" 0 1
    ∷ gate "sdg" 0 1
    ∷ gate "t" 0 1
    ∷ gate "tdg" 0 1
    ∷ gate "sx" 0 1
    ∷ gate "p" 1 1
    ∷ gate "rx" 1 1
    ∷ gate "ry" 1 1
    ∷ gate "rz" 1 1
    ∷ gate "cx" 0 2
    ∷ gate "cnot" 0 2
    ∷ gate "cy" 0 2
    ∷ gate "cz" 0 2
    ∷ gate "ch" 0 2
    ∷ gate "swap" 0 2
    ∷ gate "cp" 1 2
    ∷ gate "crx" 1 2
    ∷ gate "cry" 1 2
    ∷ gate "crz" 1 2
    ∷ gate "ccx" 0 3
    ∷ gate "cswap" 0 3
    ∷ []

-- a byte, the letters A to Z lowered
unfoldable pub lower : ℕ → ℕ
lower b = cond (leb 65 b && leb b 90) (b + 32) b

-- the signature of the first gate with a name
unfoldable pub lookup : List ℕ → List Gate → Option StandardGate
lookup n [] = None
lookup n (g ∷ gs) = cond (same n g.name) (Some (record { params = g.params; qubits = g.qubits })) (lookup n gs)

-- of a name whose letters are lowered
unfoldable pub signature_of : List ℕ → Option StandardGate
signature_of n = lookup n gates

pub twenty_eight : length gates ≡ 28
unfolding gates
twenty_eight = refl

lowered_name : signature_of (map lower (text "CNot")) ≡ Some (record { params = 0; qubits = 2 })
unfolding gates lower lookup signature_of
lowered_name = refl

no_gate : signature_of (map lower (text "cphase")) ≡ None
unfolding gates lower lookup signature_of
no_gate = refl
