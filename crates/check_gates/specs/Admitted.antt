-- The latches with gates from outside that a design has.
-- Worked examples: crates/tests_rows/stdin.
use Rattle.std.specs.Prelude.{◌≡◌, ◌⊎◌, ◌↔◌, ◌<◌, ℕ, List, [], ◌∷◌, map, Some}
use Rattle.std.specs.List.{All, slice_get}
use Rattle.rtl_flat.specs.Flats.{Flat}
use Rattle.net_model.specs.Gates.{Gate, IsAdmitted}
use Rattle.check_gates.specs.declared.gate.Gate as declared

-- the process of a latch, and its gate
abbrev pub gate_of : declared.Gate → ℕ × Gate
gate_of gate =
    (gate.process.0, record { signal = gate.signal.0; input = gate.input.0; opens = gate.opens_at })

abbrev pub gates_of : List declared.Gate → List (ℕ × Gate)
gates_of gates = map gate_of gates

-- by process, and by input
abbrev pub IsBefore : ℕ × Gate → ℕ × Gate → Type 0
IsBefore (p, gate) (q, other) = (p < q) ⊎ ((p ≡ q) × (gate.input < other.input))

abbrev pub AreInOrder : List (ℕ × Gate) → Type 0
AreInOrder [] = Unit {0}
AreInOrder (one ∷ others) = All (IsBefore one) others × AreInOrder others

-- whether these are all admitted latches of a design, in order
pub record AreGates (d : Flat) (gates : List (ℕ × Gate)) : Type 0 where
  pub each : (p : ℕ) (gate : Gate) → IsAdmitted d p gate ↔ ((n : ℕ) × (slice_get gates n ≡ Some (p, gate)))
  pub in_order : AreInOrder gates

-- whether a process is such a latch
abbrev pub IsGatedProcess : Flat → ℕ → Type 0
IsGatedProcess d p = (gate : Gate) × IsAdmitted d p gate
