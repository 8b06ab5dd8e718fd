-- It serves inner contracts and proofs; no answer of the program is stated by it.
-- Where a process uses signals as data.
use Rattle.std.specs.Prelude.{ℕ, ◌==◌, ◌&&◌, not, Bool, if◌then◌else◌, List, [], ◌∷◌, Option}
use Rattle.std.specs.List.{filter_map, list_any}
use Rattle.text_ground.specs.declared.text.Spot.{Spot}
use Rattle.rtl_flat.specs.declared.expr.SigId.{SigId}
use Rattle.rtl_flat.specs.Expression.{Tree}
use Rattle.rtl_flat.specs.Flows.{may_select}
use Rattle.rtl_flat.specs.Process.{Watched}
use Rattle.rtl_flat.specs.WellFormed.{has_edge}
use Rattle.net_model.specs.Gates.{Gate}
use Rattle.rtl_rule.specs.Parts.{has_some, own_reads, place_of, spot_if}
use Rattle.check_gates.specs.check_chains.check_parts.Reads.{is_signal}
use Rattle.check_clocks.specs.declared.uses.Use.{Use}

-- the places where some uses use a signal
abbrev pub places_of : ℕ → List Use → List Spot
places_of s uses = filter_map (λ (one : Use). spot_if (one.signal.0 == s) one.spot) uses

-- whether a signal is the gate of a process, among some gates
abbrev pub is_gate_in : List (ℕ × Gate) → ℕ → ℕ → Bool
is_gate_in gates p s =
    list_any (λ (one : ℕ × Gate). (one.0 == p) && (one.1.signal == s)) gates

-- the places where some uses use a signal, unless it is the gate of a process
abbrev pub ungated : List (ℕ × Gate) → ℕ → ℕ → List Use → List Spot
ungated gates p s uses = if is_gate_in gates p s then [] else places_of s uses

-- the place of a use of a signal, if there is one
abbrev pub place_if : Option SigId → Spot → ℕ → List Spot
place_if used spot s =
    filter_map (λ (one : Option SigId). spot_if (is_signal one s) spot) (used ∷ [])

-- the places of the items without edge that may mean a bit of a signal
abbrev pub level_places : (ℕ → ℕ) → ℕ → List Watched → List Spot
level_places ws s items =
    filter_map (λ (item : Watched). spot_if (not (has_edge item.edge) && has_some ws (may_select ws item.signal item.selection) s) item.spot) items

-- the places of the expressions that read a bit of a signal
abbrev pub read_places : (ℕ → ℕ) → Spot → ℕ → List Tree → List Spot
read_places ws otherwise s all =
    filter_map (λ (node : Tree). spot_if (has_some ws (own_reads ws node) s) (place_of otherwise node)) all
