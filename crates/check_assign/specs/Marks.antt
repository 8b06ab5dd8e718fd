-- It serves inner contracts and proofs; no answer of the program is stated by it.
-- The signals of one process that break a rule, with the places of their findings.
use Rattle.std.specs.Prelude.{ℕ, ◌≡◌, ◌==◌, Bool, true, false, not, ◌&&◌, List, [], ◌∷◌, ◌++◌, map, Option, Some, None, bit_and, bit_xor, slice_index_or}
use Rattle.std.specs.List.{filter, filter_map, list_any}
use Rattle.std.specs.List.Sorted.{IsStrictlySortedBy}
use Rattle.std.specs.Map.{lookup}
use Rattle.std.specs.Ordering.{nat_cmp}
use Rattle.std.specs.BTreeMap.{get, is_at}
use Rattle.text_ground.specs.declared.text.Spot.{Spot}
use Rattle.rtl_flat.specs.Expression.{Tree}
use Rattle.rtl_flat.specs.Flows.{may_select, may_target}
use Rattle.rtl_flat.specs.Process.{Piece, Action, Set}
use Rattle.rtl_rule.specs.declared.finding.Finding.{Finding}
use Rattle.rtl_rule.specs.declared.rule.Rule.{Rule}
use Rattle.rtl_rule.specs.Parts.{has_some, is_earlier, is_literal_with, is_z, number, place_of, spot_if}
use Rattle.check_loops.specs.rtl_scan.declared.bits.Row.{Row}

-- ---- places

-- the place of a target that may be a bit of a signal
abbrev pub spot_of : (ℕ → ℕ) → ℕ → Piece → Option Spot
spot_of ws s piece = spot_if (has_some ws (may_select ws piece.signal piece.selection) s) piece.spot

-- whether a statement may write a bit by an assignment of some kinds
abbrev pub own_writes : (Bool → Bool) → (ℕ → ℕ) → ℕ → ℕ → Action → Bool
own_writes kind ws s k (Set target value delayed spot) = kind delayed && may_target ws target s k
own_writes kind ws s k _ = false

-- ---- rows

-- whether a bit of a row is in a set, given by the mask of each signal
abbrev pub shares : (ℕ → ℕ) → Row → Bool
shares masks row = not (bit_and row.mask (masks row.signal.0) == 0)

-- whether a bit of a row isn't
abbrev pub leaves : (ℕ → ℕ) → Row → Bool
leaves masks row = not (bit_and row.mask (bit_xor row.mask (masks row.signal.0)) == 0)

-- whether some row of a signal passes a test
abbrev pub any_row : (Row → Bool) → List Row → ℕ → Bool
any_row test rows s = list_any (λ (row : Row). (s == row.signal.0) && test row) rows

-- ---- literals

-- where literals with a z bit stand
abbrev pub z_spots : Spot → List Tree → List Spot
z_spots otherwise nodes =
    filter_map (λ (node : Tree). spot_if (is_literal_with is_z node) (place_of otherwise node)) nodes
