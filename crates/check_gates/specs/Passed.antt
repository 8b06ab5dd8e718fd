-- It serves inner contracts and proofs; no answer of the program is stated by it.
-- The connections by which a signal alone goes on to another instance.
use Rattle.std.specs.Prelude.{ℕ, ◌≡◌, ◌≢◌, ◌<◌, ◌⊎◌, ◌↔◌, List, [], ◌∷◌, Option, Some, None}
use Rattle.std.specs.List.{slice_get}
use Rattle.std.specs.Option.{IsSomeAnd}
use Rattle.text_ground.specs.declared.text.Spot.{Spot}
use Rattle.rtl_flat.specs.declared.expr.SigId.{SigId}
use Rattle.rtl_flat.specs.Expression.{Tree}
use Rattle.rtl_flat.specs.Process.{Assign, Task}
use Rattle.rtl_flat.specs.Process as part
use Rattle.rtl_flat.specs.Signs.{Has}
use Rattle.net_model.specs.Control.{ReadsAlone}
use Rattle.rtl_flat.specs.Flats.{Flat, widths}
use Rattle.check_chains.specs.rtl_scan.declared.bits.Row.{Row}
use Rattle.check_gates.specs.declared.reach.Link.{Link}
use Rattle.check_gates.specs.Reach.{HasLink}

-- a connection whose expression reads one signal alone, both of one bit
pub record IsPassing (d : Flat) (task : Task) (i j : ℕ) : Type 0 where
  pub spot : Spot
  pub value : Tree
  pub does : task.does ≡ Assign (record { signal = j; selection = part.Whole; spot = spot } ∷ []) value
  pub alone : ReadsAlone (widths d) value i
  pub one_bit : widths d i ≡ 1
  pub port_bit : widths d j ≡ 1
  pub outside : Has (λ signal. signal.instance ≢ task.instance) d.signals j

-- the signal of a single row
abbrev pub only_signal : List Row → Option SigId
only_signal (row ∷ []) = Some row.signal
only_signal _ = None

-- the link of a process, if it is such a connection
pub record IsPassingLink (d : Flat) (task : Task) (link : Option Link) : Type 0 where
  pub each : (i j : ℕ) → link ≡ Some (record { source = i; target = j }) ↔ IsPassing d task i j

-- the links of some processes, and of one more
pub record GetsPassing (d : Flat) (task : Task) (old new : List Link) : Type 0 where
  pub each : (i j : ℕ) → HasLink new i j ↔ (HasLink old i j ⊎ IsPassing d task i j)

-- those of the processes below a number
pub record ArePassing (d : Flat) (n : ℕ) (links : List Link) : Type 0 where
  pub each :
      (i j : ℕ) → HasLink links i j ↔ ((p : ℕ) × (p < n) × IsSomeAnd (slice_get d.tasks p) (λ task. IsPassing d task i j))
