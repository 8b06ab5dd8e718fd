-- It serves inner contracts and proofs; no answer of the program is stated by it.
-- The control cone, as marks.
use Rattle.std.specs.Prelude.{ℕ, ◌≡◌, ◌<◌, Bool, true, false, List, length, Vec, slice_index_or, ◌⊎◌, ◌↔◌, ◌||◌}
use Rattle.std.specs.List.{list_any}
use Rattle.std.specs.declared.alloc.Global.{Global}
use Rattle.rtl_flat.specs.Flats.{Flat}
use Rattle.net_model.specs.Control.{IsReached}
use Rattle.net_model.specs.Gates.{IsControl}
use Rattle.check_gates.specs.Reach.{Reaches}
use Rattle.check_gates.specs.Waits.{ReachesMarked}

-- whether a number is a gate, or something of what was found is among other marks
abbrev pub is_control : Bool → List Bool → List ℕ → Bool
is_control gate edges found = gate || list_any (λ place. slice_index_or edges place false) found

abbrev pub ReachesControl : List (Vec ℕ Global) → List Bool → Bool → ℕ → Type 0
ReachesControl rows edges gate top = (gate ≡ true) ⊎ ReachesMarked rows edges top

-- all that is reached from a number is marked besides, if it is a gate or something of it is among other marks
pub record IsSpread (rows : List (Vec ℕ Global)) (edges : List Bool) (gate : Bool) (top : ℕ) (old new : List Bool) : Type 0 where
  pub size : length new ≡ length old
  pub each :
      (k : ℕ) → slice_index_or new k false ≡ true
      ↔ ((slice_index_or old k false ≡ true) ⊎ ((k < length old) × Reaches rows top k × ReachesControl rows edges gate top))

-- a signal that is reached from a control input below a number
pub record IsConed (d : Flat) (n s : ℕ) : Type 0 where
  pub control : ℕ
  pub below : control < n
  pub is_control : IsControl d control
  pub reached : IsReached d control s

-- those are marked
pub record AreConed (d : Flat) (n : ℕ) (marks : List Bool) : Type 0 where
  pub size : length marks ≡ length d.signals
  pub each : (s : ℕ) → slice_index_or marks s false ≡ true ↔ ((s < length d.signals) × IsConed d n s)
