-- It serves inner contracts and proofs; no answer of the program is stated by it.
-- The signals that processes wait for edges of.
use Rattle.std.specs.Prelude.{ℕ, ◌≡◌, ◌<◌, Bool, true, false, if◌then◌else◌, List, [], ◌∷◌, length, Vec, slice_index_or, ◌↔◌}
use Rattle.std.specs.List.{flat_map}
use Rattle.std.specs.declared.alloc.Global.{Global}
use Rattle.rtl_flat.specs.Process.{Watched, Doing, Assign, Comb, Edge'}
use Rattle.rtl_flat.specs.WellFormed.{has_edge}
use Rattle.rtl_flat.specs.Flats.{Flat}
use Rattle.net_model.specs.Control.{IsEdgeSignal}
use Rattle.check_gates.specs.Reach.{Reaches}

-- the signal of an item with an edge
abbrev pub waited_by : Watched → List ℕ
waited_by item = if has_edge item.edge then item.signal ∷ [] else []

-- the signals that a process waits for edges of
abbrev pub waited : Doing → List ℕ
waited (Assign target value) = []
waited (Comb list body) = []
waited (Edge' events body) = flat_map waited_by events

-- whether something is marked among what is reached from a number
pub record ReachesMarked (rows : List (Vec ℕ Global)) (marks : List Bool) (top : ℕ) : Type 0 where
  pub signal : ℕ
  pub reached : Reaches rows top signal
  pub marked : slice_index_or marks signal false ≡ true

-- the signals whose edges are waited for are marked
pub record AreEdgeMarks (d : Flat) (marks : List Bool) : Type 0 where
  pub size : length marks ≡ length d.signals
  pub each : (s : ℕ) → slice_index_or marks s false ≡ true ↔ ((s < length d.signals) × IsEdgeSignal d s)
