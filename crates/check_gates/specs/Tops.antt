-- It serves inner contracts and proofs; no answer of the program is stated by it.
-- Which top inputs signals come from, and marks of numbers.
use Rattle.std.specs.Prelude.{List, Bool, Vec, false, length, slice_index_or, true, ℕ, ◌<◌, ◌↔◌, ◌≡◌, ◌⊎◌}
use Rattle.std.specs.declared.alloc.Global.{Global}
use Rattle.rtl_flat.specs.Flats.{Flat}
use Rattle.net_model.specs.Gates.{ComesFrom}
use Rattle.check_chains.specs.rtl_scan.Arrows.{Among}
use Rattle.check_chains.specs.rtl_scan.Graph.{row}
use Rattle.check_gates.specs.Reach.{Reaches}

-- a top input is noted in the rows of all signals that it reaches
pub record IsNoted (rows : List (Vec ℕ Global)) (top : ℕ) (old new : List (Vec ℕ Global)) : Type 0 where
  pub size : length new ≡ length old
  pub each : (i t : ℕ) → Among (row new i) t ↔ (Among (row old i) t ⊎ ((t ≡ top) × Reaches rows top i))

-- a number is noted in some rows
pub record IsNotedFor (signals : List ℕ) (top : ℕ) (old new : List (Vec ℕ Global)) : Type 0 where
  pub size : length new ≡ length old
  pub each : (i t : ℕ) → Among (row new i) t ↔ (Among (row old i) t ⊎ ((t ≡ top) × Among signals i))

-- the rows of the top inputs below a number that signals come from
pub record AreTops (d : Flat) (n : ℕ) (tops : List (Vec ℕ Global)) : Type 0 where
  pub size : length tops ≡ length d.signals
  pub each : (i t : ℕ) → Among (row tops i) t ↔ ((t < n) × ComesFrom d t i)

-- ---- marks

-- some numbers are marked besides those before
pub record AreMarkedAlso (places : List ℕ) (old new : List Bool) : Type 0 where
  pub size : length new ≡ length old
  pub each : (k : ℕ) → slice_index_or new k false ≡ true ↔ ((slice_index_or old k false ≡ true) ⊎ ((k < length old) × Among places k))
