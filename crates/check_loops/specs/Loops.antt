-- The processes on a cycle of the level graph.
use Rattle.std.specs.Prelude.{ℕ, suc, ◌≡◌, ◌<◌, ◌↔◌, Bool, true, false, List, length, slice_index_or}
use Rattle.rtl_flat.specs.declared.signal.Signal.{Signal}
use Rattle.rtl_flat.specs.Levels.{Chain, IsArrow}
use Rattle.rtl_flat.specs.Process.{Task}

-- a chain of one or more arrows leads from a process back to it
abbrev pub IsOnLevelCycle : List Signal → List Task → ℕ → Type 0
IsOnLevelCycle signals tasks p =
    (round : ℕ) × Chain (IsArrow signals tasks) (suc round) p p

-- whether each process is on a cycle
pub record AreLevelLoops (signals : List Signal) (tasks : List Task) (answers : List Bool) : Type 0 where
  pub same_length : length answers ≡ length tasks
  pub each : (p : ℕ) → p < length tasks → slice_index_or answers p false ≡ true ↔ IsOnLevelCycle signals tasks p
