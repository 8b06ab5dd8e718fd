-- It serves inner contracts and proofs; no answer of the program is stated by it.
-- The tallies from which a simulator begins.
use Rattle.std.specs.Prelude.{◌≡◌, ◌≤◌, ℕ, List, Vec, length, replicate}
use Rattle.std.specs.declared.alloc.Global.{Global}
use Rattle.rtl_bits.specs.declared.Bit.{Bit}
use Rattle.rtl_bits.specs.declared.Bit.TheVariants.{Z}
use Rattle.rtl_flat.specs.declared.signal.Signal.{Signal}
use Rattle.rtl_flat.specs.Signs.{width_in}
use Rattle.rtl_flat.specs.Flats.{Flat}
use Rattle.event_tables.specs.event_tally.declared.tally.Tally.{Tally}
use Rattle.event_tables.specs.event_tally.Tallies.{IsTalliedAt}
use Rattle.event_tables.specs.event_write.QueueState.{AreTallied, row}

-- a row for each signal, no longer than it, that counts no driver
pub record AreReady (signals : List Signal) (rows : List (Vec Tally Global)) : Type 0 where
  pub count : length rows ≡ length signals
  pub inside : (i : ℕ) → length (row rows i) ≤ width_in signals i
  pub none : (i k n : ℕ) → IsTalliedAt (row rows i) k (replicate n Z)

-- a row for each signal, which counts its drivers if it has any tally
pub record AreTallies (d : Flat) (driver : ℕ → List Bit) (rows : List (Vec Tally Global)) : Type 0 where
  pub count : length rows ≡ length d.signals
  pub tallied : AreTallied d driver rows
