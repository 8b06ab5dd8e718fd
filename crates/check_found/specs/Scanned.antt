-- It serves inner contracts and proofs; no answer of the program is stated by it.
-- Sets of bits that are kept for all processes of a design.
use Rattle.std.specs.Prelude.{ℕ, ◌≡◌, ◌↔◌, true, List, length, Some}
use Rattle.std.specs.List.{slice_get}
use Rattle.rtl_flat.specs.Flows.{flow_of}
use Rattle.rtl_flat.specs.PathSets.{IsTemporary, listed}
use Rattle.rtl_flat.specs.Paths.{BitSet, reads_outside}
use Rattle.rtl_flat.specs.Process.{Task}
use Rattle.rtl_rule.specs.Parts.{written}
use Rattle.rtl_flat.specs.Flats.{Flat, flat, widths}
use Rattle.rtl_scan.specs.declared.bits.Bits.{Bits}
use Rattle.rtl_scan.specs.Sets.{IsInOrder, has_rows}
use Rattle.check_found.specs.declared.scans.Scans.{Scans}

-- what is asked of a process: the bits that it may write, those that it reads before it has written them, and those that
-- it lists
pub data Asked : Type 0 where
  Written : Asked
  Outside : Asked
  Listed : Asked

-- the bits that are asked of a process
abbrev pub set_of : Flat → Asked → Task → BitSet
set_of d Written task = written d task.does
set_of d Outside task = reads_outside (flow_of (widths d) task.does)
set_of d Listed task = listed (widths d) task.does

-- they are kept in order
pub record IsSet (d : Flat) (asked : Asked) (p : ℕ) (found : Bits) : Type 0 where
  pub bits : (task : Task) → slice_get d.tasks p ≡ Some task → (s k : ℕ) → has_rows found.rows.items s k ≡ set_of d asked task s k
  pub order : IsInOrder found.rows.items

-- those of the processes below a number
pub record AreSets (d : Flat) (asked : Asked) (n : ℕ) (sets : List Bits) : Type 0 where
  pub many : length sets ≡ n
  pub each : (p : ℕ) (found : Bits) → slice_get sets p ≡ Some found → IsSet d asked p found

-- all that is kept of a design
pub record AreScans (scans : Scans) : Type 0 where
  pub written : AreSets (flat scans.design.now) Written (length scans.design.now.processes.items) scans.written.items
  pub outside : AreSets (flat scans.design.now) Outside (length scans.design.now.processes.items) scans.outside.items
  pub listed : AreSets (flat scans.design.now) Listed (length scans.design.now.processes.items) scans.listed.items
  pub temporaries :
      (s : ℕ) → slice_get scans.temporaries.items s ≡ Some true ↔ IsTemporary (flat scans.design.now).signals (flat scans.design.now).tasks s
