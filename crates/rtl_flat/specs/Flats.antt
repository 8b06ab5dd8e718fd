-- A flat design as contracts see it: three records, each within the next.
-- Worked examples: crates/tests_rows/stdin.
use Rattle.std.specs.Prelude.{ℕ, List, map}
use Rattle.rtl_flat.specs.declared.design.Design.{Design}
use Rattle.rtl_flat.specs.declared.instance.Delay.{Delay}
use Rattle.rtl_flat.specs.declared.instance.DroppedRegion.{DroppedRegion}
use Rattle.rtl_flat.specs.declared.instance.Instance.{Instance}
use Rattle.rtl_flat.specs.declared.note.Note.{Note}
use Rattle.rtl_flat.specs.declared.signal.Signal.{Signal}
use Rattle.rtl_flat.specs.Process.{Task, task}
use Rattle.rtl_flat.specs.Signs.{width_in}

-- the signals and the processes: what the event queue runs, what synthesis takes, and where most rules look
pub record Flat : Type 0 where
  pub signals : List Signal
  pub tasks : List Task

-- besides, what has no meaning in it: delays, regions of the text that synthesis leaves out, and places that other tools read
-- otherwise
pub record Parts : Type 0 where
  pub flat : Flat
  pub delays : List Delay
  pub dropped : List DroppedRegion
  pub notes : List Note

-- besides, the instances by which findings are told: all that a design is made of
pub record DesignParts : Type 0 where
  pub parts : Parts
  pub instances : List Instance

abbrev pub flat : Design → Flat
flat design =
    record { signals = design.signals.items; tasks = map task design.processes.items }

abbrev pub parts : Design → Parts
parts design =
    record { flat = flat design; delays = design.delays.items; dropped = design.dropped.items; notes = design.notes.items }

abbrev pub flat_in : Design → DesignParts
flat_in design = record { parts = parts design; instances = design.instances.items }

-- the widths of the signals
abbrev pub widths : Flat → ℕ → ℕ
widths d = width_in d.signals
