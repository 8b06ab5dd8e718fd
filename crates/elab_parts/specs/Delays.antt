-- The delays of the items of a module, each with the process that it stands in.
-- Worked examples: proofs/Examples.antt.
use Rattle.std.specs.Prelude.{ℕ, zero, suc, ◌+◌, length, List, [], ◌∷◌, map, Option, None, Some}
use Rattle.rtl_tree.specs.TreeStmt.{Pause}
use Rattle.rtl_tree.specs.TreeItem.{Drive, ModuleItem, Ports, Nets, Variables, Integers, Parameters, Drives, Gates, Always, Instances}
use Rattle.rtl_flat.specs.declared.instance.Delay.{Delay}
use Rattle.elab_body.specs.elab_scope.Names.{Meanings}
use Rattle.elab_body.specs.elab_scope.Trees.{spot_in}
use Rattle.elab_body.specs.Bodies.{steps}
use Rattle.elab_body.specs.Steps.{delays_of}
use Rattle.elab_parts.specs.Gates.{assignments_of}

-- a delay of a process, by its number, at a place of a file
abbrev pub delay_in : ℕ → ℕ → ℕ → Delay
delay_in file process at = record { process = record { 0 = process }; spot = spot_in file at }

-- the same delay in so many processes in a row
abbrev pub repeated : ℕ → ℕ → ℕ → ℕ → List Delay
repeated file process at zero = []
repeated file process at (suc more) =
    delay_in file process at ∷ repeated file (process + 1) at more

-- a delay counts for each of the assignments behind it
abbrev pub drive_delays : ℕ → ℕ → Option Pause → List Drive → List Delay
drive_delays file process None drives = []
drive_delays file process (Some pause) drives =
    repeated file process pause.at (length drives)

-- the delays of an item of a file whose first process has this number; those of a body after its unrolling
abbrev pub item_delays : ℕ → ℕ → Meanings → ModuleItem → List Delay
item_delays file process scope (Ports head names) = []
item_delays file process scope (Nets at signed bounds nets) = []
item_delays file process scope (Variables at signed bounds variables) = []
item_delays file process scope (Integers at names) = []
item_delays file process scope (Parameters at kind bounds values) = []
item_delays file process scope (Drives at pause drives) = drive_delays file process pause drives
item_delays file process scope (Gates at names pause drives) =
    drive_delays file process pause (assignments_of drives)
item_delays file process scope (Always at sensitivity body) =
    map (delay_in file process) (delays_of (steps body scope))
item_delays file process scope (Instances child parameters instantiations) = []
