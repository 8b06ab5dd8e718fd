-- The processes of an item stand at its places, and its delays are those that its steps count.
use Rattle.std.specs.Prelude.{ℕ, ◌+◌, length, List, [], ◌∷◌, ◌++◌, map, Option, None, Some}
use Rattle.std.proofs.Common.{◌≡◌, ◌∙◌, ap, refl, sym}
use Rattle.std.proofs.lemmas.List.{map-append}
use Rattle.text_ground.specs.declared.text.Spot.{Spot}
use Rattle.rtl_tree.specs.TreeExpr.{Identifier, Formula}
use Rattle.rtl_tree.specs.TreeStmt.{Target, Pause, Whole}
use Rattle.rtl_tree.specs.TreeItem.{Net, Drive, ModuleItem, Ports, Nets, Variables, Integers, Parameters, Drives, Gates, Always, Instances}
use Rattle.rtl_flat.specs.declared.instance.Delay.{Delay}
use Rattle.rtl_flat.specs.Process.{Task}
use Rattle.elab_body.specs.elab_scope.declared.rules.Writer.TheVariants as writer
use Rattle.elab_body.specs.elab_scope.Expressions.{faults}
use Rattle.elab_body.specs.elab_scope.Names.{Meanings}
use Rattle.elab_body.specs.elab_scope.Targets.{target_faults}
use Rattle.elab_body.specs.elab_scope.Trees.{spot_in}
use Rattle.elab_body.specs.Bodies.{steps}
use Rattle.elab_body.specs.Events.{sensitivity_faults}
use Rattle.elab_body.specs.Steps.{Step, delays_of, faulty}
use Rattle.elab_parts.specs.Delays.{delay_in, item_delays, repeated}
use Rattle.elab_parts.specs.Gates.{assignments_of, terminal_faults}
use Rattle.elab_parts.specs.Items.{assignment_steps, drive_places, drive_steps, item_places, item_steps, net_places, net_steps, value_places, value_steps}
use Rattle.elab_parts.specs.Tasks.{drive_tasks, item_tasks, net_tasks, value_tasks}
use Rattle.elab_parts.proofs.Pausing.{behind_faults, no_pauses, pauses_append}

abbrev spots : List Task → List Spot
spots tasks = map (λ task. task.spot) tasks

abbrev at_places : ℕ → List ℕ → List Spot
at_places file places = map (spot_in file) places

value_spots : (file base instance : ℕ) (scope : Meanings) (name : Identifier) (value : Option Formula) → spots (value_tasks file base instance scope name value) ≡ at_places file (value_places name value)
value_spots file base instance scope name None = refl
value_spots file base instance scope name (Some value) = refl

net_spots : (file base instance : ℕ) (scope : Meanings) (nets : List Net) → spots (net_tasks file base instance scope nets) ≡ at_places file (net_places nets)
net_spots file base instance scope [] = refl
net_spots file base instance scope (net ∷ nets) =
    map-append (λ (task : Task). task.spot) (value_tasks file base instance scope net.name net.value) (net_tasks file base instance scope nets)
    ∙ ap (λ xs. xs ++ spots (net_tasks file base instance scope nets)) (value_spots file base instance scope net.name net.value)
    ∙ ap (λ xs. at_places file (value_places net.name net.value) ++ xs) (net_spots file base instance scope nets)
    ∙ sym (map-append (spot_in file) (value_places net.name net.value) (net_places nets))

drive_spots : (file base instance : ℕ) (scope : Meanings) (drives : List Drive) → spots (drive_tasks file base instance scope drives) ≡ at_places file (drive_places drives)
drive_spots file base instance scope [] = refl
drive_spots file base instance scope (drive ∷ drives) =
    ap (λ xs. at_places file (drive_places (drive ∷ [])) ++ xs) (drive_spots file base instance scope drives)

-- the processes of an item stand at its places, in the same order
pub task_spots : (file base instance : ℕ) (scope : Meanings) (item : ModuleItem) → spots (item_tasks file base instance scope item) ≡ at_places file (item_places item)
task_spots file base instance scope (Ports head names) = refl
task_spots file base instance scope (Nets at signed bounds nets) =
    net_spots file base instance scope nets
task_spots file base instance scope (Variables at signed bounds variables) = refl
task_spots file base instance scope (Integers at names) = refl
task_spots file base instance scope (Parameters at kind bounds values) = refl
task_spots file base instance scope (Drives at pause drives) =
    drive_spots file base instance scope drives
task_spots file base instance scope (Gates at names pause drives) =
    drive_spots file base instance scope (assignments_of drives)
task_spots file base instance scope (Always at sensitivity body) = refl
task_spots file base instance scope (Instances child parameters instantiations) = refl

abbrev places : List Delay → List ℕ
places delays = map (λ delay. delay.spot.at) delays

-- an assignment alone has no delay
quiet_assignment : (scope : Meanings) (target : Target) (value : Formula) (ys : List Step) → delays_of (assignment_steps scope target value ++ ys) ≡ delays_of ys
quiet_assignment scope target value ys =
    let own : List Step = faulty (target_faults writer.Continuous scope target) in
    pauses_append (own ++ faulty (faults scope value)) ys
    ∙ ap (λ xs. xs ++ delays_of ys) (behind_faults (target_faults writer.Continuous scope target) (faulty (faults scope value)) ∙ no_pauses (faults scope value))

quiet_value : (scope : Meanings) (name : Identifier) (value : Option Formula) (ys : List Step) → delays_of (value_steps scope name value ++ ys) ≡ delays_of ys
quiet_value scope name None ys = refl
quiet_value scope name (Some value) ys = quiet_assignment scope (Whole name) value ys

quiet_nets : (scope : Meanings) (nets : List Net) → delays_of (net_steps scope nets) ≡ []
quiet_nets scope [] = refl
quiet_nets scope (net ∷ nets) =
    quiet_value scope net.name net.value (net_steps scope nets) ∙ quiet_nets scope nets

quiet_drives : (scope : Meanings) (drives : List Drive) → delays_of (drive_steps scope None drives) ≡ []
quiet_drives scope [] = refl
quiet_drives scope (drive ∷ drives) =
    quiet_assignment scope drive.target drive.value (drive_steps scope None drives) ∙ quiet_drives scope drives

drives_paused : (file process : ℕ) (scope : Meanings) (pause : Pause) (drives : List Drive) → places (repeated file process pause.at (length drives)) ≡ delays_of (drive_steps scope (Some pause) drives)
drives_paused file process scope pause [] = refl
drives_paused file process scope pause (drive ∷ drives) =
    ap (λ xs. pause.at ∷ xs) (drives_paused file (process + 1) scope pause drives)
    ∙ sym (ap (λ xs. pause.at ∷ xs) (quiet_assignment scope drive.target drive.value (drive_steps scope (Some pause) drives)))

places_of : (file process : ℕ) (all : List ℕ) → places (map (delay_in file process) all) ≡ all
places_of file process [] = refl
places_of file process (at ∷ all) = ap (λ xs. at ∷ xs) (places_of file process all)

-- the delays of an item are those that its steps count, in the same order
pub delay_places : (file process : ℕ) (scope : Meanings) (item : ModuleItem) → places (item_delays file process scope item) ≡ delays_of (item_steps scope item)
delay_places file process scope (Ports head names) = refl
delay_places file process scope (Nets at signed bounds nets) = sym (quiet_nets scope nets)
delay_places file process scope (Variables at signed bounds variables) = refl
delay_places file process scope (Integers at names) = refl
delay_places file process scope (Parameters at kind bounds values) = refl
delay_places file process scope (Drives at None drives) = sym (quiet_drives scope drives)
delay_places file process scope (Drives at (Some pause) drives) =
    drives_paused file process scope pause drives
delay_places file process scope (Gates at names None drives) =
    sym
    (behind_faults (terminal_faults scope drives) (drive_steps scope None (assignments_of drives))
    ∙ quiet_drives scope (assignments_of drives))
delay_places file process scope (Gates at names (Some pause) drives) =
    drives_paused file process scope pause (assignments_of drives)
    ∙ sym (behind_faults (terminal_faults scope drives) (drive_steps scope (Some pause) (assignments_of drives)))
delay_places file process scope (Always at sensitivity body) =
    places_of file process (delays_of (steps body scope))
    ∙ sym (behind_faults (sensitivity_faults scope sensitivity) (steps body scope))
delay_places file process scope (Instances child parameters instantiations) = refl
