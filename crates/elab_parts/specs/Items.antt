-- What the items of a module drive its signals by, but for the connections of its instances: their faults, and the
-- places of their processes (IEEE 1364-2001 sections 6.1 and 9.9).
-- Worked examples: proofs/Examples.antt.
use Rattle.std.specs.Prelude.{ℕ, List, [], ◌∷◌, ◌++◌, map, Option, None, Some}
use Rattle.rtl_tree.specs.TreeExpr.{Identifier, Formula}
use Rattle.rtl_tree.specs.TreeStmt.{Target, Whole, Pause, Action, target_place}
use Rattle.rtl_tree.specs.TreeItem.{Net, Drive, GateDrive, Sensitivity, ModuleItem, Ports, Nets, Variables, Integers, Parameters, Drives, Gates, Always, Instances}
use Rattle.elab_body.specs.elab_scope.declared.rules.Writer.TheVariants as writer
use Rattle.elab_body.specs.elab_scope.Expressions.{faults}
use Rattle.elab_body.specs.elab_scope.Names.{Meanings}
use Rattle.elab_body.specs.elab_scope.Targets.{target_faults}
use Rattle.elab_body.specs.elab_nodes.Totals.{assignment_count, listing_count}
use Rattle.elab_body.specs.Bodies.{pause_steps, steps}
use Rattle.elab_body.specs.Events.{sensitivity_faults}
use Rattle.elab_body.specs.Steps.{Step, Nodes, faulty}
use Rattle.elab_parts.specs.Gates.{assignments_of, terminal_faults}

-- what a continuous assignment comes upon
abbrev pub assignment_steps : Meanings → Target → Formula → List Step
assignment_steps scope target value =
    Nodes (target_place target) (assignment_count scope target value) ∷ faulty (target_faults writer.Continuous scope target) ++ faulty (faults scope value)

-- a net with a value is driven whole (section 6.1.1)
abbrev pub value_steps : Meanings → Identifier → Option Formula → List Step
value_steps scope name None = []
value_steps scope name (Some value) = assignment_steps scope (Whole name) value

abbrev pub net_steps : Meanings → List Net → List Step
net_steps scope [] = []
net_steps scope (net ∷ nets) = value_steps scope net.name net.value ++ net_steps scope nets

-- a delay counts for each of the assignments behind it
abbrev pub drive_steps : Meanings → Option Pause → List Drive → List Step
drive_steps scope pause [] = []
drive_steps scope pause (drive ∷ drives) =
    (pause_steps pause ++ assignment_steps scope drive.target drive.value) ++ drive_steps scope pause drives

-- gates are assignments of terminals that have one bit each; a delay counts for each output
abbrev pub gate_steps : Meanings → Option Pause → List GateDrive → List Step
gate_steps scope pause drives =
    faulty (terminal_faults scope drives) ++ drive_steps scope pause (assignments_of drives)

-- what an `always` comes upon: the nodes of its list, what is wrong with it, and its body
abbrev pub always_steps : Meanings → ℕ → Sensitivity → Action → List Step
always_steps scope at sensitivity body =
    Nodes at (listing_count scope sensitivity) ∷ faulty (sensitivity_faults scope sensitivity) ++ steps body scope

-- the steps of an item
abbrev pub item_steps : Meanings → ModuleItem → List Step
item_steps scope (Ports head names) = []
item_steps scope (Nets at signed bounds nets) = net_steps scope nets
item_steps scope (Variables at signed bounds variables) = []
item_steps scope (Integers at names) = []
item_steps scope (Parameters at kind bounds values) = []
item_steps scope (Drives at pause drives) = drive_steps scope pause drives
item_steps scope (Gates at names pause drives) = gate_steps scope pause drives
item_steps scope (Always at sensitivity body) = always_steps scope at sensitivity body
item_steps scope (Instances child parameters instantiations) = []

abbrev pub items_steps : Meanings → List ModuleItem → List Step
items_steps scope [] = []
items_steps scope (item ∷ items) = item_steps scope item ++ items_steps scope items

abbrev pub value_places : Identifier → Option Formula → List ℕ
value_places name None = []
value_places name (Some value) = name.at ∷ []

abbrev pub net_places : List Net → List ℕ
net_places [] = []
net_places (net ∷ nets) = value_places net.name net.value ++ net_places nets

abbrev pub drive_places : List Drive → List ℕ
drive_places drives = map (λ drive. target_place drive.target) drives

-- the places of the processes of an item: of a net's its name, of an assignment's its target, of a gate's its output, and
-- of an `always` its own
abbrev pub item_places : ModuleItem → List ℕ
item_places (Ports head names) = []
item_places (Nets at signed bounds nets) = net_places nets
item_places (Variables at signed bounds variables) = []
item_places (Integers at names) = []
item_places (Parameters at kind bounds values) = []
item_places (Drives at pause drives) = drive_places drives
item_places (Gates at names pause drives) = drive_places (assignments_of drives)
item_places (Always at sensitivity body) = at ∷ []
item_places (Instances child parameters instantiations) = []

abbrev pub items_places : List ModuleItem → List ℕ
items_places [] = []
items_places (item ∷ items) = item_places item ++ items_places items
