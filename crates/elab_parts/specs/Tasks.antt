-- The processes of the items of a module in an instance, but for the connections of its instances.
-- Worked examples: crates/tests_layers/stdin.
use Rattle.std.specs.Prelude.{ℕ, Bool, true, false, List, [], ◌∷◌, ◌++◌, Option, None, Some}
use Rattle.rtl_tree.specs.TreeExpr.{Identifier, Formula}
use Rattle.rtl_tree.specs.TreeStmt.{Target, Whole, Action, target_place}
use Rattle.rtl_tree.specs.TreeItem.{Net, Drive, Sensitivity, ModuleItem, Ports, Nets, Variables, Integers, Parameters, Drives, Gates, Always, Instances}
use Rattle.rtl_flat.specs.Process.{Actions, Doing, Assign, Comb, Edge', Task, Watched, body_of}
use Rattle.elab_body.specs.elab_scope.Names.{Meanings}
use Rattle.elab_body.specs.elab_scope.Targets.{assigned_context, pieces_of}
use Rattle.elab_body.specs.elab_scope.Trees.{spot_in, tree_of}
use Rattle.elab_body.specs.Acts.{acts}
use Rattle.elab_body.specs.Events.{is_clocked_by, listing_of}
use Rattle.elab_parts.specs.Gates.{assignments_of}

-- a continuous assignment in an instance
abbrev pub assigned_task : ℕ → ℕ → ℕ → Meanings → Target → Formula → Task
assigned_task file base instance scope target value =
    record { does = Assign (pieces_of file base scope target) (tree_of file base scope value (assigned_context scope value target)); instance = instance; spot = spot_in file (target_place target) }

abbrev pub value_tasks : ℕ → ℕ → ℕ → Meanings → Identifier → Option Formula → List Task
value_tasks file base instance scope name None = []
value_tasks file base instance scope name (Some value) =
    assigned_task file base instance scope (Whole name) value ∷ []

abbrev pub net_tasks : ℕ → ℕ → ℕ → Meanings → List Net → List Task
net_tasks file base instance scope [] = []
net_tasks file base instance scope (net ∷ nets) =
    value_tasks file base instance scope net.name net.value ++ net_tasks file base instance scope nets

abbrev pub drive_tasks : ℕ → ℕ → ℕ → Meanings → List Drive → List Task
drive_tasks file base instance scope [] = []
drive_tasks file base instance scope (drive ∷ drives) =
    assigned_task file base instance scope drive.target drive.value ∷ drive_tasks file base instance scope drives

-- what an `always` does: one whose list has an edge waits for its events
abbrev pub waited : Bool → Option (List Watched) → Actions → Doing
waited true (Some events) body = Edge' events body
waited true None body = Comb None body
waited false list body = Comb list body

abbrev pub always_task : ℕ → ℕ → ℕ → Meanings → ℕ → Sensitivity → Action → Task
always_task file base instance scope at sensitivity body =
    record { does = waited (is_clocked_by sensitivity) (listing_of file base scope sensitivity) (body_of (acts file base body scope)); instance = instance; spot = spot_in file at }

-- the processes of an item of a file, where signals of the module are numbered from a base on
abbrev pub item_tasks : ℕ → ℕ → ℕ → Meanings → ModuleItem → List Task
item_tasks file base instance scope (Ports head names) = []
item_tasks file base instance scope (Nets at signed bounds nets) =
    net_tasks file base instance scope nets
item_tasks file base instance scope (Variables at signed bounds variables) = []
item_tasks file base instance scope (Integers at names) = []
item_tasks file base instance scope (Parameters at kind bounds values) = []
item_tasks file base instance scope (Drives at pause drives) =
    drive_tasks file base instance scope drives
item_tasks file base instance scope (Gates at names pause drives) =
    drive_tasks file base instance scope (assignments_of drives)
item_tasks file base instance scope (Always at sensitivity body) =
    always_task file base instance scope at sensitivity body ∷ []
item_tasks file base instance scope (Instances child parameters instantiations) = []
