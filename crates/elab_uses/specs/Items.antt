-- The expressions of the items of a module as they are used, in their order, but for those of declarations and of
-- instances (IEEE 1364-2001 sections 6.1 and 9.9).
-- Worked examples: proofs/Examples.antt.
use Rattle.std.specs.Prelude.{List, [], ◌∷◌, ◌++◌, Option, None, Some}
use Rattle.rtl_tree.specs.TreeExpr.{Identifier, Formula}
use Rattle.rtl_tree.specs.TreeStmt.{Target, Whole}
use Rattle.rtl_tree.specs.TreeItem.{Net, Drive, GateDrive, Happening, Edge, Change, ChangeBit, ChangePart, Sensitivity, Star, StarInParens, Listed, ModuleItem, Ports, Nets, Variables, Integers, Parameters, Drives, Gates, Always, Instances}
use Rattle.elab_standard.specs.Scopes.{Scopes}
use Rattle.elab_standard.specs.Uses.{Number, Value}
use Rattle.elab_uses.specs.Bodies.{Uses, assignment_uses, body_uses, index_use, number_in, target_uses}

-- a net with a value is driven whole (section 6.1.1)
abbrev pub value_uses : Scopes → Identifier → Option Formula → Uses
value_uses s name None = []
value_uses s name (Some value) = assignment_uses s (Whole name) value

abbrev pub net_uses : Scopes → List Net → Uses
net_uses s [] = []
net_uses s (net ∷ nets) = value_uses s net.name net.value ++ net_uses s nets

-- continuous assignments; their delays are dropped
abbrev pub drive_uses : Scopes → List Drive → Uses
drive_uses s [] = []
drive_uses s (drive ∷ drives) = assignment_uses s drive.target drive.value ++ drive_uses s drives

abbrev pub output_uses : Scopes → List Target → Uses
output_uses s [] = []
output_uses s (output ∷ outputs) = target_uses s output ++ output_uses s outputs

-- what a gate drives: the outputs, and for all of them the value once, which is given to a bit
abbrev pub gate_use : Scopes → GateDrive → Uses
gate_use s drive = output_uses s drive.outputs ++ (s, Value drive.value 1) ∷ []

abbrev pub gate_uses : Scopes → List GateDrive → Uses
gate_uses s [] = []
gate_uses s (drive ∷ drives) = gate_use s drive ++ gate_uses s drives

-- the index or the ends of a part that a process waits for
abbrev pub happening_uses : Scopes → Happening → Uses
happening_uses s (Edge edge at name) = []
happening_uses s (Change name) = []
happening_uses s (ChangeBit name index) = (s, index_use (number_in s index) index) ∷ []
happening_uses s (ChangePart name msb lsb) = (s, Number msb) ∷ (s, Number lsb) ∷ []

abbrev pub list_uses : Scopes → List Happening → Uses
list_uses s [] = []
list_uses s (first ∷ others) = happening_uses s first ++ list_uses s others

abbrev pub sensitivity_uses : Scopes → Sensitivity → Uses
sensitivity_uses s Star = []
sensitivity_uses s StarInParens = []
sensitivity_uses s (Listed happenings) = list_uses s happenings

-- those of an item
unfoldable pub item_uses : Scopes → ModuleItem → Uses
item_uses s (Ports head names) = []
item_uses s (Nets at signed bounds nets) = net_uses s nets
item_uses s (Variables at signed bounds variables) = []
item_uses s (Integers at names) = []
item_uses s (Parameters at kind bounds values) = []
item_uses s (Drives at pause drives) = drive_uses s drives
item_uses s (Gates at names pause drives) = gate_uses s drives
item_uses s (Always at sensitivity body) = sensitivity_uses s sensitivity ++ body_uses body s
item_uses s (Instances child parameters instantiations) = []
