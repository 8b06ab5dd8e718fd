-- What other tools read otherwise in a design: in the text of each instance's module, with what the instance sets its
-- parameters to (IEEE 1364-2001 section 12.2), and in the connections of its ports in the module that holds it.
-- Worked examples: crates/tests_rows/stdin.
use Rattle.std.specs.Prelude.{ℕ, ◌+◌, List, [], ◌∷◌, ◌++◌, drop, map, Option, None, Some}
use Rattle.std.specs.List.{flat_map}
use Rattle.name_map.specs.Values.{Values, entered, no_values}
use Rattle.rtl_tree.specs.TreeItem.{ModuleItem, Ports, Nets, Variables, Integers, Parameters, Drives, Gates, Always, Instances, Association, Instantiation}
use Rattle.rtl_tree.specs.TreeModule.{Circuit}
use Rattle.rtl_flat.specs.declared.note.Note.{Note}
use Rattle.elab_uses.specs.elab_items.Declarations.{Declaration, ParameterRange, Parameter, SignalRange, Listed, Signal, Integer, Instance, declarations}
use Rattle.elab_uses.specs.elab_items.Scopes.{listings_of}
use Rattle.elab_uses.specs.elab_links.Parameters.{settable}
use Rattle.elab_uses.specs.elab_links.Ports.{port_names}
use Rattle.elab_uses.specs.elab_walk.Placements.{Placement}
use Rattle.elab_uses.specs.elab_walk.Visits.{scope_in}
use Rattle.elab_uses.specs.elab_standard.declared.standard.Standard.{Standard}
use Rattle.elab_uses.specs.elab_standard.declared.uses.Home.{Home}
use Rattle.elab_uses.specs.elab_standard.Declarations.{declared_notes, setting_notes}
use Rattle.elab_uses.specs.elab_standard.Scopes.{Scopes}
use Rattle.elab_uses.specs.elab_standard.Standards.{given_by, scopes_of}
use Rattle.elab_uses.specs.Bodies.{notes_in}
use Rattle.elab_uses.specs.Items.{item_uses}
use Rattle.elab_readings.specs.Connections.{Ends, Holder, connection_notes}
use Rattle.elab_readings.specs.Signs.{sign_notes}

-- ---- what instances have from those that hold them

-- an instance that an item places: the parameters that the item sets, and its own connections
pub record Below : Type 0 where
  pub parameters : Association
  pub connections : Association

abbrev pub below_one : Association → Instantiation → Below
below_one parameters instantiation =
    record { parameters = parameters; connections = instantiation.connections }

abbrev pub item_below : ModuleItem → List Below
item_below (Instances child parameters instantiations) = map (below_one parameters) instantiations
item_below (Ports head names) = []
item_below (Nets at signed bounds nets) = []
item_below (Variables at signed bounds variables) = []
item_below (Integers at names) = []
item_below (Parameters at kind bounds values) = []
item_below (Drives at pause drives) = []
item_below (Gates at names pause drives) = []
item_below (Always at sensitivity body) = []

-- the same, and the instance that holds it
pub record Above : Type 0 where
  pub holder : Holder
  pub below : Below

abbrev pub above_of : Holder → Below → Above
above_of holder below = record { holder = holder; below = below }

-- ---- an instance

abbrev pub home_at : Placement → Home
home_at placement = record { file = placement.visit.place.file; instance = placement.number }

-- what its parameters are set to by the standard; no one sets those of the top
abbrev pub given_to : Option Above → Circuit → Values Standard
given_to None circuit = no_values
given_to (Some above) circuit =
    given_by (settable (declarations circuit)) above.holder.scopes above.below.parameters

-- what the names of its module stand for
abbrev pub scopes_at : Option Above → Placement → Scopes
scopes_at above placement =
    scopes_of (scope_in placement.visit) (given_to above placement.visit.circuit) placement.visit.circuit

abbrev pub with_place : Values ℕ → Declaration → Values ℕ
with_place places (Parameter kind name value) = entered places name.text name.at
with_place places (ParameterRange bounds) = places
with_place places (SignalRange bounds) = places
with_place places (Listed name) = places
with_place places (Signal form signed name) = places
with_place places (Integer name) = places
with_place places (Instance name) = places

abbrev pub with_places : Values ℕ → List Declaration → Values ℕ
with_places places [] = places
with_places places (first ∷ others) = with_places (with_place places first) others

-- where the parameters of a module are declared
abbrev pub parameter_places : Circuit → Values ℕ
parameter_places circuit = with_places no_values (declarations circuit)

abbrev pub holder_at : Scopes → Placement → Holder
holder_at s placement =
    record { home = home_at placement; scopes = s; places = parameter_places placement.visit.circuit }

-- what the instances have from it that it holds, in their order
abbrev pub above_in : Scopes → Placement → List Above
above_in s placement =
    map (above_of (holder_at s placement)) (flat_map item_below placement.visit.circuit.items)

-- the notes of its declarations
abbrev pub own_notes : Option Above → Placement → List Note
own_notes above placement =
    sign_notes (home_at placement) placement.base (scope_in placement.visit) (listings_of placement.visit.settings placement.visit.circuit) (declarations placement.visit.circuit)
    ++ declared_notes (home_at placement) (scopes_at above placement) (given_to above placement.visit.circuit) placement.visit.circuit

-- those of an item
abbrev pub item_notes : Home → Scopes → ModuleItem → List Note
item_notes home s item = notes_in home (item_uses s item)

-- those of what it is given, which stand in the module that holds it
abbrev pub ends_of : Holder → Placement → Scopes → Ends
ends_of holder placement s = record { holder = holder; base = placement.base; inner = s.scope }

abbrev pub held_notes : Option Above → Placement → Scopes → List Note
held_notes None placement s = []
held_notes (Some above) placement s =
    setting_notes above.holder.home above.holder.scopes s.scope placement.visit.circuit above.below.parameters
    ++ connection_notes (port_names placement.visit.circuit.header) (ends_of above.holder placement s) above.below.connections

-- all of an instance
abbrev pub placement_notes : Option Above → Placement → List Note
placement_notes above placement =
    own_notes above placement
    ++ flat_map (item_notes (home_at placement) (scopes_at above placement)) placement.visit.circuit.items
    ++ held_notes above placement (scopes_at above placement)

-- ---- the instances of a design

-- what the next instance has from above, where that of all that are still to come is in their order; the top has nothing
abbrev pub next_of : List Above → Option Above
next_of [] = None
next_of (next ∷ others) = Some next

-- an instance comes before those that it holds, and these come before all that were still to come
abbrev pub coming : List Above → Placement → List Above
coming above placement = above_in (scopes_at (next_of above) placement) placement ++ drop 1 above

abbrev pub notes_from : List Above → List Placement → List Note
notes_from above [] = []
notes_from above (first ∷ others) =
    placement_notes (next_of above) first ++ notes_from (coming above first) others

-- those of instances, each before those that it holds: all that the items of each place are there, in their order
abbrev pub notes_of : List Placement → List Note
notes_of placements = notes_from [] placements
