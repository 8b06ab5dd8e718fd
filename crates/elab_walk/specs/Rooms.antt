-- How far instances go towards the limits on the size of a design.
-- Worked examples: proofs/Examples.antt.
use Rattle.std.specs.Prelude.{ℕ, zero, suc, ◌+◌, ◌-◌, nat_le, nat_lt, Bool, ◌&&◌, if◌then◌else◌, List, [], ◌∷◌, ◌++◌, length, Option, None, Some}
use Rattle.std.specs.List.{slice_get}
use Rattle.rtl_tree.specs.TreeExpr.{Formula}
use Rattle.rtl_tree.specs.TreeItem.{ModuleItem, Ports, Nets, Variables, Integers, Parameters, Drives, Gates, Always, Instances, Association, ByPosition, ByName, Associated, Positional, Instantiation}
use Rattle.rtl_tree.specs.TreeModule.{Circuit}
use Rattle.elab_links.specs.elab_scope.Faults.{Refusal, TooLarge}
use Rattle.elab_links.specs.elab_scope.Names.{Meanings}
use Rattle.elab_links.specs.elab_scope.Rules.{fault}
use Rattle.elab_parts.specs.elab_body.Steps.{Step, delays_of, faulty}
use Rattle.elab_links.specs.elab_items.Scopes.{listings_of}
use Rattle.elab_parts.specs.elab_body.Faultless.{node_total, statement_count}
use Rattle.elab_links.specs.Instances.{link_faults}
use Rattle.elab_parts.specs.Items.{item_places, item_steps}
use Rattle.elab_walk.specs.declared.places.Seek.{Seek}
use Rattle.elab_walk.specs.declared.places.Seek.TheVariants.{Found, Left}
use Rattle.elab_walk.specs.declared.room.Room.{Room}
use Rattle.elab_walk.specs.Links.{link_steps}
use Rattle.elab_walk.specs.Visits.{Library, Visit, scope_in}

-- ---- processes

-- an empty argument connects nothing
abbrev pub argument_places : ℕ → Option Formula → List ℕ
argument_places at None = []
argument_places at (Some value) = at ∷ []

abbrev pub ordered_places : List Positional → List ℕ
ordered_places [] = []
ordered_places (first ∷ others) = argument_places first.at first.value ++ ordered_places others

abbrev pub named_places : List Associated → List ℕ
named_places [] = []
named_places (first ∷ others) = argument_places first.at first.value ++ named_places others

abbrev pub connection_places : Association → List ℕ
connection_places (ByPosition arguments) = ordered_places arguments
connection_places (ByName arguments) = named_places arguments

abbrev pub instantiation_places : List Instantiation → List ℕ
instantiation_places [] = []
instantiation_places (first ∷ others) = connection_places first.connections ++ instantiation_places others

-- the places of the connections of an item's instances: each that has an argument is a process
abbrev pub link_places : ModuleItem → List ℕ
link_places (Instances child parameters instantiations) = instantiation_places instantiations
link_places (Ports head names) = []
link_places (Nets at signed bounds nets) = []
link_places (Variables at signed bounds variables) = []
link_places (Integers at names) = []
link_places (Parameters at kind bounds values) = []
link_places (Drives at pause drives) = []
link_places (Gates at names pause drives) = []
link_places (Always at sensitivity body) = []

-- the places of the processes of items, in order
abbrev pub process_places : List ModuleItem → List ℕ
process_places [] = []
process_places (first ∷ others) = (item_places first ++ link_places first) ++ process_places others

-- ---- statements, delays and nodes of expressions

-- what is come upon in an item, where `way` has the names of the modules from the top to the one that holds it
abbrev pub part_steps : Library → List (List ℕ) → Meanings → ModuleItem → List Step
part_steps library way scope item =
    item_steps scope item
    ++ link_steps library scope item
    ++ faulty (link_faults library.lookups library.files way scope item)

-- and in items, in order
abbrev pub parts_steps : Library → List (List ℕ) → Meanings → List ModuleItem → List Step
parts_steps library way scope [] = []
parts_steps library way scope (first ∷ others) =
    part_steps library way scope first ++ parts_steps library way scope others

-- and in an instance
abbrev pub visit_steps : Library → Visit → List Step
visit_steps library v = parts_steps library v.way (scope_in v) v.circuit.items

-- ---- extras: what an instance has that is no signal, no process and no statement

-- each `parameter`, `localparam` and `integer` of an item
abbrev pub item_extras : ModuleItem → ℕ
item_extras (Parameters at kind bounds values) = length values
item_extras (Ports head names) = 0
item_extras (Nets at signed bounds nets) = 0
item_extras (Variables at signed bounds variables) = 0
item_extras (Integers at names) = length names
item_extras (Drives at pause drives) = 0
item_extras (Gates at names pause drives) = 0
item_extras (Always at sensitivity body) = 0
item_extras (Instances child parameters instantiations) = 0

abbrev pub items_extras : List ModuleItem → ℕ
items_extras [] = 0
items_extras (first ∷ others) = item_extras first + items_extras others

-- those of a module's head and of its items, and the regions that were dropped in it
abbrev pub extra_count : Circuit → ℕ
extra_count circuit = length circuit.parameters + (length circuit.dropped + items_extras circuit.items)

-- ---- limits

-- a design has at most 20,000 instances, 200,000 extras in all of them, 20,000 signals, 20,000 processes, 100,000
-- statements, 100,000 delays and 2,000,000 nodes of expressions
abbrev pub whole_room : Room
whole_room =
    record {
      base = 0;
      processes = 20000;
      left = record { statements = 100000; delays = 100000; nodes = 2000000 };
      number = 0;
      extras = 200000;
    }

-- what an instance leaves
abbrev pub room_after : Library → Room → Visit → Room
room_after library room v =
    record {
      base = room.base + length (listings_of v.settings v.circuit);
      processes = room.processes - length (process_places v.circuit.items);
      left = record {
        statements = room.left.statements - statement_count (visit_steps library v);
        delays = room.left.delays - length (delays_of (visit_steps library v));
        nodes = room.left.nodes - node_total (visit_steps library v);
      };
      number = room.number + 1;
      extras = room.extras - extra_count v.circuit;
    }

-- whether a design has room for one instance more, of this module
abbrev pub has_room : Room → Circuit → Bool
has_room room circuit =
    nat_lt room.number 20000 && nat_le (extra_count circuit) room.extras

-- a process that is one too many
abbrev pub surplus : Option ℕ → List Refusal
surplus None = []
surplus (Some at) = fault at TooLarge ∷ []

-- where a design may have so many processes more
abbrev pub process_faults : ℕ → List ℕ → List Refusal
process_faults most places = surplus (slice_get places most)

-- the same one place after the other: a place is found, or so many may still come
abbrev pub sought : ℕ → List ℕ → Seek
sought most [] = Left most
sought zero (first ∷ others) = Found first
sought (suc most) (first ∷ others) = sought most others

abbrev pub sought_on : Seek → List ℕ → Seek
sought_on (Found at) places = Found at
sought_on (Left most) places = sought most places

-- the place that is found
abbrev pub place_of : Seek → Option ℕ
place_of (Found at) = Some at
place_of (Left most) = None
