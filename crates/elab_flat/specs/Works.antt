-- The processes of a design with their delays, by instance and in the order of the items.
-- Worked examples: proofs/Examples.antt.
use Rattle.std.specs.Prelude.{ℕ, List, [], ◌∷◌, ◌++◌, drop, length, Option, None, Some}
use Rattle.rtl_tree.specs.TreeItem.{ModuleItem, Instantiation}
use Rattle.rtl_flat.specs.declared.instance.Delay.{Delay}
use Rattle.rtl_flat.specs.Process.{Task}
use Rattle.elab_walk.specs.elab_scope.Names.{Meanings}
use Rattle.elab_walk.specs.elab_items.Scopes.{scope_of}
use Rattle.elab_walk.specs.elab_links.Groups.{Group, group_of}
use Rattle.elab_walk.specs.elab_links.Ports.{Sockets, sockets_of}
use Rattle.elab_walk.specs.elab_parts.Delays.{item_delays}
use Rattle.elab_walk.specs.elab_parts.Tasks.{item_tasks}
use Rattle.elab_flat.specs.Links.{Sides, link_tasks}
use Rattle.elab_walk.specs.Placements.{Placement}
use Rattle.elab_walk.specs.Visits.{Library, scope_in}
use Rattle.elab_flat.specs.Held.{bases_under, depth_of}

-- the first of some numbers; 0 where there is none
abbrev pub first_base : List ℕ → ℕ
first_base [] = 0
first_base (base ∷ bases) = base

-- both sides of the connections of an instance that has so many signals before its own
abbrev pub sides_of : Placement → Meanings → ℕ → Sides
sides_of placement inner inner_base =
    record {
      file = placement.visit.place.file;
      base = placement.base;
      scope = scope_in placement.visit;
      instance = placement.number;
      inner_base = inner_base;
      inner = inner;
    }

-- the connections of instances in a row, where `bases` has of each how many signals come before its own
abbrev pub instantiations_tasks : Placement → Sockets → Meanings → List ℕ → List Instantiation → List Task
instantiations_tasks placement ports inner bases [] = []
instantiations_tasks placement ports inner bases (first ∷ others) =
    link_tasks ports (sides_of placement inner (first_base bases)) first.connections
    ++ instantiations_tasks placement ports inner (drop 1 bases) others

-- the connections of instances of one module with the same parameters
abbrev pub group_tasks : Placement → List ℕ → Option Group → List Task
group_tasks placement bases None = []
group_tasks placement bases (Some group) =
    instantiations_tasks placement (sockets_of group.circuit) (scope_of group.settings group.circuit) bases group.instantiations

-- how many instances an item places
abbrev pub placed : Option Group → ℕ
placed None = 0
placed (Some group) = length group.instantiations

abbrev pub group_in : Library → Placement → ModuleItem → Option Group
group_in library placement item =
    group_of library.lookups library.files (scope_in placement.visit) item

-- the processes of an item: those of connections belong to the instance that holds the item
abbrev pub part_tasks : Library → Placement → List ℕ → ModuleItem → List Task
part_tasks library placement bases item =
    item_tasks placement.visit.place.file placement.base placement.number (scope_in placement.visit) item
    ++ group_tasks placement bases (group_in library placement item)

-- processes, and the delays in them
pub record Works : Type 0 where
  pub tasks : List Task
  pub delays : List Delay

abbrev pub no_works : Works
no_works = record { tasks = []; delays = [] }

-- those of an item more: its processes are numbered behind the others
abbrev pub with_part : Library → Placement → List ℕ → Works → ModuleItem → Works
with_part library placement bases works item =
    record {
      tasks = works.tasks ++ part_tasks library placement bases item;
      delays = works.delays ++ item_delays placement.visit.place.file (length works.tasks) (scope_in placement.visit) item;
    }

-- those of items, where `bases` has of each instance that they place how many signals come before its own
abbrev pub with_parts : Library → Placement → List ℕ → Works → List ModuleItem → Works
with_parts library placement bases works [] = works
with_parts library placement bases works (first ∷ others) =
    with_parts library placement (drop (placed (group_in library placement first)) bases) (with_part library placement bases works first) others

-- those of an instance, where `behind` has the instances behind it
abbrev pub with_placement : Library → Works → Placement → List Placement → Works
with_placement library works placement behind =
    with_parts library placement (bases_under (depth_of placement) behind) works placement.visit.circuit.items

-- those of instances in a row
abbrev pub with_placements : Library → Works → List Placement → Works
with_placements library works [] = works
with_placements library works (first ∷ others) =
    with_placements library (with_placement library works first others) others
