-- The instances of a design: its top and all that it holds, each before those that it holds itself (IEEE 1364-2001
-- sections 12.1 and 12.4).
-- Worked examples: proofs/Examples.antt.
use Rattle.std.specs.Prelude.{ℕ, zero, suc, List, [], ◌∷◌, ◌++◌, map, Option, None, Some}
use Rattle.std.specs.List.{flat_map}
use Rattle.text_ground.specs.declared.text.Spot.{Spot}
use Rattle.rtl_tree.specs.TreeItem.{ModuleItem, Ports, Nets, Variables, Integers, Parameters, Drives, Gates, Always, Instances, Instantiation}
use Rattle.rtl_tree.specs.TreeModule.{Circuit, circuit}
use Rattle.elab_links.specs.elab_scope.Names.{Meanings, meanings}
use Rattle.elab_links.specs.elab_items.Scopes.{scope_of}
use Rattle.elab_links.specs.elab_items.Settings.{Settings, no_settings, settings_of}
use Rattle.elab_links.specs.elab_items.Signals.{path_in}
use Rattle.elab_links.specs.declared.module_set.Place.{Place}
use Rattle.elab_links.specs.Groups.{Group, group_of}
use Rattle.elab_links.specs.Modules.{Lookups, circuits_of, lookups_of}
use Rattle.elab_walk.specs.declared.library.Library.{Library as Kept}
use Rattle.elab_walk.specs.declared.visit.Holder.{Holder as Held}
use Rattle.elab_walk.specs.declared.visit.Visit.{Visit as Met}

-- all modules: which of them a name means, and those of each file
pub record Library : Type 0 where
  pub lookups : Lookups
  pub files : List (List Circuit)

abbrev pub library : Kept → Library
library kept = record { lookups = lookups_of kept.set.now; files = circuits_of kept.files.now }

-- an instance: its path, the place of its module and the module itself, what its parameters are set to, the names of
-- the modules from the top to its own, and where its module is named
pub record Visit : Type 0 where
  pub path : List ℕ
  pub place : Place
  pub circuit : Circuit
  pub settings : Settings
  pub way : List (List ℕ)
  pub spot : Spot

-- the instance that the code keeps
abbrev pub visit : Met → Visit
visit met =
    record {
      path = met.path;
      place = met.place;
      circuit = circuit met.written.now;
      settings = settings_of met.overrides;
      way = map (λ text. text.now) met.way.items;
      spot = met.spot;
    }

-- the top isn't named anywhere: its module's place stands for it
abbrev pub top_visit : Place → Circuit → Visit
top_visit place circuit =
    record {
      path = circuit.name.text;
      place = place;
      circuit = circuit;
      settings = no_settings;
      way = circuit.name.text ∷ [];
      spot = record { file = place.file; at = circuit.at };
    }

-- what the names of its module stand for
abbrev pub scope_in : Visit → Meanings
scope_in v = scope_of v.settings v.circuit

-- what an instance gives to those that it holds: its path, the file of its module, the names of the modules from the top
-- to its own, and what the names of its module stand for
pub record Holder : Type 0 where
  pub path : List ℕ
  pub file : ℕ
  pub way : List (List ℕ)
  pub scope : Meanings

abbrev pub holder_of : Visit → Holder
holder_of v = record { path = v.path; file = v.place.file; way = v.way; scope = scope_in v }

-- what the code keeps of it
abbrev pub holder : Held → Holder
holder held =
    record {
      path = held.path;
      file = held.file;
      way = map (λ text. text.now) held.way.items;
      scope = meanings held.names;
    }

-- an instance of this name, whose module the item names at a place
abbrev pub child_in : Holder → ℕ → List ℕ → Group → Visit
child_in holder at name group =
    record {
      path = path_in holder.path name;
      place = group.place;
      circuit = group.circuit;
      settings = group.settings;
      way = holder.way ++ group.circuit.name.text ∷ [];
      spot = record { file = holder.file; at = at };
    }

abbrev pub child_of : Holder → ℕ → List ℕ → Option Group → List Visit
child_of holder at name None = []
child_of holder at name (Some group) = child_in holder at name group ∷ []

abbrev pub placed_children : Holder → ℕ → Option Group → List Instantiation → List Visit
placed_children holder at group [] = []
placed_children holder at group (first ∷ others) =
    child_of holder at first.name.text group ++ placed_children holder at group others

-- the instances that an item holds; none where their module isn't found
abbrev pub item_children : Library → Holder → ModuleItem → List Visit
item_children library holder (Instances child parameters instantiations) =
    placed_children holder child.at (group_of library.lookups library.files holder.scope (Instances child parameters instantiations)) instantiations
item_children library holder (Ports head names) = []
item_children library holder (Nets at signed bounds nets) = []
item_children library holder (Variables at signed bounds variables) = []
item_children library holder (Integers at names) = []
item_children library holder (Parameters at kind bounds values) = []
item_children library holder (Drives at pause drives) = []
item_children library holder (Gates at names pause drives) = []
item_children library holder (Always at sensitivity body) = []

-- those that items hold, in order
abbrev pub children : Library → Holder → List ModuleItem → List Visit
children library holder [] = []
children library holder (first ∷ others) =
    item_children library holder first ++ children library holder others

-- an instance, and behind it each that it holds with its own, over so many levels
abbrev pub visits : Library → ℕ → Visit → List Visit
visits library zero v = []
visits library (suc levels) v =
    v ∷ flat_map (visits library levels) (children library (holder_of v) v.circuit.items)

-- modules are at most 32 deep
unfoldable pub all_visits : Library → Visit → List Visit
all_visits library top = visits library 32 top
