-- The ports of a module (IEEE 1364-2001 section 12.3).
-- Worked examples: crates/elab_flat/proofs/Examples.antt.
use Rattle.std.specs.Prelude.{ℕ, List, [], ◌∷◌, map, Option, None, Some}
use Rattle.name_map.specs.Values.{Values, entered, no_values, values_of}
use Rattle.rtl_tree.specs.declared.tree.item.Direction.{Direction}
use Rattle.rtl_tree.specs.TreeExpr.{Identifier, identifier}
use Rattle.rtl_tree.specs.TreeModule.{Circuit, Header, HeaderPort}
use Rattle.rtl_tree.specs.TreeModule as tree
use Rattle.elab_items.specs.Claims.{direction_of}
use Rattle.elab_items.specs.Declarations.{Declaration, ParameterRange, Parameter, SignalRange, Listed, Signal, Integer, Instance, declarations}
use Rattle.elab_links.specs.declared.ports.Ports.{Ports as Kept}
use Rattle.elab_links.specs.Marks.{Marks, no_marks, with_marks}

abbrev pub port_name : HeaderPort → Identifier
port_name port = port.name

-- the names in a head, in the order of the ports
abbrev pub port_names : Header → List Identifier
port_names tree.Absent = []
port_names tree.Empty = []
port_names (tree.Declared ports) = map port_name ports
port_names (tree.Named names) = names

-- the direction of each name that has one
abbrev pub Directions : Type 0
Directions = Values Direction

abbrev pub no_directions : Directions
no_directions = no_values

-- a name has the first direction that is given to it
abbrev pub with_direction : Directions → List ℕ → Option Direction → Directions
with_direction directions name None = directions
with_direction directions name (Some direction) = entered directions name direction

abbrev pub directed : Directions → Declaration → Directions
directed directions (Signal form signed name) = with_direction directions name.text (direction_of form)
directed directions (ParameterRange bounds) = directions
directed directions (Parameter kind name value) = directions
directed directions (SignalRange bounds) = directions
directed directions (Listed name) = directions
directed directions (Integer name) = directions
directed directions (Instance name) = directions

abbrev pub all_directed : Directions → List Declaration → Directions
all_directed directions [] = directions
all_directed directions (first ∷ others) = all_directed (directed directions first) others

-- the ports of a module: their names in order, and the direction of each; one that no declaration gives a direction
-- has none here
pub record Sockets : Type 0 where
  pub order : List Identifier
  pub listed : Marks
  pub direction : Directions

abbrev pub sockets_of : Circuit → Sockets
sockets_of circuit =
    record {
      order = port_names circuit.header;
      listed = with_marks no_marks (port_names circuit.header);
      direction = all_directed no_directions (declarations circuit);
    }

-- the ports that the code keeps
abbrev pub sockets : Kept → Sockets
sockets kept =
    record {
      order = map (λ name. identifier name.now) kept.order.items;
      listed = with_marks no_marks (map (λ name. identifier name.now) kept.order.items);
      direction = values_of kept.directions;
    }
