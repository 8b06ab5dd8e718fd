-- The nodes that the connections of instances have in the design (IEEE 1364-2001 section 12.3.9).
-- Worked examples: proofs/Examples.antt.
use Rattle.std.specs.Prelude.{ℕ, ◌+◌, List, [], ◌∷◌, ◌++◌, Option, None, Some}
use Rattle.std.specs.List.{slice_get}
use Rattle.rtl_tree.specs.declared.tree.item.Direction.{Direction}
use Rattle.rtl_tree.specs.declared.tree.item.Direction.TheVariants.{Input, Output}
use Rattle.rtl_tree.specs.TreeExpr.{Formula, Identifier}
use Rattle.rtl_tree.specs.TreeItem.{ModuleItem, Association, ByPosition, ByName, Associated, Positional, Instantiation}
use Rattle.elab_links.specs.elab_scope.Names.{Meanings}
use Rattle.elab_parts.specs.elab_nodes.Nodes.{node_count}
use Rattle.elab_parts.specs.elab_body.Steps.{Step, Nodes}
use Rattle.elab_links.specs.Groups.{Group, group_of}
use Rattle.elab_links.specs.Ports.{Sockets, sockets_of}
use Rattle.elab_walk.specs.Visits.{Library}

-- an input port is assigned its argument; of an output port the port is read, and the indices of its argument are
-- constant; what has no direction is no process
abbrev pub port_count : Meanings → Option Direction → Formula → ℕ
port_count scope (Some Input) e = node_count scope e
port_count scope (Some Output) e = 1
port_count scope None e = 0

-- an empty argument connects nothing
abbrev pub argument_steps : Meanings → ℕ → Option Direction → Option Formula → List Step
argument_steps scope at direction None = []
argument_steps scope at direction (Some e) = Nodes at (port_count scope direction e) ∷ []

abbrev pub placed_steps : Sockets → Meanings → ℕ → Option Identifier → Option Formula → List Step
placed_steps ports scope at None value = []
placed_steps ports scope at (Some port) value =
    argument_steps scope at (ports.direction port.text) value

abbrev pub ordered_steps : Sockets → Meanings → ℕ → List Positional → List Step
ordered_steps ports scope place [] = []
ordered_steps ports scope place (first ∷ others) =
    placed_steps ports scope first.at (slice_get ports.order place) first.value
    ++ ordered_steps ports scope (place + 1) others

abbrev pub named_steps : Sockets → Meanings → List Associated → List Step
named_steps ports scope [] = []
named_steps ports scope (first ∷ others) =
    argument_steps scope first.at (ports.direction first.name.text) first.value
    ++ named_steps ports scope others

abbrev pub connection_steps : Sockets → Meanings → Association → List Step
connection_steps ports scope (ByPosition arguments) = ordered_steps ports scope 0 arguments
connection_steps ports scope (ByName arguments) = named_steps ports scope arguments

abbrev pub instantiations_steps : Sockets → Meanings → List Instantiation → List Step
instantiations_steps ports scope [] = []
instantiations_steps ports scope (first ∷ others) =
    connection_steps ports scope first.connections ++ instantiations_steps ports scope others

abbrev pub group_steps : Meanings → Option Group → List Step
group_steps scope None = []
group_steps scope (Some group) =
    instantiations_steps (sockets_of group.circuit) scope group.instantiations

-- the nodes of the connections of the instances that an item places, each at its connection
abbrev pub link_steps : Library → Meanings → ModuleItem → List Step
link_steps library scope item =
    group_steps scope (group_of library.lookups library.files scope item)
