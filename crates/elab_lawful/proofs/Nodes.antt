-- The steps of connections are nodes alone: they have no statements and no delays.
use Rattle.std.specs.Prelude.{ℕ, ◌+◌, List, [], ◌∷◌, ◌++◌, Option, None, Some}
use Rattle.std.specs.List.{slice_get}
use Rattle.std.proofs.Common.{◌≡◌, refl}
use Rattle.rtl_tree.specs.declared.tree.item.Direction.{Direction}
use Rattle.rtl_tree.specs.TreeExpr.{Formula, Identifier}
use Rattle.rtl_tree.specs.TreeItem.{ModuleItem, Association, ByPosition, ByName, Associated, Positional, Instantiation}
use Rattle.elab_laws.specs.elab_scope.Names.{Meanings}
use Rattle.elab_laws.specs.elab_body.Steps.{Step, Faulty, Statement, Turn, Delay, Nodes, delays_of}
use Rattle.elab_laws.specs.elab_body.Faultless.{statement_count}
use Rattle.elab_flat.specs.elab_links.Groups.{Group, group_of}
use Rattle.elab_flat.specs.elab_links.Ports.{Sockets, sockets_of}
use Rattle.elab_flat.specs.elab_walk.Links.{argument_steps, connection_steps, group_steps, instantiations_steps, link_steps, named_steps, ordered_steps, placed_steps}
use Rattle.elab_flat.specs.elab_walk.Visits.{Library}

-- whether all steps are nodes
abbrev AreNodes : List Step → Type 0
AreNodes [] = Unit {0}
AreNodes (Faulty told ∷ steps) = ⊥
AreNodes (Statement at ∷ steps) = ⊥
AreNodes (Turn at ∷ steps) = ⊥
AreNodes (Delay at ∷ steps) = ⊥
AreNodes (Nodes at count ∷ steps) = AreNodes steps

nodes_append : (xs ys : List Step) → AreNodes xs → AreNodes ys → AreNodes (xs ++ ys)
nodes_append [] ys h g = g
nodes_append (Faulty told ∷ xs) ys h g = absurd h
nodes_append (Statement at ∷ xs) ys h g = absurd h
nodes_append (Turn at ∷ xs) ys h g = absurd h
nodes_append (Delay at ∷ xs) ys h g = absurd h
nodes_append (Nodes at count ∷ xs) ys h g = nodes_append xs ys h g

nodes_undelayed : (xs : List Step) → AreNodes xs → delays_of xs ≡ []
nodes_undelayed [] h = refl
nodes_undelayed (Faulty told ∷ xs) h = absurd h
nodes_undelayed (Statement at ∷ xs) h = absurd h
nodes_undelayed (Turn at ∷ xs) h = absurd h
nodes_undelayed (Delay at ∷ xs) h = absurd h
nodes_undelayed (Nodes at count ∷ xs) h = nodes_undelayed xs h

nodes_unstated : (xs : List Step) → AreNodes xs → statement_count xs ≡ 0
nodes_unstated [] h = refl
nodes_unstated (Faulty told ∷ xs) h = absurd h
nodes_unstated (Statement at ∷ xs) h = absurd h
nodes_unstated (Turn at ∷ xs) h = absurd h
nodes_unstated (Delay at ∷ xs) h = absurd h
nodes_unstated (Nodes at count ∷ xs) h = nodes_unstated xs h

argument_nodes : (scope : Meanings) (at : ℕ) (direction : Option Direction) (value : Option Formula) → AreNodes (argument_steps scope at direction value)
argument_nodes scope at direction None = tt
argument_nodes scope at direction (Some e) = tt

placed_nodes : (ports : Sockets) (scope : Meanings) (at : ℕ) (port : Option Identifier) (value : Option Formula) → AreNodes (placed_steps ports scope at port value)
placed_nodes ports scope at None value = tt
placed_nodes ports scope at (Some port) value =
    argument_nodes scope at (ports.direction port.text) value

ordered_nodes : (ports : Sockets) (scope : Meanings) (place : ℕ) (arguments : List Positional) → AreNodes (ordered_steps ports scope place arguments)
ordered_nodes ports scope place [] = tt
ordered_nodes ports scope place (first ∷ others) =
    nodes_append (placed_steps ports scope first.at (slice_get ports.order place) first.value) (ordered_steps ports scope (place + 1) others) (placed_nodes ports scope first.at (slice_get ports.order place) first.value) (ordered_nodes ports scope (place + 1) others)

named_nodes : (ports : Sockets) (scope : Meanings) (arguments : List Associated) → AreNodes (named_steps ports scope arguments)
named_nodes ports scope [] = tt
named_nodes ports scope (first ∷ others) =
    nodes_append (argument_steps scope first.at (ports.direction first.name.text) first.value) (named_steps ports scope others) (argument_nodes scope first.at (ports.direction first.name.text) first.value) (named_nodes ports scope others)

connection_nodes : (ports : Sockets) (scope : Meanings) (arguments : Association) → AreNodes (connection_steps ports scope arguments)
connection_nodes ports scope (ByPosition arguments) = ordered_nodes ports scope 0 arguments
connection_nodes ports scope (ByName arguments) = named_nodes ports scope arguments

instantiations_nodes : (ports : Sockets) (scope : Meanings) (all : List Instantiation) → AreNodes (instantiations_steps ports scope all)
instantiations_nodes ports scope [] = tt
instantiations_nodes ports scope (first ∷ others) =
    nodes_append (connection_steps ports scope first.connections) (instantiations_steps ports scope others) (connection_nodes ports scope first.connections) (instantiations_nodes ports scope others)

group_nodes : (scope : Meanings) (group : Option Group) → AreNodes (group_steps scope group)
group_nodes scope None = tt
group_nodes scope (Some group) =
    instantiations_nodes (sockets_of group.circuit) scope group.instantiations

-- connections have no delays
pub links_undelayed : (library : Library) (scope : Meanings) (item : ModuleItem) → delays_of (link_steps library scope item) ≡ []
links_undelayed library scope item =
    nodes_undelayed (link_steps library scope item) (group_nodes scope (group_of library.lookups library.files scope item))

-- and no statements
pub links_unstated : (library : Library) (scope : Meanings) (item : ModuleItem) → statement_count (link_steps library scope item) ≡ 0
links_unstated library scope item =
    nodes_unstated (link_steps library scope item) (group_nodes scope (group_of library.lookups library.files scope item))
