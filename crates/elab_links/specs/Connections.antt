-- The connections of an instance's ports (IEEE 1364-2001 section 12.3).
-- Worked examples: crates/elab_walk/proofs/Examples.antt, crates/tests_rows/stdin.
use Rattle.std.specs.Prelude.{ℕ, ◌+◌, if◌then◌else◌, List, [], ◌∷◌, ◌++◌, length, Option, None, Some}
use Rattle.std.specs.List.{slice_get}
use Rattle.rtl_tree.specs.declared.tree.item.Direction.{Direction}
use Rattle.rtl_tree.specs.declared.tree.item.Direction.TheVariants.{Input, Output}
use Rattle.rtl_tree.specs.TreeExpr.{Formula, Identifier}
use Rattle.rtl_tree.specs.TreeItem.{Association, ByPosition, ByName, Associated, Positional, Instantiation}
use Rattle.elab_items.specs.elab_scope.Expressions.{faults}
use Rattle.elab_items.specs.elab_scope.Faults.{Port, Refusal}
use Rattle.elab_items.specs.elab_scope.Names.{Meanings}
use Rattle.elab_items.specs.elab_scope.Rules.{fault}
use Rattle.elab_links.specs.Drivable.{drivable}
use Rattle.elab_links.specs.Marks.{Marks, no_marks, with_mark}
use Rattle.elab_links.specs.Parameters.{name_faults, surplus_faults}
use Rattle.elab_links.specs.Ports.{Sockets}

-- what an output port of this name drives
abbrev pub driven_faults : Meanings → ℕ → List ℕ → Formula → List Refusal
driven_faults scope at port e = if drivable scope e then [] else fault at (Port port) ∷ []

-- an input port reads its argument, and so does one whose direction isn't known; an output port drives it
abbrev pub argument_faults : Meanings → Option Direction → ℕ → List ℕ → Formula → List Refusal
argument_faults scope (Some Output) at port e = faults scope e ++ driven_faults scope at port e
argument_faults scope (Some Input) at port e = faults scope e
argument_faults scope None at port e = faults scope e

-- an empty argument connects nothing
abbrev pub connection_faults : Meanings → Option Direction → ℕ → List ℕ → Option Formula → List Refusal
connection_faults scope direction at port None = []
connection_faults scope direction at port (Some e) = argument_faults scope direction at port e

-- an argument that no port takes is judged as one that is read
abbrev pub spare_faults : Meanings → Option Formula → List Refusal
spare_faults scope None = []
spare_faults scope (Some e) = faults scope e

-- an argument by position, of this port
abbrev pub placed_faults : Sockets → Meanings → ℕ → Option Identifier → Option Formula → List Refusal
placed_faults ports scope at None value = spare_faults scope value
placed_faults ports scope at (Some port) value =
    connection_faults scope (ports.direction port.text) at port.text value

-- the arguments by position from a place on
abbrev pub ordered_link_faults : List ℕ → Sockets → Meanings → ℕ → List Positional → List Refusal
ordered_link_faults child ports scope place [] = []
ordered_link_faults child ports scope place (first ∷ others) =
    surplus_faults (length ports.order) place first.at (Port child)
    ++ placed_faults ports scope first.at (slice_get ports.order place) first.value
    ++ ordered_link_faults child ports scope (place + 1) others

-- the arguments by name, behind those that name some ports
abbrev pub named_link_faults : Sockets → Meanings → Marks → List Associated → List Refusal
named_link_faults ports scope taken [] = []
named_link_faults ports scope taken (first ∷ others) =
    name_faults (ports.listed first.name.text) (taken first.name.text) first.name.at (Port first.name.text)
    ++ connection_faults scope (ports.direction first.name.text) first.name.at first.name.text first.value
    ++ named_link_faults ports scope (with_mark taken first.name.text) others

-- the faults of the connections of one instance of a module with these ports
abbrev pub instantiation_faults : List ℕ → Sockets → Meanings → Association → List Refusal
instantiation_faults child ports scope (ByPosition arguments) = ordered_link_faults child ports scope 0 arguments
instantiation_faults child ports scope (ByName arguments) = named_link_faults ports scope no_marks arguments

-- those of several instances
abbrev pub instantiations_faults : List ℕ → Sockets → Meanings → List Instantiation → List Refusal
instantiations_faults child ports scope [] = []
instantiations_faults child ports scope (first ∷ others) =
    instantiation_faults child ports scope first.connections ++ instantiations_faults child ports scope others
