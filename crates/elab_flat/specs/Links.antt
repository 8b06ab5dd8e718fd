-- What the connections of instances do in the design: an input port is assigned its argument, and the argument of an
-- output port is assigned the port, at all times (IEEE 1364-2001 section 12.3.9).
-- Worked examples: proofs/Examples.antt.
use Rattle.std.specs.Prelude.{ℕ, ◌+◌, List, [], ◌∷◌, ◌++◌, Option, None, Some}
use Rattle.std.specs.List.{slice_get}
use Rattle.rtl_flat.specs.Expression.{Tree, Sized}
use Rattle.rtl_flat.specs.Expression as tree
use Rattle.rtl_flat.specs.Process.{Assign, Piece, Task}
use Rattle.rtl_flat.specs.Process as piece
use Rattle.rtl_tree.specs.declared.tree.item.Direction.{Direction}
use Rattle.rtl_tree.specs.declared.tree.item.Direction.TheVariants.{Input, Output}
use Rattle.rtl_tree.specs.TreeExpr.{Formula, Identifier}
use Rattle.rtl_tree.specs.TreeItem.{Association, ByPosition, ByName, Associated, Positional}
use Rattle.elab_walk.specs.elab_scope.declared.context.Context.{Context}
use Rattle.elab_walk.specs.elab_scope.declared.known.Known.{Known}
use Rattle.elab_walk.specs.elab_scope.Names.{Meanings}
use Rattle.elab_walk.specs.elab_scope.Own.{breadth, name_breadth, name_sign, sign}
use Rattle.elab_walk.specs.elab_scope.Trees.{signal_of, spot_in, tree_of}
use Rattle.elab_walk.specs.elab_scope.Widths.{bits, wider}
use Rattle.elab_flat.specs.declared.links.Ends.{Ends as Kept}
use Rattle.elab_walk.specs.elab_links.Drivable.{link_pieces}
use Rattle.elab_walk.specs.elab_links.Ports.{Sockets}
use Rattle.elab_walk.specs.elab_scope.Names.{meanings}

-- the two sides of connections: the file of the module that holds the instance, how many signals come before its own,
-- what its names stand for and its number among the instances; and of the instance's module how many signals come
-- before its own and what its names stand for
pub record Sides : Type 0 where
  pub file : ℕ
  pub base : ℕ
  pub scope : Meanings
  pub instance : ℕ
  pub inner_base : ℕ
  pub inner : Meanings

abbrev pub sides : Kept → Sides
sides kept =
    record {
      file = kept.site.file;
      base = kept.site.base;
      scope = meanings kept.names.now;
      instance = kept.instance;
      inner_base = kept.inner_base;
      inner = meanings kept.inner.now;
    }

-- a whole port of the instance, as the target of a connection at a place
abbrev pub port_piece : Sides → ℕ → Option Known → Piece
port_piece sides at port =
    record { signal = signal_of sides.inner_base port; selection = piece.Whole; spot = spot_in sides.file at }

-- the context of an argument that a port is assigned, and of a port that an argument is assigned
abbrev pub input_context : Meanings → Option Known → Formula → Context
input_context scope port e =
    record { width = bits (wider (name_breadth port) (breadth scope e)); signed = sign scope e }

abbrev pub output_context : Meanings → Option Known → Formula → Context
output_context scope port e =
    record { width = bits (wider (breadth scope e) (name_breadth port)); signed = name_sign port }

-- a whole port that is read in a context
abbrev pub port_tree : Sides → ℕ → Option Known → Context → Tree
port_tree sides at port c =
    Sized c.width c.signed (spot_in sides.file at) (tree.Whole (signal_of sides.inner_base port))

abbrev pub link_task : Sides → ℕ → List Piece → Tree → Task
link_task sides at target value =
    record { does = Assign target value; instance = sides.instance; spot = spot_in sides.file at }

abbrev pub port_tasks : Sides → ℕ → Option Direction → Option Known → Formula → List Task
port_tasks sides at (Some Input) port e =
    link_task sides at (port_piece sides at port ∷ []) (tree_of sides.file sides.base sides.scope e (input_context sides.scope port e)) ∷ []
port_tasks sides at (Some Output) port e =
    link_task sides at (link_pieces sides.file sides.base sides.scope e) (port_tree sides at port (output_context sides.scope port e)) ∷ []
port_tasks sides at None port e = []

-- an empty argument connects nothing
abbrev pub value_tasks : Sides → ℕ → Option Direction → Option Known → Option Formula → List Task
value_tasks sides at direction port None = []
value_tasks sides at direction port (Some e) = port_tasks sides at direction port e

abbrev pub named_port_tasks : Sockets → Sides → ℕ → List ℕ → Option Formula → List Task
named_port_tasks ports sides at name value =
    value_tasks sides at (ports.direction name) (sides.inner name) value

abbrev pub placed_tasks : Sockets → Sides → ℕ → Option Identifier → Option Formula → List Task
placed_tasks ports sides at None value = []
placed_tasks ports sides at (Some port) value = named_port_tasks ports sides at port.text value

abbrev pub ordered_tasks : Sockets → Sides → ℕ → List Positional → List Task
ordered_tasks ports sides place [] = []
ordered_tasks ports sides place (first ∷ others) =
    placed_tasks ports sides first.at (slice_get ports.order place) first.value
    ++ ordered_tasks ports sides (place + 1) others

abbrev pub named_tasks : Sockets → Sides → List Associated → List Task
named_tasks ports sides [] = []
named_tasks ports sides (first ∷ others) =
    named_port_tasks ports sides first.at first.name.text first.value ++ named_tasks ports sides others

-- what the connections of an instance of a module with these ports do, in their order
abbrev pub link_tasks : Sockets → Sides → Association → List Task
link_tasks ports sides (ByPosition arguments) = ordered_tasks ports sides 0 arguments
link_tasks ports sides (ByName arguments) = named_tasks ports sides arguments
