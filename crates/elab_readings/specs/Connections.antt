-- What other tools read otherwise in the connections of an instance's ports (IEEE 1364-2001 section 12.3.9).
-- Worked examples: proofs/Examples.antt.
use Rattle.std.specs.Prelude.{ℕ, ◌+◌, Bool, true, false, ◌&&◌, ◌||◌, not, nat_lt, if◌then◌else◌, List, [], ◌∷◌, ◌++◌, Option, None, Some}
use Rattle.std.specs.List.{flat_map, slice_get}
use Rattle.name_map.specs.Values.{Values}
use Rattle.rtl_const.specs.Constant.{constant}
use Rattle.rtl_tree.specs.TreeExpr.{Formula, Number, Read, ReadBit, ReadPart, Parens, Apply, Concat, Repeat, Unary, Binary, Choose, Formulas, no_formulas, more_formulas, Identifier}
use Rattle.rtl_tree.specs.TreeItem.{Association, ByPosition, ByName, Associated, Positional}
use Rattle.rtl_flat.specs.declared.note.Note.{Note}
use Rattle.rtl_flat.specs.declared.note.Reading.TheVariants.{LateParameter, PortContext}
use Rattle.elab_uses.specs.elab_links.Drivable.{is_number}
use Rattle.elab_uses.specs.elab_scope.declared.known.Known.{Known}
use Rattle.elab_uses.specs.elab_scope.declared.known.Known.TheVariants as known
use Rattle.elab_uses.specs.elab_scope.declared.known.Role.{Role}
use Rattle.elab_uses.specs.elab_scope.declared.known.Role.TheVariants as role
use Rattle.elab_uses.specs.elab_scope.declared.widths.Breadth.{Breadth}
use Rattle.elab_uses.specs.elab_scope.declared.widths.Breadth.TheVariants.{Bits}
use Rattle.elab_uses.specs.elab_scope.Names.{Meanings, numbers_in}
use Rattle.elab_uses.specs.elab_scope.Own.{breadth, name_breadth}
use Rattle.elab_uses.specs.elab_scope.Trees.{signal_of}
use Rattle.elab_uses.specs.elab_scope.Widths.{bits}
use Rattle.elab_uses.specs.elab_standard.declared.uses.Home.{Home}
use Rattle.elab_uses.specs.elab_standard.Scopes.{Scopes}
use Rattle.elab_uses.specs.elab_standard.Uses as uses
use Rattle.elab_uses.specs.elab_standard.Uses.{Use, use_notes}
use Rattle.elab_readings.specs.Notes.{note_at}
use Rattle.elab_readings.specs.Steady.{steady}

-- an instance that holds others: where its text stands, what the names of its module stand for, and where those that are
-- parameters are declared
pub record Holder : Type 0 where
  pub home : Home
  pub scopes : Scopes
  pub places : Values ℕ

-- the two sides of connections: the instance that holds the other, and of this how many signals come before its own and
-- what the names of its module stand for
pub record Ends : Type 0 where
  pub holder : Holder
  pub base : ℕ
  pub inner : Meanings

-- ---- arguments that are narrower than their port

abbrev pub is_narrower : Breadth → Breadth → Bool
is_narrower (Bits m) (Bits n) = nat_lt m n
is_narrower _ _ = false

-- whether the value of an argument hangs on the width of its port
abbrev pub hangs_on : Option Known → Meanings → Formula → Bool
hangs_on port scope e = is_narrower (breadth scope e) (name_breadth port) && not (steady scope e)

abbrev pub context_notes : Ends → ℕ → Option Known → Formula → List Note
context_notes ends at port e =
    if hangs_on port ends.holder.scopes.scope e
    then note_at PortContext (Some (record { 0 = signal_of ends.base port })) ends.holder.home at ∷ [] else []

-- ---- parameters that are declared behind a connection that names them: some tools make an implicit net of the name

abbrev pub is_behind : ℕ → Option ℕ → Bool
is_behind at None = false
is_behind at (Some place) = nat_lt at place

abbrev mutual
  -- whether an argument at a place names one, outside constant indices and ends of parts
  pub names_late : Meanings → Values ℕ → ℕ → Formula → Bool
  names_late scope places at (Number value place) = false
  names_late scope places at (Read name) = is_behind at (places name.text)
  names_late scope places at (ReadBit name index) =
      not (is_number (constant (numbers_in scope) index)) && names_late scope places at index
  names_late scope places at (ReadPart name kind first second) = false
  names_late scope places at (Parens place inner) = names_late scope places at inner
  names_late scope places at (Apply function place inner) = names_late scope places at inner
  names_late scope places at (Concat place parts) = row_names_late scope places at parts
  names_late scope places at (Repeat place times parts) =
      names_late scope places at times || row_names_late scope places at parts
  names_late scope places at (Unary operator place operand) = names_late scope places at operand
  names_late scope places at (Binary operator place left right) =
      names_late scope places at left || names_late scope places at right
  names_late scope places at (Choose place condition taken otherwise) =
      names_late scope places at condition || (names_late scope places at taken || names_late scope places at otherwise)

  pub row_names_late : Meanings → Values ℕ → ℕ → Formulas → Bool
  row_names_late scope places at no_formulas = false
  row_names_late scope places at (more_formulas first others) =
      names_late scope places at first || row_names_late scope places at others

abbrev pub late_notes : Holder → ℕ → Formula → List Note
late_notes holder at e =
    if names_late holder.scopes.scope holder.places at e then note_at LateParameter None holder.home at ∷ [] else []

-- ---- connections

-- an input is assigned its argument, in at least its own width
abbrev pub input_notes : Ends → ℕ → Option Known → Formula → List Note
input_notes ends at port e =
    use_notes ends.holder.home ends.holder.scopes (uses.Value e (bits (name_breadth port)))
    ++ context_notes ends at port e
    ++ late_notes ends.holder at e

abbrev mutual
  -- the indices and the ends of parts of what an output drives, from left to right
  pub driven_numbers : Formula → List Use
  driven_numbers (ReadBit name index) = uses.Number index ∷ []
  driven_numbers (ReadPart name kind first second) = uses.Number first ∷ uses.Number second ∷ []
  driven_numbers (Concat place parts) = row_driven_numbers parts
  driven_numbers _ = []

  pub row_driven_numbers : Formulas → List Use
  row_driven_numbers no_formulas = []
  row_driven_numbers (more_formulas first others) = driven_numbers first ++ row_driven_numbers others

abbrev pub output_notes : Ends → Formula → List Note
output_notes ends e = flat_map (use_notes ends.holder.home ends.holder.scopes) (driven_numbers e)

-- a port that isn't an input is an output
abbrev pub role_notes : Ends → ℕ → Option Known → Role → Formula → List Note
role_notes ends at port role.Input e = input_notes ends at port e
role_notes ends at port role.Net e = output_notes ends e
role_notes ends at port role.Variable e = output_notes ends e

abbrev pub port_notes : Ends → ℕ → Option Known → Formula → List Note
port_notes ends at (Some (known.Signal number role shape)) e =
    role_notes ends at (Some (known.Signal number role shape)) role e
port_notes ends at (Some (known.Parameter number width signed)) e = []
port_notes ends at (Some (known.Integer number)) e = []
port_notes ends at None e = []

-- an empty argument connects nothing
abbrev pub value_notes : Ends → ℕ → Option Known → Option Formula → List Note
value_notes ends at port None = []
value_notes ends at port (Some e) = port_notes ends at port e

abbrev pub placed_notes : Ends → ℕ → Option Identifier → Option Formula → List Note
placed_notes ends at None value = []
placed_notes ends at (Some port) value = value_notes ends at (ends.inner port.text) value

-- the arguments by position from a place on, of ports with these names
abbrev pub ordered_notes : List Identifier → Ends → ℕ → List Positional → List Note
ordered_notes ports ends place [] = []
ordered_notes ports ends place (first ∷ others) =
    placed_notes ends first.at (slice_get ports place) first.value ++ ordered_notes ports ends (place + 1) others

abbrev pub named_notes : Ends → Associated → List Note
named_notes ends argument = value_notes ends argument.at (ends.inner argument.name.text) argument.value

-- those of an instance of a module whose ports have these names, in the order of its head
abbrev pub connection_notes : List Identifier → Ends → Association → List Note
connection_notes ports ends (ByPosition arguments) = ordered_notes ports ends 0 arguments
connection_notes ports ends (ByName arguments) = flat_map (named_notes ends) arguments
