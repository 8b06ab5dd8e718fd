-- Arguments of output ports: what a port may drive are the targets of continuous assignments (IEEE 1364-2001 sections
-- 6.1 and 12.3.9.2).
-- Worked examples: crates/tests_rows/stdin.
use Rattle.std.specs.Prelude.{ℕ, Bool, true, false, ◌&&◌, ◌||◌, not, List, [], ◌∷◌, ◌++◌, Option, None, Some, Ok, Err}
use Rattle.std.specs.List.{list_any}
use Rattle.rtl_const.specs.Constant.{Outcome, constant}
use Rattle.rtl_tree.specs.TreeExpr.{Formula, Read, ReadBit, ReadPart, Concat, Formulas, no_formulas, more_formulas}
use Rattle.rtl_flat.specs.Process.{Piece}
use Rattle.rtl_flat.specs.Process as piece
use Rattle.elab_items.specs.elab_scope.declared.covers.Cover.{Cover}
use Rattle.elab_items.specs.elab_scope.declared.known.Known.{Known}
use Rattle.elab_items.specs.elab_scope.declared.widths.Breadth.{Breadth}
use Rattle.elab_items.specs.elab_scope.declared.widths.Breadth.TheVariants.{Bits, Unfit, Hidden}
use Rattle.elab_items.specs.elab_scope.Names.{Meanings, numbers_in}
use Rattle.elab_items.specs.elab_scope.Own.{breadth}
use Rattle.elab_items.specs.elab_scope.Rules.{may_drive}
use Rattle.elab_items.specs.elab_scope.Selects.{lsb_in, msb_in}
use Rattle.elab_items.specs.elab_scope.Targets.{bit_cover, bit_selection, overlap, part_cover, part_selection, whole_cover}
use Rattle.elab_items.specs.elab_scope.Trees.{field_in, low_of, own_context, signal_of, spot_in, tree_of}

-- a net may be driven; that a name isn't declared is a fault of its own
abbrev pub may_link : Option Known → Bool
may_link None = true
may_link (Some known) = may_drive known

abbrev pub is_number : Outcome → Bool
is_number (Ok number) = true
is_number (Err cause) = false

abbrev mutual
  -- whether an argument is a net, a bit of one with a constant index, a part of one, or several of these beside one
  -- another
  pub has_nets : Meanings → Formula → Bool
  has_nets scope (Read name) = may_link (scope name.text)
  has_nets scope (ReadBit name index) = may_link (scope name.text) && is_number (constant (numbers_in scope) index)
  has_nets scope (ReadPart name kind first second) = may_link (scope name.text)
  has_nets scope (Concat at parts) = all_have_nets scope parts
  has_nets scope _ = false

  pub all_have_nets : Meanings → Formulas → Bool
  all_have_nets scope no_formulas = true
  all_have_nets scope (more_formulas first others) = has_nets scope first && all_have_nets scope others

abbrev pub cover_list : Option Cover → List Cover
cover_list None = []
cover_list (Some cover) = cover ∷ []

abbrev mutual
  -- the bits that are driven through such an argument, part for part
  pub covers_of : Meanings → Formula → List Cover
  covers_of scope (Read name) = cover_list (whole_cover (scope name.text))
  covers_of scope (ReadBit name index) =
      cover_list (bit_cover (scope name.text) (constant (numbers_in scope) index))
  covers_of scope (ReadPart name kind first second) =
      cover_list (part_cover (scope name.text) (field_in (scope name.text) (msb_in scope kind first second) (lsb_in scope kind first second)))
  covers_of scope (Concat at parts) = all_covers_of scope parts
  covers_of scope _ = []

  pub all_covers_of : Meanings → Formulas → List Cover
  all_covers_of scope no_formulas = []
  all_covers_of scope (more_formulas first others) = covers_of scope first ++ all_covers_of scope others

-- whether one of some parts has a bit that stands in a later one too
abbrev pub meet : List Cover → Bool
meet [] = false
meet (first ∷ others) = list_any (overlap first) others || meet others

-- it is looked for where the width is known and fits
abbrev pub meets_itself : Breadth → List Cover → Bool
meets_itself (Bits n) covers = meet covers
meets_itself Unfit covers = false
meets_itself Hidden covers = false

-- whether an output port may drive an argument
abbrev pub drivable : Meanings → Formula → Bool
drivable scope e = has_nets scope e && not (meets_itself (breadth scope e) (covers_of scope e))

abbrev mutual
  -- the parts of such an argument in the design, from left to right
  pub link_pieces : ℕ → ℕ → Meanings → Formula → List Piece
  link_pieces file base scope (Read name) =
      record { signal = signal_of base (scope name.text); selection = piece.Whole; spot = spot_in file name.at } ∷ []
  link_pieces file base scope (ReadBit name index) =
      record { signal = signal_of base (scope name.text); selection = bit_selection (low_of (scope name.text)) (constant (numbers_in scope) index) (tree_of file base scope index (own_context scope index)); spot = spot_in file name.at } ∷ []
  link_pieces file base scope (ReadPart name kind first second) =
      record { signal = signal_of base (scope name.text); selection = part_selection (field_in (scope name.text) (msb_in scope kind first second) (lsb_in scope kind first second)); spot = spot_in file name.at } ∷ []
  link_pieces file base scope (Concat at parts) = all_link_pieces file base scope parts
  link_pieces file base scope _ = []

  pub all_link_pieces : ℕ → ℕ → Meanings → Formulas → List Piece
  all_link_pieces file base scope no_formulas = []
  all_link_pieces file base scope (more_formulas first others) =
      link_pieces file base scope first ++ all_link_pieces file base scope others
