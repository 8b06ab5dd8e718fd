-- The faults of targets, and their parts in the design (IEEE 1364-2001 sections 6.1 and 9.2).
-- Worked examples: crates/elab_laws/proofs/Examples.antt.
use Rattle.std.specs.Prelude.{ℕ, ◌+◌, nat_lt, ◌==◌, ℤ, pos, ◌-ℤ◌, int_le, int_lt, unsigned_abs, Bool, ◌&&◌, if◌then◌else◌, List, [], ◌∷◌, ◌++◌, Option, None, Some, Ok, Err}
use Rattle.std.specs.List.{list_any}
use Rattle.rtl_const.specs.Constant.{Outcome, constant}
use Rattle.rtl_tree.specs.TreeExpr.{Identifier, Formula}
use Rattle.rtl_tree.specs.TreeStmt.{Target, Whole, Bit, Part, Joined, Targets, no_targets, more_targets}
use Rattle.rtl_flat.specs.Expression.{Tree}
use Rattle.rtl_flat.specs.Process.{Selection, Piece}
use Rattle.rtl_flat.specs.Process as piece
use Rattle.elab_scope.specs.declared.known.Known.{Known}
use Rattle.elab_scope.specs.declared.known.Known.TheVariants as known
use Rattle.elab_scope.specs.declared.known.Shape.{Shape}
use Rattle.elab_scope.specs.declared.rules.Writer.{Writer}
use Rattle.elab_scope.specs.declared.rules.Writer.TheVariants as writer
use Rattle.elab_scope.specs.declared.context.Context.{Context}
use Rattle.elab_scope.specs.declared.covers.Cover.{Cover}
use Rattle.elab_scope.specs.declared.widths.Breadth.{Breadth}
use Rattle.elab_scope.specs.declared.widths.Breadth.TheVariants.{Bits}
use Rattle.elab_scope.specs.declared.widths.Field.{Field}
use Rattle.elab_scope.specs.Expressions.{faults, constant_faults}
use Rattle.elab_scope.specs.Faults.{NotAssignable, Refusal}
use Rattle.elab_scope.specs.Names.{Meanings, numbers_in}
use Rattle.elab_scope.specs.Own.{breadth, sign, name_breadth, part_breadth}
use Rattle.elab_scope.specs.Rules.{fault, index_faults, part_faults, range_faults, run_faults, width_faults, write_faults}
use Rattle.elab_scope.specs.Selects.{msb_in, lsb_in}
use Rattle.elab_scope.specs.Trees.{field_in, low_of, own_context, signal_of, spot_in, tree_of}
use Rattle.elab_scope.specs.Widths.{beside, bits, fit, wider}

abbrev mutual
  -- how many bits a target has
  pub target_breadth : Meanings → Target → Breadth
  target_breadth scope (Whole name) = name_breadth (scope name.text)
  target_breadth scope (Bit name index) = Bits 1
  target_breadth scope (Part name kind first second) =
      part_breadth (scope name.text) (msb_in scope kind first second) (lsb_in scope kind first second)
  target_breadth scope (Joined at parts) = fit (targets_breadth scope parts)

  pub targets_breadth : Meanings → Targets → Breadth
  targets_breadth scope no_targets = Bits 0
  targets_breadth scope (more_targets first others) =
      beside (target_breadth scope first) (targets_breadth scope others)

-- the context of a value that is assigned: the target counts for the width and not for the sign (sections 4.4.1 and
-- 4.5.1)
abbrev pub assigned_context : Meanings → Formula → Target → Context
assigned_context scope e target =
    record { width = bits (wider (target_breadth scope target) (breadth scope e)); signed = sign scope e }

abbrev mutual
  -- the faults of a target, but for bits that stand in it twice
  pub part_target_faults : Writer → Meanings → Target → List Refusal
  part_target_faults by scope (Whole name) = write_faults by name (scope name.text)
  part_target_faults by scope (Bit name index) =
      write_faults by name (scope name.text)
      ++ range_faults name (scope name.text)
      ++ faults scope index
      ++ index_faults by name (constant (numbers_in scope) index)
  part_target_faults by scope (Part name kind first second) =
      write_faults by name (scope name.text)
      ++ range_faults name (scope name.text)
      ++ constant_faults scope first
      ++ constant_faults scope second
      ++ run_faults name.at kind (constant (numbers_in scope) second)
      ++ part_faults name.at (scope name.text) (msb_in scope kind first second) (lsb_in scope kind first second)
  part_target_faults by scope (Joined at parts) =
      joined_faults by scope parts ++ width_faults at (target_breadth scope (Joined at parts))

  pub joined_faults : Writer → Meanings → Targets → List Refusal
  joined_faults by scope no_targets = []
  joined_faults by scope (more_targets first others) =
      part_target_faults by scope first ++ joined_faults by scope others

-- the bits that a part of a target writes, where it is known and has any
abbrev pub whole_cover : Option Known → Option Cover
whole_cover (Some (known.Signal number role (Some shape))) =
    Some (record { signal = number; low = 0; count = shape.width })
whole_cover _ = None

-- one that lies outside its signal writes nothing
abbrev pub bit_in : ℕ → Shape → ℤ → Option Cover
bit_in number shape index =
    if int_le (pos shape.low) index && int_lt index (pos (shape.low + shape.width))
    then Some (record { signal = number; low = unsigned_abs (index -ℤ pos shape.low); count = 1 }) else None

abbrev pub bit_cover : Option Known → Outcome → Option Cover
bit_cover (Some (known.Signal number role (Some shape))) (Ok index) = bit_in number shape index
bit_cover _ _ = None

abbrev pub part_cover : Option Known → Option Field → Option Cover
part_cover (Some (known.Signal number role shape)) (Some field) =
    Some (record { signal = number; low = field.low; count = field.width })
part_cover _ _ = None

-- whether two parts have a bit in common
abbrev pub overlap : Cover → Cover → Bool
overlap a b =
    (a.signal == b.signal) && nat_lt a.low (b.low + b.count) && nat_lt b.low (a.low + a.count)

-- a part that writes a bit which parts before it write
abbrev pub cover_faults : Identifier → List Cover → Option Cover → List Refusal
cover_faults name earlier None = []
cover_faults name earlier (Some cover) =
    if list_any (overlap cover) earlier then fault name.at (NotAssignable name.text) ∷ [] else []

abbrev pub with_cover : List Cover → Option Cover → List Cover
with_cover earlier None = earlier
with_cover earlier (Some cover) = earlier ++ cover ∷ []

abbrev mutual
  -- the bits that are written after a further target
  pub covered : Meanings → List Cover → Target → List Cover
  covered scope earlier (Whole name) = with_cover earlier (whole_cover (scope name.text))
  covered scope earlier (Bit name index) =
      with_cover earlier (bit_cover (scope name.text) (constant (numbers_in scope) index))
  covered scope earlier (Part name kind first second) =
      with_cover earlier (part_cover (scope name.text) (field_in (scope name.text) (msb_in scope kind first second) (lsb_in scope kind first second)))
  covered scope earlier (Joined at parts) = all_covered scope earlier parts

  pub all_covered : Meanings → List Cover → Targets → List Cover
  all_covered scope earlier no_targets = earlier
  all_covered scope earlier (more_targets first others) =
      all_covered scope (covered scope earlier first) others

abbrev mutual
  -- the bits that stand in a target twice, each at the later part
  pub twice_faults : Meanings → List Cover → Target → List Refusal
  twice_faults scope earlier (Whole name) =
      cover_faults name earlier (whole_cover (scope name.text))
  twice_faults scope earlier (Bit name index) =
      cover_faults name earlier (bit_cover (scope name.text) (constant (numbers_in scope) index))
  twice_faults scope earlier (Part name kind first second) =
      cover_faults name earlier (part_cover (scope name.text) (field_in (scope name.text) (msb_in scope kind first second) (lsb_in scope kind first second)))
  twice_faults scope earlier (Joined at parts) = all_twice_faults scope earlier parts

  pub all_twice_faults : Meanings → List Cover → Targets → List Refusal
  all_twice_faults scope earlier no_targets = []
  all_twice_faults scope earlier (more_targets first others) =
      twice_faults scope earlier first ++ all_twice_faults scope (covered scope earlier first) others

-- only a continuous assignment may not write a bit twice; it is looked for where the target's width is known and fits
abbrev pub where_known : Writer → Breadth → List Refusal → List Refusal
where_known writer.Continuous (Bits n) faults = faults
where_known _ _ faults = []

-- the faults of a target
abbrev pub target_faults : Writer → Meanings → Target → List Refusal
target_faults by scope target =
    part_target_faults by scope target ++ where_known by (target_breadth scope target) (twice_faults scope [] target)

-- a constant index is its number, every other one is worked out
abbrev pub bit_selection : ℕ → Outcome → Tree → Selection
bit_selection low (Ok number) index = piece.BitAt low number
bit_selection low (Err fault) index = piece.BitBy low index

abbrev pub part_selection : Option Field → Selection
part_selection (Some field) = piece.Part field.low field.width
part_selection None = piece.Part 0 1

abbrev mutual
  -- the parts of a target of a file from left to right, where signals of the module are numbered from a base on
  pub pieces_of : ℕ → ℕ → Meanings → Target → List Piece
  pieces_of file base scope (Whole name) =
      record { signal = signal_of base (scope name.text); selection = piece.Whole; spot = spot_in file name.at } ∷ []
  pieces_of file base scope (Bit name index) =
      record { signal = signal_of base (scope name.text); selection = bit_selection (low_of (scope name.text)) (constant (numbers_in scope) index) (tree_of file base scope index (own_context scope index)); spot = spot_in file name.at } ∷ []
  pieces_of file base scope (Part name kind first second) =
      record { signal = signal_of base (scope name.text); selection = part_selection (field_in (scope name.text) (msb_in scope kind first second) (lsb_in scope kind first second)); spot = spot_in file name.at } ∷ []
  pieces_of file base scope (Joined at parts) = all_pieces_of file base scope parts

  pub all_pieces_of : ℕ → ℕ → Meanings → Targets → List Piece
  all_pieces_of file base scope no_targets = []
  all_pieces_of file base scope (more_targets first others) =
      pieces_of file base scope first ++ all_pieces_of file base scope others
