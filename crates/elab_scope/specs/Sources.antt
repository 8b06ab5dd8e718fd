-- It serves inner contracts and proofs; no answer of the program is stated by it.
-- An expression as the sizing of flat designs takes it: its names are signals and numbers, its parentheses are gone.
use Rattle.std.specs.Prelude.{ℕ, ◌+◌, ◌<◌, ◌≤◌, ◌≡◌, true, Bool, List, length, Option, None, Some, Ok, Err}
use Rattle.rtl_const.specs.Constant.{Outcome, constant}
use Rattle.rtl_bits.specs.declared.Bit.{Bit}
use Rattle.text_ground.specs.declared.text.Spot.{Spot}
use Rattle.rtl_tree.specs.declared.tree.operators.SystemFunction.{SystemFunction}
use Rattle.rtl_tree.specs.declared.tree.operators.SystemFunction.TheVariants.{Signed, Unsigned, Clog2}
use Rattle.rtl_tree.specs.TreeExpr.{Formula, Number, Read, ReadBit, ReadPart, Parens, Apply, Concat, Repeat, Unary, Binary, Choose, Formulas, no_formulas, more_formulas}
use Rattle.rtl_flat.specs.declared.signal.Signal.{Signal}
use Rattle.rtl_flat.specs.Signs.{width_in}
use Rattle.rtl_flat.specs.Sizing.{Source, signed_in, low_in}
use Rattle.rtl_flat.specs.Sizing as sizing
use Rattle.elab_scope.specs.declared.known.Known.{Known}
use Rattle.elab_scope.specs.declared.known.Known.TheVariants as known
use Rattle.elab_scope.specs.declared.operators.Prefix.{Prefix}
use Rattle.elab_scope.specs.declared.operators.Prefix.TheVariants.{Turn, Fold}
use Rattle.elab_scope.specs.declared.operators.Operation.{Operation}
use Rattle.elab_scope.specs.declared.operators.Operation.TheVariants.{Join, Compare, Link, Shift, Power}
use Rattle.elab_scope.specs.declared.widths.Breadth.TheVariants.{Bits}
use Rattle.elab_scope.specs.declared.widths.Field.{Field}
use Rattle.elab_scope.specs.Names.{Meanings, numbers_in}
use Rattle.elab_scope.specs.Operators.{operation, prefix}
use Rattle.elab_scope.specs.Own.{breadth, is_signed, name_sign, sign}
use Rattle.elab_scope.specs.Selects.{msb_in, lsb_in}
use Rattle.elab_scope.specs.Trees.{copies_of, field_in, literal_bits, named_bits, number_bits, signal_of, spot_in}

-- a name that is read whole: a signal, or a literal
abbrev pub name_source : Spot → ℕ → Option Known → Source
name_source spot base (Some (known.Signal number role shape)) = sizing.Whole spot (base + number)
name_source spot base other = sizing.Number spot (named_bits other) (name_sign other) true

abbrev pub bit_source : Spot → ℕ → Outcome → Source → Source
bit_source spot signal (Ok number) index = sizing.BitAt spot signal number
bit_source spot signal (Err fault) index = sizing.BitBy spot signal index

abbrev pub part_source : Spot → ℕ → Option Field → Source
part_source spot signal (Some field) = sizing.Part spot signal field.low field.width
part_source spot signal None = sizing.Part spot signal 0 1

abbrev pub prefix_source : Spot → Prefix → Source → Source
prefix_source spot (Turn operator) a = sizing.Turned spot operator a
prefix_source spot (Fold operator) a = sizing.Folded spot operator a

abbrev pub function_source : Spot → SystemFunction → List Bit → Source → Source
function_source spot Signed number a = sizing.Recast spot (is_signed Signed) a
function_source spot Unsigned number a = sizing.Recast spot (is_signed Unsigned) a
function_source spot Clog2 number a = sizing.Number spot number (is_signed Clog2) true

-- a power is a literal with these bits and this sign
abbrev pub operation_source : Spot → Operation → List Bit → Bool → Source → Source → Source
operation_source spot (Join operator) number signed a b = sizing.Joined spot operator a b
operation_source spot (Compare operator) number signed a b = sizing.Compared spot operator a b
operation_source spot (Link operator) number signed a b = sizing.Linked spot operator a b
operation_source spot (Shift operator) number signed a b = sizing.Shifted spot operator a b
operation_source spot Power number signed a b = sizing.Number spot number signed true

abbrev mutual
  -- an expression of a file, where signals of the module are numbered from a base on
  pub source : ℕ → ℕ → Meanings → Formula → Source
  source file base scope (Number value at) =
      sizing.Number (spot_in file at) (literal_bits value) value.signed value.sized
  source file base scope (Read name) =
      name_source (spot_in file name.at) base (scope name.text)
  source file base scope (ReadBit name index) =
      bit_source (spot_in file name.at) (signal_of base (scope name.text)) (constant (numbers_in scope) index) (source file base scope index)
  source file base scope (ReadPart name kind first second) =
      part_source (spot_in file name.at) (signal_of base (scope name.text)) (field_in (scope name.text) (msb_in scope kind first second) (lsb_in scope kind first second))
  source file base scope (Parens at inner) = source file base scope inner
  source file base scope (Apply function at inner) =
      function_source (spot_in file at) function (number_bits (Bits 32) (constant (numbers_in scope) (Apply function at inner))) (source file base scope inner)
  source file base scope (Concat at parts) =
      sizing.Concat (spot_in file at) (row_source file base scope parts)
  source file base scope (Repeat at times parts) =
      sizing.Repeated (spot_in file at) (copies_of (constant (numbers_in scope) times)) (sizing.Concat (spot_in file at) (row_source file base scope parts))
  source file base scope (Unary operator at a) =
      prefix_source (spot_in file at) (prefix operator) (source file base scope a)
  source file base scope (Binary operator at a b) =
      operation_source (spot_in file at) (operation operator) (number_bits (breadth scope a) (constant (numbers_in scope) (Binary operator at a b))) (sign scope a) (source file base scope a) (source file base scope b)
  source file base scope (Choose at condition taken otherwise) =
      sizing.Chosen (spot_in file at) (source file base scope condition) (source file base scope taken) (source file base scope otherwise)

  pub row_source : ℕ → ℕ → Meanings → Formulas → Source
  row_source file base scope no_formulas = sizing.Empty
  row_source file base scope (more_formulas first others) =
      sizing.Beside (source file base scope first) (row_source file base scope others)

-- whether the design has the signal that a name stands for, as the module declares it
abbrev pub IsDescribed : ℕ → List Signal → Option Known → Type 0
IsDescribed base signals None = Unit {0}
IsDescribed base signals (Some (known.Integer number)) = Unit {0}
IsDescribed base signals (Some (known.Parameter number width signed)) = (1 ≤ width) × (width ≤ 128)
IsDescribed base signals (Some (known.Signal number role None)) = ⊥
IsDescribed base signals (Some (known.Signal number role (Some shape))) =
    (base + number < length signals)
    × (width_in signals (base + number) ≡ shape.width)
    × (signed_in signals (base + number) ≡ shape.signed)
    × (low_in signals (base + number) ≡ shape.low)
    × (1 ≤ shape.width)
    × (shape.width ≤ 128)

-- whether a scope without faults speaks of the signals of a design
abbrev pub Describes : ℕ → List Signal → Meanings → Type 0
Describes base signals scope = (name : List ℕ) → IsDescribed base signals (scope name)
