-- The sized tree of an expression, from the root downwards (IEEE 1364-2001 sections 4.4 and 4.5). It is there for
-- every expression; one without faults has the tree that the sizing of flat designs gives it.
-- Worked examples: crates/tests_layers/stdin.
use Rattle.std.specs.Prelude.{ℕ, ◌+◌, ◌-◌, ◌^◌, min, ℤ, pos, negsuc, Bool, false, ◌&&◌, List, Option, None, Some, Ok, Err}
use Rattle.std.specs.Result.{result_ok}
use Rattle.rtl_bits.specs.declared.Bit.{Bit}
use Rattle.rtl_bits.specs.Bits.{bits_of, extended}
use Rattle.rtl_bits.specs.Planes.{bits_of_planes}
use Rattle.rtl_const.specs.Constant.{Outcome, constant}
use Rattle.rtl_tree.specs.declared.literal.Literal.{Literal}
use Rattle.text_ground.specs.declared.text.Spot.{Spot}
use Rattle.rtl_tree.specs.declared.tree.operators.SystemFunction.{SystemFunction}
use Rattle.rtl_tree.specs.declared.tree.operators.SystemFunction.TheVariants.{Signed, Unsigned, Clog2}
use Rattle.rtl_tree.specs.TreeExpr.{Formula, Number, Read, ReadBit, ReadPart, Parens, Apply, Concat, Repeat, Unary, Binary, Choose, Formulas, no_formulas, more_formulas}
use Rattle.rtl_flat.specs.Expression.{Tree, Sized}
use Rattle.rtl_flat.specs.Expression as tree
use Rattle.rtl_flat.specs.Sizing.{literal_at}
use Rattle.elab_scope.specs.declared.known.Known.{Known}
use Rattle.elab_scope.specs.declared.known.Known.TheVariants as known
use Rattle.elab_scope.specs.declared.operators.Prefix.{Prefix}
use Rattle.elab_scope.specs.declared.operators.Prefix.TheVariants.{Turn, Fold}
use Rattle.elab_scope.specs.declared.operators.Operation.{Operation}
use Rattle.elab_scope.specs.declared.operators.Operation.TheVariants.{Join, Compare, Link, Shift, Power}
use Rattle.elab_scope.specs.declared.context.Context.{Context}
use Rattle.elab_scope.specs.declared.widths.Breadth.{Breadth}
use Rattle.elab_scope.specs.declared.widths.Breadth.TheVariants.{Bits}
use Rattle.elab_scope.specs.declared.widths.Field.{Field}
use Rattle.elab_scope.specs.Names.{Meanings, numbers_in}
use Rattle.elab_scope.specs.Operators.{operation, prefix}
use Rattle.elab_scope.specs.Own.{breadth, row_breadth, sign}
use Rattle.elab_scope.specs.Selects.{msb_in, lsb_in}
use Rattle.elab_scope.specs.Widths.{fitted, wider, fit, bits, field}

abbrev pub spot_in : ℕ → ℕ → Spot
spot_in file at = record { file = file; at = at }

-- the bits of a literal
abbrev pub literal_bits : Literal → List Bit
literal_bits value = bits_of_planes (bits (fitted value.width)) value.val value.unk

-- a number in two's complement of 128 bits; 0 where there is none
abbrev pub pattern : Option ℤ → ℕ
pattern (Some (pos n)) = n
pattern (Some (negsuc n)) = 2 ^ 128 - 1 - n
pattern None = 0

-- the bits of a name that stands for a number; an `integer` has 32
abbrev pub named_bits : Option Known → List Bit
named_bits (Some (known.Parameter number width signed)) = bits_of (bits (fitted width)) (pattern number)
named_bits (Some (known.Integer number)) = bits_of 32 (pattern number)
named_bits _ = bits_of 1 0

-- the bits of a number that is worked out where the design is made
abbrev pub number_bits : Breadth → Outcome → List Bit
number_bits width number = bits_of (bits width) (pattern (result_ok number))

-- what is read where a name is read whole; signals of the module are numbered from a base on
abbrev pub named_form : ℕ → Option Known → ℕ → Bool → Tree
named_form base (Some (known.Signal number role shape)) width signed = tree.Whole (base + number)
named_form base other width signed = tree.Literal (extended width signed (named_bits other))

-- the number of a signal in the design
abbrev pub signal_of : ℕ → Option Known → ℕ
signal_of base (Some (known.Signal number role shape)) = base + number
signal_of base _ = base

-- the number that its declaration gives to its least significant bit
abbrev pub low_of : Option Known → ℕ
low_of (Some (known.Signal number role (Some shape))) = shape.low
low_of _ = 0

-- the part that is selected
abbrev pub field_in : Option Known → Outcome → Outcome → Option Field
field_in (Some (known.Signal number role (Some shape))) (Ok msb) (Ok lsb) = field shape msb lsb
field_in _ _ _ = None

-- a constant index is its number, every other one is worked out
abbrev pub bit_form : ℕ → ℕ → Outcome → Bool → Tree → Tree
bit_form signal low (Ok number) signed index = tree.BitAt signal low number
bit_form signal low (Err fault) signed index = tree.BitBy signal low signed index

abbrev pub part_form : ℕ → Option Field → Tree
part_form signal (Some field) = tree.Part signal field.low field.width
part_form signal None = tree.Part signal 0 1

-- how many copies
abbrev pub copies_of : Outcome → ℕ
copies_of (Ok (pos n)) = min n 128
copies_of _ = 1

-- the width and the sign that an expression has by itself
abbrev pub own_context : Meanings → Formula → Context
own_context scope e = record { width = bits (breadth scope e); signed = sign scope e }

-- those that operands have with each other
abbrev pub shared_context : Meanings → Formula → Formula → Context
shared_context scope a b =
    record { width = bits (wider (breadth scope a) (breadth scope b)); signed = sign scope a && sign scope b }

-- the operand of an arithmetic or bitwise operator takes the context's width and sign, that of any other its own
abbrev pub operand_context : Meanings → Prefix → Formula → Context → Context
operand_context scope (Turn operator) a context = context
operand_context scope (Fold operator) a context = own_context scope a

abbrev pub prefix_form : Prefix → Tree → Tree
prefix_form (Turn operator) a = tree.Turned operator a
prefix_form (Fold operator) a = tree.Folded operator a

-- operands of arithmetic and bitwise operators, and what is shifted or raised to a power, take the context's width and
-- sign; those of a comparison are sized with each other; all others by themselves
abbrev pub left_context : Meanings → Operation → Formula → Formula → Context → Context
left_context scope (Join operator) a b context = context
left_context scope (Compare operator) a b context = shared_context scope a b
left_context scope (Link operator) a b context = own_context scope a
left_context scope (Shift operator) a b context = context
left_context scope Power a b context = context

abbrev pub right_context : Meanings → Operation → Formula → Formula → Context → Context
right_context scope (Join operator) a b context = context
right_context scope (Compare operator) a b context = shared_context scope a b
right_context scope (Link operator) a b context = own_context scope b
right_context scope (Shift operator) a b context = own_context scope b
right_context scope Power a b context = own_context scope b

-- what has its sign converted stands in the tree, and `$clog2` of it is a literal with these bits
abbrev pub function_form : SystemFunction → List Bit → Tree → Tree
function_form Signed number a = tree.Recast a
function_form Unsigned number a = tree.Recast a
function_form Clog2 number a = tree.Literal number

-- an operator between operands, of which the left one has this sign; a power is a literal with these bits
abbrev pub operation_form : Operation → Bool → List Bit → Tree → Tree → Tree
operation_form (Join operator) signed number a b = tree.Joined operator signed a b
operation_form (Compare operator) signed number a b = tree.Compared operator signed a b
operation_form (Link operator) signed number a b = tree.Linked operator a b
operation_form (Shift operator) signed number a b = tree.Shifted operator signed a b
operation_form Power signed number a b = tree.Literal number

abbrev mutual
  -- the tree of an expression of a file in a context
  pub tree_of : ℕ → ℕ → Meanings → Formula → Context → Tree
  tree_of file base scope (Number value at) c =
      Sized c.width c.signed (spot_in file at) (tree.Literal (literal_at c.width c.signed value.sized (literal_bits value)))
  tree_of file base scope (Read name) c =
      Sized c.width c.signed (spot_in file name.at) (named_form base (scope name.text) c.width c.signed)
  tree_of file base scope (ReadBit name index) c =
      Sized c.width c.signed (spot_in file name.at) (bit_form (signal_of base (scope name.text)) (low_of (scope name.text)) (constant (numbers_in scope) index) (sign scope index) (tree_of file base scope index (own_context scope index)))
  tree_of file base scope (ReadPart name kind first second) c =
      Sized c.width c.signed (spot_in file name.at) (part_form (signal_of base (scope name.text)) (field_in (scope name.text) (msb_in scope kind first second) (lsb_in scope kind first second)))
  tree_of file base scope (Parens at inner) c = tree_of file base scope inner c
  tree_of file base scope (Apply function at inner) c =
      Sized c.width c.signed (spot_in file at) (function_form function (extended c.width c.signed (number_bits (Bits 32) (constant (numbers_in scope) (Apply function at inner)))) (tree_of file base scope inner (own_context scope inner)))
  tree_of file base scope (Concat at parts) c =
      Sized c.width c.signed (spot_in file at) (row_tree file base scope parts)
  tree_of file base scope (Repeat at times parts) c =
      Sized c.width c.signed (spot_in file at) (tree.Repeated (copies_of (constant (numbers_in scope) times)) (Sized (bits (fit (row_breadth scope parts))) false (spot_in file at) (row_tree file base scope parts)))
  tree_of file base scope (Unary operator at a) c =
      Sized c.width c.signed (spot_in file at) (prefix_form (prefix operator) (tree_of file base scope a (operand_context scope (prefix operator) a c)))
  tree_of file base scope (Binary operator at a b) c =
      Sized c.width c.signed (spot_in file at) (operation_form (operation operator) (left_context scope (operation operator) a b c).signed (extended c.width c.signed (number_bits (breadth scope a) (constant (numbers_in scope) (Binary operator at a b)))) (tree_of file base scope a (left_context scope (operation operator) a b c)) (tree_of file base scope b (right_context scope (operation operator) a b c)))
  tree_of file base scope (Choose at condition taken otherwise) c =
      Sized c.width c.signed (spot_in file at) (tree.Chosen (tree_of file base scope condition (own_context scope condition)) (tree_of file base scope taken c) (tree_of file base scope otherwise c))

  -- parts beside one another, each sized by itself
  pub row_tree : ℕ → ℕ → Meanings → Formulas → Tree
  row_tree file base scope no_formulas = tree.Empty
  row_tree file base scope (more_formulas first others) =
      tree.Beside (tree_of file base scope first (own_context scope first)) (row_tree file base scope others)
