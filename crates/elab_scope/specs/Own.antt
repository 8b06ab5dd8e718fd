-- The width and the sign that an expression has by itself (IEEE 1364-2001 sections 4.4.1 and 4.5.1).
-- Worked examples: crates/tests_layers/stdin.
use Rattle.std.specs.Prelude.{Bool, true, false, ◌&&◌, Option, None, Some, Ok}
use Rattle.rtl_const.specs.Constant.{Outcome, constant}
use Rattle.rtl_tree.specs.declared.tree.operators.SystemFunction.{SystemFunction}
use Rattle.rtl_tree.specs.declared.tree.operators.SystemFunction.TheVariants.{Signed, Unsigned, Clog2}
use Rattle.rtl_tree.specs.TreeExpr.{Formula, Number, Read, ReadBit, ReadPart, Parens, Apply, Concat, Repeat, Unary, Binary, Choose, Formulas, no_formulas, more_formulas}
use Rattle.elab_scope.specs.declared.known.Known.{Known}
use Rattle.elab_scope.specs.declared.known.Known.TheVariants as known
use Rattle.elab_scope.specs.declared.operators.Prefix.{Prefix}
use Rattle.elab_scope.specs.declared.operators.Prefix.TheVariants.{Turn, Fold}
use Rattle.elab_scope.specs.declared.operators.Operation.{Operation}
use Rattle.elab_scope.specs.declared.operators.Operation.TheVariants.{Join, Compare, Link, Shift, Power}
use Rattle.elab_scope.specs.declared.widths.Breadth.{Breadth}
use Rattle.elab_scope.specs.declared.widths.Breadth.TheVariants.{Bits, Hidden}
use Rattle.elab_scope.specs.declared.widths.Field.{Field}
use Rattle.elab_scope.specs.Names.{Meanings, numbers_in}
use Rattle.elab_scope.specs.Operators.{operation, prefix}
use Rattle.elab_scope.specs.Selects.{msb_in, lsb_in}
use Rattle.elab_scope.specs.Widths.{fitted, wider, beside, fit, repeated, field}

-- of what a name stands for; an `integer` is a signed literal of 32 bits
abbrev pub name_breadth : Option Known → Breadth
name_breadth (Some (known.Signal number role (Some shape))) = fitted shape.width
name_breadth (Some (known.Parameter number width signed)) = fitted width
name_breadth (Some (known.Integer number)) = Bits 32
name_breadth _ = Hidden

-- of a part that may be there
abbrev pub field_breadth : Option Field → Breadth
field_breadth (Some field) = Bits field.width
field_breadth None = Hidden

abbrev pub part_breadth : Option Known → Outcome → Outcome → Breadth
part_breadth (Some (known.Signal number role (Some shape))) (Ok msb) (Ok lsb) = field_breadth (field shape msb lsb)
part_breadth _ _ _ = Hidden

-- `$clog2` gives a number of 32 bits
abbrev pub function_breadth : SystemFunction → Breadth → Breadth
function_breadth Signed a = a
function_breadth Unsigned a = a
function_breadth Clog2 a = Bits 32

abbrev pub prefix_breadth : Prefix → Breadth → Breadth
prefix_breadth (Turn operator) a = a
prefix_breadth (Fold operator) a = Bits 1

abbrev pub operation_breadth : Operation → Breadth → Breadth → Breadth
operation_breadth (Join operator) a b = wider a b
operation_breadth (Compare operator) a b = Bits 1
operation_breadth (Link operator) a b = Bits 1
operation_breadth (Shift operator) a b = a
operation_breadth Power a b = a

abbrev mutual
  -- how many bits an expression has by itself
  pub breadth : Meanings → Formula → Breadth
  breadth scope (Number value at) = fitted value.width
  breadth scope (Read name) = name_breadth (scope name.text)
  breadth scope (ReadBit name index) = Bits 1
  breadth scope (ReadPart name kind first second) =
      part_breadth (scope name.text) (msb_in scope kind first second) (lsb_in scope kind first second)
  breadth scope (Parens at inner) = breadth scope inner
  breadth scope (Apply function at inner) = function_breadth function (breadth scope inner)
  breadth scope (Concat at parts) = fit (row_breadth scope parts)
  breadth scope (Repeat at times parts) =
      repeated (constant (numbers_in scope) times) (fit (row_breadth scope parts))
  breadth scope (Unary operator at operand) = prefix_breadth (prefix operator) (breadth scope operand)
  breadth scope (Binary operator at left right) =
      operation_breadth (operation operator) (breadth scope left) (breadth scope right)
  breadth scope (Choose at condition taken otherwise) =
      wider (breadth scope taken) (breadth scope otherwise)

  -- of parts beside one another
  pub row_breadth : Meanings → Formulas → Breadth
  row_breadth scope no_formulas = Bits 0
  row_breadth scope (more_formulas first others) =
      beside (breadth scope first) (row_breadth scope others)

abbrev pub name_sign : Option Known → Bool
name_sign (Some (known.Signal number role (Some shape))) = shape.signed
name_sign (Some (known.Parameter number width signed)) = signed
name_sign (Some (known.Integer number)) = true
name_sign _ = false

-- whether what a function gives is signed
abbrev pub is_signed : SystemFunction → Bool
is_signed Signed = true
is_signed Unsigned = false
is_signed Clog2 = true

abbrev pub prefix_sign : Prefix → Bool → Bool
prefix_sign (Turn operator) a = a
prefix_sign (Fold operator) a = false

abbrev pub operation_sign : Operation → Bool → Bool → Bool
operation_sign (Join operator) a b = a && b
operation_sign (Compare operator) a b = false
operation_sign (Link operator) a b = false
operation_sign (Shift operator) a b = a
operation_sign Power a b = a

-- whether an expression is signed by itself: one unsigned operand makes it unsigned, and so are selects,
-- concatenations and comparisons
abbrev pub sign : Meanings → Formula → Bool
sign scope (Number value at) = value.signed
sign scope (Read name) = name_sign (scope name.text)
sign scope (Parens at inner) = sign scope inner
sign scope (Apply function at inner) = is_signed function
sign scope (Unary operator at operand) = prefix_sign (prefix operator) (sign scope operand)
sign scope (Binary operator at left right) =
    operation_sign (operation operator) (sign scope left) (sign scope right)
sign scope (Choose at condition taken otherwise) = sign scope taken && sign scope otherwise
sign scope _ = false
