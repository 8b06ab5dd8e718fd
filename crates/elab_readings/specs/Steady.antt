-- Arguments of inputs whose value doesn't hang on whether the port's width is a context of theirs: a port is assigned its
-- argument (IEEE 1364-2001 sections 12.3.9 and 4.4.1), but some tools size the argument by itself and extend it then.
-- Worked examples: proofs/Examples.antt.
use Rattle.std.specs.Prelude.{◌==◌, Bool, true, false, ◌&&◌, not, if◌then◌else◌, Option, Some}
use Rattle.rtl_tree.specs.declared.tree.operators.SystemFunction.{SystemFunction}
use Rattle.rtl_tree.specs.declared.tree.operators.SystemFunction.TheVariants.{Signed, Unsigned, Clog2}
use Rattle.rtl_tree.specs.TreeExpr.{Formula, Number, Read, ReadBit, ReadPart, Parens, Apply, Concat, Repeat, Unary, Binary, Choose}
use Rattle.rtl_flat.specs.declared.expr.Join.{Join as Joining}
use Rattle.rtl_flat.specs.declared.expr.Join.TheVariants as join
use Rattle.rtl_flat.specs.declared.expr.Shift.{Shift as Shifting}
use Rattle.rtl_flat.specs.declared.expr.Shift.TheVariants as shift
use Rattle.rtl_flat.specs.declared.expr.Turn.{Turn as Turning}
use Rattle.rtl_flat.specs.declared.expr.Turn.TheVariants as turn
use Rattle.elab_uses.specs.elab_scope.declared.known.Known.{Known}
use Rattle.elab_uses.specs.elab_scope.declared.known.Known.TheVariants as known
use Rattle.elab_uses.specs.elab_scope.declared.operators.Operation.{Operation}
use Rattle.elab_uses.specs.elab_scope.declared.operators.Operation.TheVariants.{Join, Compare, Link, Shift, Power}
use Rattle.elab_uses.specs.elab_scope.declared.operators.Prefix.{Prefix}
use Rattle.elab_uses.specs.elab_scope.declared.operators.Prefix.TheVariants.{Turn, Fold}
use Rattle.elab_uses.specs.elab_scope.declared.widths.Breadth.{Breadth}
use Rattle.elab_uses.specs.elab_scope.declared.widths.Breadth.TheVariants.{Bits}
use Rattle.elab_uses.specs.elab_scope.Names.{Meanings}
use Rattle.elab_uses.specs.elab_scope.Operators.{operation, prefix}
use Rattle.elab_uses.specs.elab_scope.Own.{breadth, is_signed, sign}

-- an operator that makes no bit above those of its operands, where these are extended by zeros: `& | ^ / %`
abbrev pub keeps_width : Joining → Bool
keeps_width join.And = true
keeps_width join.Or = true
keeps_width join.Xor = true
keeps_width join.Divide = true
keeps_width join.Remainder = true
keeps_width _ = false

-- a shift to the right
abbrev pub goes_right : Shifting → Bool
goes_right shift.Right = true
goes_right shift.ArithmeticRight = true
goes_right shift.Left = false

-- an operand before which an operator stands that takes the context's width: `+ - ~` aren't among those of above
abbrev pub prefix_within : Prefix → Bool
prefix_within (Turn operator) = false
prefix_within (Fold operator) = true

abbrev pub operation_within : Operation → Bool → Bool → Bool
operation_within (Join operator) a b = keeps_width operator && (a && b)
operation_within (Compare operator) a b = true
operation_within (Link operator) a b = true
operation_within (Shift operator) a b = goes_right operator && a
operation_within Power a b = true

-- whether an operand has, beside what is sized by itself, these operators alone
abbrev pub within : Formula → Bool
within (Number value at) = true
within (Read name) = true
within (ReadBit name index) = true
within (ReadPart name kind first second) = true
within (Parens at inner) = within inner
within (Apply function at inner) = true
within (Concat at parts) = true
within (Repeat at times parts) = true
within (Unary operator at operand) = prefix_within (prefix operator)
within (Binary operator at left right) = operation_within (operation operator) (within left) (within right)
within (Choose at condition taken otherwise) = within taken && within otherwise

-- whether a part of so many bits is all of a signed signal: some tools read it as the signal, with its sign
abbrev pub is_signed_whole : Option Known → Breadth → Bool
is_signed_whole (Some (known.Signal number role (Some shape))) (Bits n) = shape.signed && (n == shape.width)
is_signed_whole _ _ = false

-- whether these signs are the same
abbrev pub same_sign : Bool → Bool → Bool
same_sign a b = if a then b else not b

abbrev pub turn_steady : Turning → Bool → Bool
turn_steady turn.Plus a = a
turn_steady turn.Minus a = false
turn_steady turn.Complement a = false

abbrev pub prefix_steady : Prefix → Bool → Bool
prefix_steady (Turn operator) a = turn_steady operator a
prefix_steady (Fold operator) a = true

-- `$clog2` and a power are literals
abbrev pub function_steady : SystemFunction → Bool → Bool
function_steady Signed argument = argument
function_steady Unsigned argument = argument
function_steady Clog2 argument = true

abbrev pub operation_steady : Operation → Bool → Bool
operation_steady Power operands = true
operation_steady _ operands = operands

-- whether an argument has the same value in the context of a wider port as by itself, extended by its own sign
abbrev pub steady : Meanings → Formula → Bool
steady scope (Number value at) = true
steady scope (Read name) = true
steady scope (ReadBit name index) = true
steady scope (ReadPart name kind first second) =
    not (is_signed_whole (scope name.text) (breadth scope (ReadPart name kind first second)))
steady scope (Parens at inner) = steady scope inner
steady scope (Apply function at inner) =
    function_steady function (same_sign (is_signed function) (sign scope inner) && steady scope inner)
steady scope (Concat at parts) = true
steady scope (Repeat at times parts) = true
steady scope (Unary operator at operand) = prefix_steady (prefix operator) (steady scope operand)
steady scope (Binary operator at left right) =
    operation_steady (operation operator) (within (Binary operator at left right) && not (sign scope (Binary operator at left right)))
steady scope (Choose at condition taken otherwise) =
    within (Choose at condition taken otherwise) && not (sign scope (Choose at condition taken otherwise))
