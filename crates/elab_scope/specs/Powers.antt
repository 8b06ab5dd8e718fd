-- `**` outside of constant expressions: a literal, as wide and as signed as its left operand.
-- Worked examples: proofs/Example.antt.
use Rattle.std.specs.Prelude.{ℕ, ◌-◌, ◌^◌, pos, int_le, int_lt, Bool, true, false, ◌&&◌, if◌then◌else◌, List, [], ◌∷◌, Option, Some, Ok, Err}
use Rattle.rtl_const.specs.Constant.{Outcome, constant}
use Rattle.rtl_const.specs.declared.fault.ConstFault.TheVariants.{NotConstant, Overflow}
use Rattle.rtl_tree.specs.TreeExpr.{Formula, Number, Read, Parens, formula_place}
use Rattle.elab_scope.specs.declared.known.Known.{Known}
use Rattle.elab_scope.specs.declared.known.Known.TheVariants.{Parameter, Integer}
use Rattle.elab_scope.specs.declared.operators.Operation.{Operation}
use Rattle.elab_scope.specs.declared.operators.Operation.TheVariants.{Join, Compare, Link, Shift, Power}
use Rattle.elab_scope.specs.declared.widths.Breadth.{Breadth}
use Rattle.elab_scope.specs.Faults.{Const, Refusal}
use Rattle.elab_scope.specs.Names.{Meanings, numbers_in}
use Rattle.elab_scope.specs.Own.{breadth, sign}
use Rattle.elab_scope.specs.Rules.{fault, number_faults}
use Rattle.elab_scope.specs.Widths.{bits}

-- whether a name stands for a number
abbrev pub is_number : Option Known → Bool
is_number (Some (Parameter number width signed)) = true
is_number (Some (Integer number)) = true
is_number _ = false

-- whether an expression is a literal or a name that stands for a number, in parentheses or without
abbrev pub is_base : Meanings → Formula → Bool
is_base scope (Number value at) = true
is_base scope (Read name) = is_number (scope name.text)
is_base scope (Parens at inner) = is_base scope inner
is_base scope _ = false

-- in how many of so many bits a number lies that isn't negative: the highest is for the sign where they are signed
abbrev pub places_of : ℕ → Bool → ℕ
places_of width signed = if signed then width - 1 else width

-- whether there is a number, and it isn't negative
abbrev pub is_natural : Outcome → Bool
is_natural (Ok n) = int_le (pos 0) n
is_natural (Err fault) = false

-- a base and its power, which is to have so many bits
abbrev pub raised_faults : ℕ → Breadth → Bool → Outcome → Outcome → List Refusal
raised_faults at width signed base (Err cause) = number_faults (Err cause)
raised_faults at width signed base (Ok power) =
    if is_natural base && int_lt power (pos (2 ^ places_of (bits width) signed)) then [] else fault at (Const (Overflow at)) ∷ []

-- the faults of a power, beside those of its operands: its base is a literal or stands for a number, and has that number;
-- the whole is constant, and a number as wide and as signed as the base
abbrev pub power_faults : Meanings → ℕ → Formula → Formula → List Refusal
power_faults scope at base power =
    if is_base scope base
    then raised_faults at (breadth scope base) (sign scope base) (constant (numbers_in scope) base) (constant (numbers_in scope) power)
    else number_faults (Err (NotConstant (formula_place base)))

-- of the operators between two operands the power alone has faults of its own
abbrev pub operation_faults : Operation → List Refusal → List Refusal
operation_faults (Join operator) faults = []
operation_faults (Compare operator) faults = []
operation_faults (Link operator) faults = []
operation_faults (Shift operator) faults = []
operation_faults Power faults = faults
