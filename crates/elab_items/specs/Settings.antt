-- What instances set parameters to, and what parameters are (IEEE 1364-2001 sections 3.11.1 and 12.2).
-- Worked examples: proofs/Examples.antt.
use Rattle.std.specs.Prelude.{ℕ, ◌^◌, min, ℤ, pos, ◌-ℤ◌, int_lt, true, false, if◌then◌else◌, List, Option, None, Some, Ok, Err}
use Rattle.std.specs.Int.{int_rem_euclid}
use Rattle.std.specs.Option.{option_map}
use Rattle.name_map.specs.Values.{Values, no_values, values_of, with_value}
use Rattle.rtl_const.specs.Constant.{Outcome, constant}
use Rattle.rtl_const.specs.Numbers.{Numbers}
use Rattle.rtl_tree.specs.declared.literal.Literal.{Literal}
use Rattle.rtl_tree.specs.declared.tree.item.ParameterKind.{ParameterKind}
use Rattle.rtl_tree.specs.declared.tree.item.ParameterKind.TheVariants as kind
use Rattle.rtl_tree.specs.TreeExpr.{Formula, Number}
use Rattle.elab_scope.specs.declared.known.Known.{Known}
use Rattle.elab_scope.specs.declared.known.Known.TheVariants as known
use Rattle.elab_scope.specs.Widths.{bits, fitted}
use Rattle.elab_items.specs.declared.overrides.Format.{Format}
use Rattle.elab_items.specs.declared.overrides.Override.{Override}
use Rattle.elab_items.specs.declared.overrides.Overrides.{Overrides}
use Rattle.elab_items.specs.declared.reach.Reach.{Reach}
use Rattle.elab_items.specs.declared.reach.Reach.TheVariants.{Scalar, Bits, Hidden}

-- what each parameter is set to that is set
abbrev pub Settings : Type 0
Settings = Values Override

abbrev pub no_settings : Settings
no_settings = no_values

-- the same, but that one parameter is set to this
abbrev pub with_setting : Settings → List ℕ → Override → Settings
with_setting settings name given = with_value settings name given

-- what a map of settings holds
abbrev pub settings_of : Overrides → Settings
settings_of overrides = values_of overrides.given

abbrev pub number_in : Outcome → Option ℤ
number_in (Ok number) = Some number
number_in (Err cause) = None

-- the width and the sign of a value that is one sized literal alone
abbrev pub literal_format : Literal → Option Format
literal_format value =
    if value.sized then Some (record { width = value.width; signed = value.signed }) else None

abbrev pub format_of : Formula → Option Format
format_of (Number value at) = literal_format value
format_of _ = None

-- a value with the numbers that hold for it
abbrev pub value_of : Numbers → Formula → Override
value_of numbers value = record { number = number_in (constant numbers value); literal = format_of value }

-- a number in so many bits, unsigned
abbrev pub unsigned_in : ℕ → ℤ → ℤ
unsigned_in width number = int_rem_euclid number (pos (2 ^ width))

-- a number in 32 bits, signed
abbrev pub signed_in_32 : ℤ → ℤ
signed_in_32 number =
    let low = unsigned_in 32 number in
    if int_lt low (pos (2 ^ 31)) then low else low -ℤ pos (2 ^ 32)

-- a parameter without a range has the width and the sign of a sized literal, else it is signed and has 32 bits
abbrev pub unranged : Option Format → Option ℤ → Known
unranged (Some format) number = known.Parameter number (bits (fitted format.width)) format.signed
unranged None number = known.Parameter (option_map signed_in_32 number) 32 true

-- a parameter with a range has its width, of at most 32 bits, and is unsigned; one whose range is at fault is taken as
-- one without
abbrev pub parameter_of : Reach → Override → Known
parameter_of (Bits width low) value =
    known.Parameter (option_map (unsigned_in (min width 32)) value.number) (min width 32) false
parameter_of Scalar value = unranged value.literal value.number
parameter_of Hidden value = unranged value.literal value.number

-- what an instance sets a parameter to; a `localparam` keeps its value
abbrev pub given_to : Settings → ParameterKind → List ℕ → Option Override
given_to settings kind.Parameter name = settings name
given_to settings kind.Local name = None

abbrev pub set_or : Option Override → Override → Override
set_or None own = own
set_or (Some given) own = given
