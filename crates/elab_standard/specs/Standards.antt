-- The parameters of an instance by the standard, in the order of their declarations (IEEE 1364-2001 sections 3.11.1 and
-- 12.2).
-- Worked examples: crates/tests_rows/stdin.
use Rattle.std.specs.Prelude.{ℕ, ◌+◌, Bool, true, false, not, cond, if◌then◌else◌, List, [], ◌∷◌, ◌++◌, Option, None, Some}
use Rattle.std.specs.List.{slice_get}
use Rattle.name_map.specs.Values.{Values, entered, no_values, with_value}
use Rattle.rtl_bits.specs.declared.Bit.{Bit}
use Rattle.rtl_bits.specs.Bits.{extended, has_unknown, number}
use Rattle.rtl_tree.specs.declared.tree.item.ParameterKind.{ParameterKind}
use Rattle.rtl_tree.specs.declared.tree.item.ParameterKind.TheVariants as kind
use Rattle.rtl_tree.specs.TreeExpr.{Bounds, Formula, Identifier}
use Rattle.rtl_tree.specs.TreeItem.{Association, ByPosition, ByName, Associated, Positional}
use Rattle.rtl_tree.specs.TreeModule.{Circuit}
use Rattle.elab_walk.specs.elab_scope.declared.context.Context.{Context}
use Rattle.elab_walk.specs.elab_scope.declared.known.Known.{Known}
use Rattle.elab_walk.specs.elab_scope.declared.known.Known.TheVariants as known
use Rattle.elab_walk.specs.elab_scope.Names.{Meanings}
use Rattle.elab_walk.specs.elab_scope.Trees.{own_context}
use Rattle.elab_walk.specs.elab_scope.Widths.{bits, fitted}
use Rattle.elab_walk.specs.elab_items.Declarations.{Declaration, ParameterRange, Parameter, SignalRange, Listed, Signal, Integer, Instance, declarations}
use Rattle.elab_standard.specs.declared.standard.Standard.{Standard}
use Rattle.elab_standard.specs.Scopes.{Scopes, restated, standard_bits}
use Rattle.elab_standard.specs.Unsized.{is_unsized}
use Rattle.elab_standard.specs.Worth.{own_worth, taken_worth}

-- the number that bits spell; none where one isn't known
abbrev pub number_given : List Bit → Option ℕ
number_given a = cond (has_unknown a) None (Some (number a))

-- what a parameter without a range is where its value is this expression: it has the expression's width, sign and bits
abbrev pub own_standard : Scopes → Formula → Standard
own_standard s e =
    record {
      width = (own_context (restated s) e).width;
      signed = (own_context (restated s) e).signed;
      bits = number_given (own_worth s e);
      sized = not (is_unsized s e);
    }

-- what a parameter with a range of so many bits is: it has no sign
abbrev pub ranged_standard : ℕ → List Bit → Standard
ranged_standard width a = record { width = width; signed = false; bits = number_given a; sized = true }

-- an instance's value in a range: by the sign that it has where it stands
abbrev pub converted : ℕ → Standard → Standard
converted width given =
    ranged_standard width (extended width given.signed (standard_bits given))

-- a parameter's width, by the desk
abbrev pub parameter_width : Option Known → Option ℕ
parameter_width (Some (known.Parameter number width signed)) = Some width
parameter_width _ = None

-- the width of a parameter's range, where it has one
abbrev pub ranged_width : Meanings → Bool → List ℕ → Option ℕ
ranged_width scope ranged name = if ranged then parameter_width (scope name) else None

-- a parameter with its own value, or with the one that its instance gives it
abbrev pub own_parameter : Scopes → Option ℕ → Formula → Standard
own_parameter s None value = own_standard s value
own_parameter s (Some width) value =
    ranged_standard (bits (fitted width)) (taken_worth s (bits (fitted width)) value)

abbrev pub given_parameter : Option ℕ → Standard → Standard
given_parameter None given = given
given_parameter (Some width) given = converted (bits (fitted width)) given

abbrev pub parameter_standard : Scopes → Option ℕ → Option Standard → Formula → Standard
parameter_standard s width None value = own_parameter s width value
parameter_standard s width (Some given) value = given_parameter width given

-- what an instance gives a parameter; a `localparam` keeps its value
abbrev pub given_to : Values Standard → ParameterKind → List ℕ → Option Standard
given_to given kind.Parameter name = given name
given_to given kind.Local name = None

-- whether the parameters behind a declaration have a range
abbrev pub ranged_after : Bool → Declaration → Bool
ranged_after ranged (ParameterRange None) = false
ranged_after ranged (ParameterRange (Some bounds)) = true
ranged_after ranged _ = ranged

-- the parameters after a declaration
abbrev pub standards_after : Meanings → Values Standard → Bool → Values Standard → Declaration → Values Standard
standards_after scope given ranged standards (Parameter kind name value) =
    entered standards name.text
    (parameter_standard (record { scope = scope; standards = standards }) (ranged_width scope ranged name.text) (given_to given kind name.text) value)
standards_after scope given ranged standards _ = standards

abbrev pub all_standards : Meanings → Values Standard → Bool → Values Standard → List Declaration → Values Standard
all_standards scope given ranged standards [] = standards
all_standards scope given ranged standards (first ∷ others) =
    all_standards scope given (ranged_after ranged first) (standards_after scope given ranged standards first) others

-- the scopes of an instance that is given so much
abbrev pub scopes_of : Meanings → Values Standard → Circuit → Scopes
scopes_of scope given circuit =
    record { scope = scope; standards = all_standards scope given false no_values (declarations circuit) }

-- an empty argument gives nothing
abbrev pub given_value : Scopes → Values Standard → List ℕ → Option Formula → Values Standard
given_value s given name None = given
given_value s given name (Some value) = with_value given name (own_standard s value)

abbrev pub given_at : Scopes → Values Standard → Option Identifier → Option Formula → Values Standard
given_at s given None value = given
given_at s given (Some name) value = given_value s given name.text value

abbrev pub ordered_given : Scopes → List Identifier → Values Standard → ℕ → List Positional → Values Standard
ordered_given s names given place [] = given
ordered_given s names given place (first ∷ others) =
    ordered_given s names (given_at s given (slice_get names place) first.value) (place + 1) others

abbrev pub named_given : Scopes → Values Standard → List Associated → Values Standard
named_given s given [] = given
named_given s given (first ∷ others) =
    named_given s (given_value s given first.name.text first.value) others

-- what an instance of a module with these settable parameters gives them, with the scopes of the instance that holds it
abbrev pub given_by : List Identifier → Scopes → Association → Values Standard
given_by names s (ByPosition arguments) = ordered_given s names no_values 0 arguments
given_by names s (ByName arguments) = named_given s no_values arguments
