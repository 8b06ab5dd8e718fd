-- What other tools read otherwise in the declarations of a module, and in what instances give its parameters (IEEE
-- 1364-2001 sections 3.11 and 12.2).
-- Worked examples: crates/tests_rows/stdin.
use Rattle.std.specs.Prelude.{ℕ, ◌+◌, Bool, true, false, List, [], ◌∷◌, ◌++◌, Option, None, Some}
use Rattle.std.specs.List.{slice_get}
use Rattle.name_map.specs.Values.{Values, entered, no_values}
use Rattle.rtl_tree.specs.declared.tree.item.ParameterKind.{ParameterKind}
use Rattle.rtl_tree.specs.declared.tree.item.ParameterKind.TheVariants as kind
use Rattle.rtl_tree.specs.TreeExpr.{Bounds, Formula, Identifier}
use Rattle.rtl_tree.specs.TreeItem.{Association, ByPosition, ByName, Associated, Positional}
use Rattle.rtl_tree.specs.TreeModule.{Circuit}
use Rattle.rtl_flat.specs.declared.note.Note.{Note}
use Rattle.elab_walk.specs.elab_items.Declarations.{Declaration, ParameterRange, Parameter, SignalRange, Listed, Signal, Integer, Instance, declarations}
use Rattle.elab_walk.specs.elab_links.Parameters.{settable}
use Rattle.elab_walk.specs.elab_scope.Names.{Meanings}
use Rattle.elab_standard.specs.declared.standard.Standard.{Standard}
use Rattle.elab_standard.specs.declared.uses.Home.{Home}
use Rattle.elab_standard.specs.Numbers.{given_value_notes, number_notes, own_value_notes}
use Rattle.elab_standard.specs.Scopes.{Scopes}
use Rattle.elab_standard.specs.Standards.{given_to, ranged_after, ranged_width}
use Rattle.elab_standard.specs.Unsized.{unsized_notes}

-- an end of a range
abbrev pub end_notes : Home → Scopes → Formula → List Note
end_notes home s e = number_notes home s e ++ unsized_notes home s e

abbrev pub range_notes : Home → Scopes → Option Bounds → List Note
range_notes home s None = []
range_notes home s (Some bounds) = end_notes home s bounds.msb ++ end_notes home s bounds.lsb

-- the value of a parameter, where the instance doesn't give it another
abbrev pub default_notes : Home → Scopes → Option ℕ → Option Standard → Formula → List Note
default_notes home s width (Some given) value = []
default_notes home s width None value = own_value_notes home s width value ++ unsized_notes home s value

abbrev pub declaration_notes : Home → Scopes → Values Standard → Bool → Declaration → List Note
declaration_notes home s given ranged (ParameterRange bounds) = range_notes home s bounds
declaration_notes home s given ranged (SignalRange bounds) = range_notes home s bounds
declaration_notes home s given ranged (Parameter kind name value) =
    default_notes home s (ranged_width s.scope ranged name.text) (given_to given kind name.text) value
declaration_notes home s given ranged _ = []

abbrev pub all_declaration_notes : Home → Scopes → Values Standard → Bool → List Declaration → List Note
all_declaration_notes home s given ranged [] = []
all_declaration_notes home s given ranged (first ∷ others) =
    declaration_notes home s given ranged first
    ++ all_declaration_notes home s given (ranged_after ranged first) others

-- those of the declarations of a module in an instance that is given so much
abbrev pub declared_notes : Home → Scopes → Values Standard → Circuit → List Note
declared_notes home s given circuit = all_declaration_notes home s given false (declarations circuit)

-- the widths that ranges give to parameters, by the desk, none to those without a range
abbrev pub spans_after : Meanings → Bool → Values (Option ℕ) → Declaration → Values (Option ℕ)
spans_after scope ranged spans (Parameter kind name value) =
    entered spans name.text (ranged_width scope ranged name.text)
spans_after scope ranged spans _ = spans

abbrev pub all_spans : Meanings → Bool → Values (Option ℕ) → List Declaration → Values (Option ℕ)
all_spans scope ranged spans [] = spans
all_spans scope ranged spans (first ∷ others) =
    all_spans scope (ranged_after ranged first) (spans_after scope ranged spans first) others

abbrev pub spans_of : Meanings → List Declaration → Values (Option ℕ)
spans_of scope ds = all_spans scope false no_values ds

-- the value that an instance gives a parameter, where there is one; it stands in the module that holds the instance
abbrev pub set_notes : Home → Scopes → Option (Option ℕ) → Option Formula → List Note
set_notes home s (Some width) (Some value) = given_value_notes home s width value ++ unsized_notes home s value
set_notes home s _ _ = []

-- the width of the range of a parameter at a place, where there is one
abbrev pub span_at : Values (Option ℕ) → Option Identifier → Option (Option ℕ)
span_at spans None = None
span_at spans (Some name) = spans name.text

abbrev pub ordered_notes : Home → Scopes → Values (Option ℕ) → List Identifier → ℕ → List Positional → List Note
ordered_notes home s spans names place [] = []
ordered_notes home s spans names place (first ∷ others) =
    set_notes home s (span_at spans (slice_get names place)) first.value
    ++ ordered_notes home s spans names (place + 1) others

abbrev pub named_notes : Home → Scopes → Values (Option ℕ) → List Associated → List Note
named_notes home s spans [] = []
named_notes home s spans (first ∷ others) =
    set_notes home s (spans first.name.text) first.value ++ named_notes home s spans others

abbrev pub association_notes : Home → Scopes → Values (Option ℕ) → List Identifier → Association → List Note
association_notes home s spans names (ByPosition arguments) = ordered_notes home s spans names 0 arguments
association_notes home s spans names (ByName arguments) = named_notes home s spans arguments

-- those of what an instance sets in a module whose names stand for this in it
abbrev pub setting_notes : Home → Scopes → Meanings → Circuit → Association → List Note
setting_notes home s child circuit association =
    association_notes home s (spans_of child (declarations circuit)) (settable (declarations circuit)) association
