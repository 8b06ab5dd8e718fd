-- The parameters that an instance sets (IEEE 1364-2001 section 12.2.2).
-- Worked examples: crates/tests_layers/stdin.
use Rattle.std.specs.Prelude.{ℕ, ◌+◌, ◌==◌, Bool, ◌&&◌, not, if◌then◌else◌, List, [], ◌∷◌, ◌++◌, length, Option, None, Some}
use Rattle.std.specs.List.{slice_get}
use Rattle.rtl_const.specs.Numbers.{Numbers}
use Rattle.rtl_tree.specs.declared.tree.item.ParameterKind.TheVariants as kind
use Rattle.rtl_tree.specs.TreeExpr.{Formula, Identifier}
use Rattle.rtl_tree.specs.TreeItem.{Association, ByPosition, ByName, Associated, Positional}
use Rattle.elab_items.specs.elab_scope.Expressions.{constant_faults}
use Rattle.elab_items.specs.elab_scope.Faults.{Breach, Parameter, Refusal}
use Rattle.elab_items.specs.elab_scope.Names.{Meanings, numbers_in}
use Rattle.elab_items.specs.elab_scope.Rules.{fault}
use Rattle.elab_items.specs.Declarations.{Declaration, ParameterRange, SignalRange, Listed, Signal, Integer, Instance}
use Rattle.elab_items.specs.Declarations as item
use Rattle.elab_items.specs.Settings.{Settings, no_settings, value_of, with_setting}
use Rattle.elab_links.specs.Marks.{Marks, no_marks, with_mark, with_marks}

-- the parameters that an instance may set, in the order of their declarations: a `localparam` is none of them
abbrev pub settable_here : Declaration → List Identifier
settable_here (item.Parameter kind.Parameter name value) = name ∷ []
settable_here (item.Parameter kind.Local name value) = []
settable_here (ParameterRange bounds) = []
settable_here (SignalRange bounds) = []
settable_here (Listed name) = []
settable_here (Signal form signed name) = []
settable_here (Integer name) = []
settable_here (Instance name) = []

abbrev pub settable : List Declaration → List Identifier
settable [] = []
settable (first ∷ others) = settable_here first ++ settable others

-- what is set has a value that is constant in the module that holds the instance
abbrev pub setting_faults : Meanings → Option Formula → List Refusal
setting_faults scope None = []
setting_faults scope (Some value) = constant_faults scope value

-- the first argument that is one too many
abbrev pub surplus_faults : ℕ → ℕ → ℕ → Breach → List Refusal
surplus_faults many place at breach = if place == many then fault at breach ∷ [] else []

-- an argument by name names what is there, and what no argument before it names
abbrev pub name_faults : Bool → Bool → ℕ → Breach → List Refusal
name_faults known taken at breach = if known && not taken then [] else fault at breach ∷ []

-- the arguments by position from a place on, of parameters of so many
abbrev pub ordered_setting_faults : List ℕ → ℕ → Meanings → ℕ → List Positional → List Refusal
ordered_setting_faults child many scope place [] = []
ordered_setting_faults child many scope place (first ∷ others) =
    surplus_faults many place first.at (Parameter child)
    ++ setting_faults scope first.value
    ++ ordered_setting_faults child many scope (place + 1) others

-- the arguments by name, behind those that name some parameters
abbrev pub named_setting_faults : Marks → Meanings → Marks → List Associated → List Refusal
named_setting_faults known scope taken [] = []
named_setting_faults known scope taken (first ∷ others) =
    name_faults (known first.name.text) (taken first.name.text) first.name.at (Parameter first.name.text)
    ++ setting_faults scope first.value
    ++ named_setting_faults known scope (with_mark taken first.name.text) others

-- the faults of what an instance of a module with these settable parameters sets
abbrev pub parameter_faults : List ℕ → List Identifier → Meanings → Association → List Refusal
parameter_faults child names scope (ByPosition arguments) =
    ordered_setting_faults child (length names) scope 0 arguments
parameter_faults child names scope (ByName arguments) =
    named_setting_faults (with_marks no_marks names) scope no_marks arguments

-- an empty argument sets nothing
abbrev pub set_by : Numbers → Settings → List ℕ → Option Formula → Settings
set_by numbers settings name None = settings
set_by numbers settings name (Some value) = with_setting settings name (value_of numbers value)

abbrev pub set_at : Numbers → Settings → Option Identifier → Option Formula → Settings
set_at numbers settings None value = settings
set_at numbers settings (Some name) value = set_by numbers settings name.text value

abbrev pub ordered_settings : Numbers → List Identifier → Settings → ℕ → List Positional → Settings
ordered_settings numbers names settings place [] = settings
ordered_settings numbers names settings place (first ∷ others) =
    ordered_settings numbers names (set_at numbers settings (slice_get names place) first.value) (place + 1) others

abbrev pub named_settings : Numbers → Settings → List Associated → Settings
named_settings numbers settings [] = settings
named_settings numbers settings (first ∷ others) =
    named_settings numbers (set_by numbers settings first.name.text first.value) others

-- what an instance of a module with these settable parameters sets them to, with the numbers of the module that holds
-- it
abbrev pub settings_by : List Identifier → Meanings → Association → Settings
settings_by names scope (ByPosition arguments) =
    ordered_settings (numbers_in scope) names no_settings 0 arguments
settings_by names scope (ByName arguments) = named_settings (numbers_in scope) no_settings arguments
