-- What the names of a module stand for in an instance, its signals, and the faults of its declarations.
-- Worked examples: proofs/Examples.antt.
use Rattle.std.specs.Prelude.{ℕ, List, [], ◌∷◌, ◌++◌, Option, None, Some}
use Rattle.rtl_tree.specs.TreeExpr.{Bounds, Formula}
use Rattle.rtl_tree.specs.TreeModule.{Circuit}
use Rattle.elab_scope.specs.Expressions.{faults}
use Rattle.elab_scope.specs.Faults.{Refusal}
use Rattle.elab_scope.specs.Names.{Meanings, numbers_in}
use Rattle.elab_items.specs.declared.overrides.Override.{Override}
use Rattle.elab_items.specs.Claims.{Claims, all_claim_faults, all_claimed, all_direction_faults, no_course}
use Rattle.elab_items.specs.Declarations.{Declaration, ParameterRange, Parameter, SignalRange, declarations}
use Rattle.elab_items.specs.Drafts.{all_draft_faults, all_drafted, no_draft}
use Rattle.elab_items.specs.Rosters.{Listing, Roster, all_enrolled, limit_faults, no_roster}
use Rattle.elab_items.specs.Settings.{Settings, given_to}

-- the numbers of the whole module
abbrev pub draft_of : Settings → List Declaration → Meanings
draft_of settings ds = (all_drafted settings no_draft ds).scope

abbrev pub claims_of : Meanings → List Declaration → Claims
claims_of draft ds = (all_claimed (numbers_in draft) no_course ds).claims

abbrev pub roster_from : Meanings → List Declaration → Roster
roster_from draft ds = all_enrolled draft (claims_of draft ds) no_roster ds

abbrev pub roster_of : Settings → List Declaration → Roster
roster_of settings ds = roster_from (draft_of settings ds) ds

-- what the names of a module stand for, where an instance sets parameters so
abbrev pub scope_of : Settings → Circuit → Meanings
scope_of settings circuit = (roster_of settings (declarations circuit)).scope

-- its signals, in the order of their numbers
abbrev pub listings_of : Settings → Circuit → List Listing
listings_of settings circuit = (roster_of settings (declarations circuit)).signals

-- the names in the ends of a range, and in a value that the instance doesn't set
abbrev pub bounds_name_faults : Meanings → Option Bounds → List Refusal
bounds_name_faults scope None = []
bounds_name_faults scope (Some bounds) = faults scope bounds.msb ++ faults scope bounds.lsb

abbrev pub value_name_faults : Meanings → Option Override → Formula → List Refusal
value_name_faults scope None value = faults scope value
value_name_faults scope (Some given) value = []

-- a name counts anywhere in its module, also before its declaration
abbrev pub name_faults : Settings → Meanings → Declaration → List Refusal
name_faults settings scope (ParameterRange bounds) = bounds_name_faults scope bounds
name_faults settings scope (SignalRange bounds) = bounds_name_faults scope bounds
name_faults settings scope (Parameter kind name value) =
    value_name_faults scope (given_to settings kind name.text) value
name_faults settings scope _ = []

abbrev pub all_name_faults : Settings → Meanings → List Declaration → List Refusal
all_name_faults settings scope [] = []
all_name_faults settings scope (declaration ∷ others) =
    name_faults settings scope declaration ++ all_name_faults settings scope others

-- the faults of declarations whose parameters have the numbers of a draft
abbrev pub faults_after : Settings → ℕ → Meanings → List Declaration → List Refusal
faults_after settings base draft ds =
    all_claim_faults (numbers_in draft) no_course ds
    ++ all_direction_faults (claims_of draft ds) ds
    ++ all_name_faults settings (roster_from draft ds).scope ds
    ++ limit_faults base (roster_from draft ds).signals

-- the faults of the declarations of a module, in an instance before whose signals the design has so many: those of
-- parameters' numbers, of ranges and names that are declared again, of ports without a direction, of names in ranges
-- and values, and of a limit that is passed
abbrev pub declaration_faults : Settings → ℕ → Circuit → List Refusal
declaration_faults settings base circuit =
    all_draft_faults settings no_draft (declarations circuit)
    ++ faults_after settings base (draft_of settings (declarations circuit)) (declarations circuit)
