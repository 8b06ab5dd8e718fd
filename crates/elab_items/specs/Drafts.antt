-- The numbers of parameters, in the order of their declarations: in the value and the range of a parameter only the
-- parameters before it hold (IEEE 1364-2001 section 3.11).
-- Worked examples: proofs/Examples.antt.
use Rattle.std.specs.Prelude.{List, [], ◌∷◌, ◌++◌, Option, None, Some}
use Rattle.rtl_const.specs.Constant.{constant}
use Rattle.rtl_tree.specs.TreeExpr.{Formula}
use Rattle.elab_scope.specs.declared.known.Known.{Known}
use Rattle.elab_scope.specs.declared.known.Known.TheVariants as known
use Rattle.elab_scope.specs.declared.known.Role.TheVariants as role
use Rattle.elab_scope.specs.Faults.{Refusal}
use Rattle.elab_scope.specs.Names.{Meanings, entered, no_meanings, numbers_in}
use Rattle.elab_scope.specs.Rules.{number_faults}
use Rattle.elab_items.specs.declared.overrides.Override.{Override}
use Rattle.elab_items.specs.declared.reach.Reach.{Reach}
use Rattle.elab_items.specs.declared.reach.Reach.TheVariants.{Scalar}
use Rattle.elab_items.specs.Declarations.{Declaration, ParameterRange, Parameter, SignalRange, Listed, Signal, Integer, Instance}
use Rattle.elab_items.specs.Reaches.{reach_of, range_faults}
use Rattle.elab_items.specs.Settings.{Settings, given_to, parameter_of, set_or, value_of}

-- what holds for the next parameter: the names so far, and the range that stands before it
pub record Draft : Type 0 where
  pub scope : Meanings
  pub reach : Reach

abbrev pub no_draft : Draft
no_draft = record { scope = no_meanings; reach = Scalar }

-- what has no number
abbrev pub numberless : Known
numberless = known.Signal 0 role.Net None

-- a parameter's range, with the numbers so far; it has at most 32 bits
abbrev pub reach_after : Meanings → Reach → Declaration → Reach
reach_after scope reach (ParameterRange bounds) = reach_of 32 (numbers_in scope) bounds
reach_after scope reach _ = reach

-- the names after a declaration; of those that aren't parameters it counts alone that they have no number
abbrev pub scope_after : Settings → Meanings → Reach → Declaration → Meanings
scope_after settings scope reach (Parameter kind name value) =
    entered scope name.text
    (parameter_of reach (set_or (given_to settings kind name.text) (value_of (numbers_in scope) value)))
scope_after settings scope reach (Signal form signed name) = entered scope name.text numberless
scope_after settings scope reach (Integer name) = entered scope name.text (known.Integer None)
scope_after settings scope reach (Instance name) = entered scope name.text numberless
scope_after settings scope reach (ParameterRange bounds) = scope
scope_after settings scope reach (SignalRange bounds) = scope
scope_after settings scope reach (Listed name) = scope

abbrev pub drafted : Settings → Draft → Declaration → Draft
drafted settings draft declaration =
    record {
      scope = scope_after settings draft.scope draft.reach declaration;
      reach = reach_after draft.scope draft.reach declaration;
    }

abbrev pub all_drafted : Settings → Draft → List Declaration → Draft
all_drafted settings draft [] = draft
all_drafted settings draft (declaration ∷ others) =
    all_drafted settings (drafted settings draft declaration) others

-- a value that an instance doesn't set has a number
abbrev pub value_faults : Option Override → Meanings → Formula → List Refusal
value_faults (Some given) scope value = []
value_faults None scope value = number_faults (constant (numbers_in scope) value)

abbrev pub draft_faults : Settings → Meanings → Declaration → List Refusal
draft_faults settings scope (ParameterRange bounds) = range_faults 32 (numbers_in scope) bounds
draft_faults settings scope (Parameter kind name value) =
    value_faults (given_to settings kind name.text) scope value
draft_faults settings scope _ = []

-- the faults of the numbers of parameters
abbrev pub all_draft_faults : Settings → Draft → List Declaration → List Refusal
all_draft_faults settings draft [] = []
all_draft_faults settings draft (declaration ∷ others) =
    draft_faults settings draft.scope declaration
    ++ all_draft_faults settings (drafted settings draft declaration) others
