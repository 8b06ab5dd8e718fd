-- What names mean where generate blocks stand in one another: what the innermost block declares that declares them (IEEE 1364-2001
-- sections 12.1.3 and 12.6). A genvar counts as an `integer`, which has a number in a turn of its loop.
-- Worked examples: proofs/Examples.antt.
use Rattle.std.specs.Prelude.{ℕ, ◌++◌, List, [], ◌∷◌, map, Option, Some, None}
use Rattle.rtl_const.specs.Numbers.{Numbers}
use Rattle.elab_scope.specs.declared.known.Known.{Known}
use Rattle.elab_scope.specs.Names.{Meanings, entered, meanings, no_meanings, number_of}
use Rattle.elab_items.specs.Declarations.{Declaration, ParameterRange, Parameter, SignalRange, Listed, Signal, Integer, Instance}
use Rattle.elab_items.specs.Drafts.{numberless}
use Rattle.elab_items.specs.Reaches.{reach_of}
use Rattle.elab_items.specs.Settings.{Settings, given_to, parameter_of, set_or, value_of}
use Rattle.elab_items.specs.declared.reach.Reach.{Reach}
use Rattle.rtl_tree.specs.TreeExpr.{Identifier}
use Rattle.elab_expand.specs.declared.scopes.Scopes.{Scopes as Kept}

-- what the blocks round a place declare so far, the outermost first, and what the innermost one does
pub record Scopes : Type 0 where
  pub outer : List Meanings
  pub own : Meanings

abbrev pub scopes : Kept → Scopes
scopes kept = record { outer = map (λ names. meanings names.now) kept.outer.now; own = meanings kept.own.now }

abbrev pub first_found : Option Known → Option Known → Option Known
first_found (Some found) further = Some found
first_found None further = further

abbrev pub innermost : List Meanings → List ℕ → Option Known
innermost [] name = None
innermost (first ∷ inner) name = first_found (innermost inner name) (first name)

abbrev pub meaning_in : Scopes → Meanings
meaning_in s name = first_found (s.own name) (innermost s.outer name)

-- the numbers that names have in constant expressions
abbrev pub numbers_at : Scopes → Numbers
numbers_at s = λ name. number_of (meaning_in s name)

-- no name is declared
abbrev pub no_scopes : Scopes
no_scopes = record { outer = []; own = no_meanings }

-- in a block of its own, which declares nothing yet
abbrev pub inside : Scopes → Scopes
inside s = record { outer = s.outer ++ s.own ∷ []; own = no_meanings }

-- the innermost block declares a name more; of a name that it has the first declaration holds
abbrev pub with_name : Scopes → List ℕ → Known → Scopes
with_name s name meaning = record { outer = s.outer; own = entered s.own name meaning }

abbrev pub with_names : Scopes → List Identifier → Known → Scopes
with_names s [] meaning = s
with_names s (first ∷ others) meaning = with_names (with_name s first.text meaning) others meaning

-- ---- declarations

-- a parameter's number is that of its value, or what the instance sets; all else that is declared has none
abbrev pub with_declaration : Settings → Scopes → Reach → Declaration → Scopes
with_declaration settings s reach (Parameter kind name value) =
    with_name s name.text (parameter_of reach (set_or (given_to settings kind name.text) (value_of (numbers_at s) value)))
with_declaration settings s reach (Signal form signed name) = with_name s name.text numberless
with_declaration settings s reach (Integer name) = with_name s name.text numberless
with_declaration settings s reach (Instance name) = with_name s name.text numberless
with_declaration settings s reach (ParameterRange bounds) = s
with_declaration settings s reach (SignalRange bounds) = s
with_declaration settings s reach (Listed name) = s

-- the range that stands before the next parameter
abbrev pub reach_behind : Scopes → Reach → Declaration → Reach
reach_behind s reach (ParameterRange bounds) = reach_of 32 (numbers_at s) bounds
reach_behind s reach _ = reach

abbrev pub with_declarations : Settings → Scopes → Reach → List Declaration → Scopes
with_declarations settings s reach [] = s
with_declarations settings s reach (first ∷ others) =
    with_declarations settings (with_declaration settings s reach first) (reach_behind s reach first) others
