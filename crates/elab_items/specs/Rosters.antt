-- The signals of a module, and what its names stand for. Signals are numbered as their names come: ports in the order
-- of the head, and then by the place of their declaration.
-- Worked examples: proofs/Examples.antt.
use Rattle.std.specs.Prelude.{ℕ, ◌-◌, min, if◌then◌else◌, List, [], ◌∷◌, ◌++◌, length, map, Option, None, Some}
use Rattle.std.specs.List.{slice_get}
use Rattle.std.specs.Option.{is_some}
use Rattle.rtl_tree.specs.declared.tree.item.Direction.{Direction}
use Rattle.rtl_tree.specs.declared.tree.item.Direction.TheVariants.{Input}
use Rattle.rtl_tree.specs.declared.tree.item.PortKind.{PortKind}
use Rattle.rtl_tree.specs.declared.tree.item.PortKind.TheVariants as port
use Rattle.rtl_tree.specs.TreeExpr.{Identifier}
use Rattle.elab_scope.specs.declared.known.Known.{Known}
use Rattle.elab_scope.specs.declared.known.Known.TheVariants as known
use Rattle.elab_scope.specs.declared.known.Role.{Role}
use Rattle.elab_scope.specs.declared.known.Role.TheVariants as role
use Rattle.elab_scope.specs.Faults.{Refusal, TooLarge}
use Rattle.elab_scope.specs.Names.{Meanings, entered, meanings, no_meanings}
use Rattle.elab_scope.specs.Rules.{fault}
use Rattle.elab_items.specs.declared.claims.Line.{Line}
use Rattle.elab_items.specs.declared.claims.Sense.{Sense}
use Rattle.elab_items.specs.declared.claims.Sense.TheVariants as sense
use Rattle.elab_items.specs.declared.roster.Listing.{Listing as Written}
use Rattle.elab_items.specs.declared.roster.Roster.{Roster as Kept}
use Rattle.elab_items.specs.Claims.{Claims}
use Rattle.elab_items.specs.Declarations.{Declaration, ParameterRange, Parameter, SignalRange, Listed, Signal, Integer, Instance}
use Rattle.elab_items.specs.Reaches.{shape_of}

-- a signal of a module with its name
pub record Listing : Type 0 where
  pub name : List ℕ
  pub line : Line

abbrev pub listing : Written → Listing
listing written = record { name = written.name.now.text; line = written.line }

-- the names so far, and the signals among them in the order of their numbers
pub record Roster : Type 0 where
  pub scope : Meanings
  pub signals : List Listing

-- the roster that the code keeps
abbrev pub roster : Kept → Roster
roster kept = record { scope = meanings kept.names; signals = map listing kept.signals.items }

abbrev pub no_roster : Roster
no_roster = record { scope = no_meanings; signals = [] }

-- a variable is declared `reg`, every other signal is a net, and inputs are only read
abbrev pub role_of : Option Direction → Option PortKind → Role
role_of (Some Input) kind = role.Input
role_of _ (Some port.Reg) = role.Variable
role_of _ _ = role.Net

-- the meaning of the signal with a number; a design has at most 20,000 signals, and no number matters beyond
abbrev pub signal_known : ℕ → Line → Known
signal_known number line =
    known.Signal (min number 20000) (role_of line.direction line.kind) (shape_of line.signed line.reach)

-- a parameter or an `integer` enters
abbrev pub with_known : Roster → List ℕ → Option Known → Roster
with_known roster name None = roster
with_known roster name (Some (known.Signal number role shape)) = roster
with_known roster name (Some (known.Parameter number width signed)) =
    record { scope = entered roster.scope name (known.Parameter number width signed); signals = roster.signals }
with_known roster name (Some (known.Integer number)) =
    record { scope = entered roster.scope name (known.Integer number); signals = roster.signals }

abbrev pub with_signal : Roster → List ℕ → Line → Roster
with_signal roster name line =
    record {
      scope = entered roster.scope name (signal_known (length roster.signals) line);
      signals = roster.signals ++ record { name = name; line = line } ∷ [];
    }

-- a name enters with what its declarations make together; the name of an instance stands for nothing that is read
abbrev pub with_sense : Meanings → Roster → List ℕ → Option Sense → Roster
with_sense draft roster name None = roster
with_sense draft roster name (Some (sense.Signal line)) = with_signal roster name line
with_sense draft roster name (Some sense.Number) = with_known roster name (draft name)
with_sense draft roster name (Some sense.Instance) = roster

-- each name enters once
abbrev pub with_name : Meanings → Claims → Roster → Identifier → Roster
with_name draft claims roster name =
    if is_some (roster.scope name.text) then roster
    else with_sense draft roster name.text (claims name.text).sense

abbrev pub enrolled : Meanings → Claims → Roster → Declaration → Roster
enrolled draft claims roster (ParameterRange bounds) = roster
enrolled draft claims roster (SignalRange bounds) = roster
enrolled draft claims roster (Parameter kind name value) = with_name draft claims roster name
enrolled draft claims roster (Listed name) = with_name draft claims roster name
enrolled draft claims roster (Signal form signed name) = with_name draft claims roster name
enrolled draft claims roster (Integer name) = with_name draft claims roster name
enrolled draft claims roster (Instance name) = with_name draft claims roster name

abbrev pub all_enrolled : Meanings → Claims → Roster → List Declaration → Roster
all_enrolled draft claims roster [] = roster
all_enrolled draft claims roster (declaration ∷ others) =
    all_enrolled draft claims (enrolled draft claims roster declaration) others

-- a signal that is one too many
abbrev pub too_many : Option Listing → List Refusal
too_many None = []
too_many (Some one) = fault one.line.at TooLarge ∷ []

-- a design has at most 20,000 signals, of which so many come before those of the instance
abbrev pub limit_faults : ℕ → List Listing → List Refusal
limit_faults base signals = too_many (slice_get signals (20000 - base))
