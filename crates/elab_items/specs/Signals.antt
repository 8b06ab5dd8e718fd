-- The signals of an instance in the design.
-- Worked examples: crates/elab_flat/proofs/Examples.antt, crates/tests_layers/stdin.
use Rattle.std.specs.Prelude.{ℕ, Bool, true, false, List, ◌∷◌, ◌++◌, map, Option, Some}
use Rattle.rtl_tree.specs.declared.tree.item.Direction.{Direction}
use Rattle.rtl_tree.specs.declared.tree.item.Direction.TheVariants.{Output}
use Rattle.rtl_flat.specs.declared.signal.Kind.{Kind}
use Rattle.rtl_flat.specs.declared.signal.Kind.TheVariants.{TopInput, Net, Var}
use Rattle.rtl_flat.specs.declared.signal.Signal.{Signal}
use Rattle.elab_scope.specs.declared.known.Role.{Role}
use Rattle.elab_scope.specs.declared.known.Role.TheVariants as role
use Rattle.elab_items.specs.declared.claims.Line.{Line}
use Rattle.elab_items.specs.declared.reach.Reach.{Reach}
use Rattle.elab_items.specs.declared.reach.Reach.TheVariants.{Scalar, Bits, Hidden}
use Rattle.elab_items.specs.declared.signals.Home.{Home as Written}
use Rattle.elab_items.specs.Rosters.{Listing, role_of}

-- the instance that signals belong to: its path, its number, the file of its module, and whether it is the top
pub record Home : Type 0 where
  pub path : List ℕ
  pub instance : ℕ
  pub file : ℕ
  pub is_top : Bool

abbrev pub home : Written → Home
home written =
    record { path = written.path.now; instance = written.instance; file = written.file; is_top = written.is_top }

-- an input of the top isn't driven in the design
abbrev pub kind_of : Bool → Role → Kind
kind_of true role.Input = TopInput
kind_of false role.Input = Net
kind_of top role.Net = Net
kind_of top role.Variable = Var

abbrev pub kind_in : Bool → Line → Kind
kind_in top line = kind_of top (role_of line.direction line.kind)

abbrev pub is_output : Bool → Option Direction → Bool
is_output true (Some Output) = true
is_output _ _ = false

-- the bits of a signal; one where its range is at fault
abbrev pub width_of : Reach → ℕ
width_of Scalar = 1
width_of (Bits width low) = width
width_of Hidden = 1

abbrev pub low_of : Reach → ℕ
low_of Scalar = 0
low_of (Bits width low) = low
low_of Hidden = 0

-- the path of a signal: that of its instance, a dot and its name
abbrev pub path_in : List ℕ → List ℕ → List ℕ
path_in instance name = instance ++ 46 ∷ name

abbrev pub signal_in : Home → Listing → Signal
signal_in home listing =
    record {
      path = path_in home.path listing.name;
      width = width_of listing.line.reach;
      signed = listing.line.signed;
      low = low_of listing.line.reach;
      kind = kind_in home.is_top listing.line;
      top_output = is_output home.is_top listing.line.direction;
      instance = home.instance;
      spot = record { file = home.file; at = listing.line.at };
    }

-- the signals of an instance, in the order of their numbers
abbrev pub signals_in : Home → List Listing → List Signal
signals_in home listings = map (signal_in home) listings
