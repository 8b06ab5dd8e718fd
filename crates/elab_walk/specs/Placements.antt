-- The instances of a design with their numbers, and their signals.
-- Worked examples: crates/elab_flat/proofs/Examples.antt.
use Rattle.std.specs.Prelude.{ℕ, ◌+◌, ◌==◌, List, [], ◌∷◌, length, map}
use Rattle.text_ground.specs.declared.dropped.Dropped.{Dropped}
use Rattle.rtl_flat.specs.declared.instance.DroppedRegion.{DroppedRegion}
use Rattle.rtl_flat.specs.declared.instance.Instance.{Instance}
use Rattle.rtl_flat.specs.declared.signal.Signal.{Signal}
use Rattle.elab_links.specs.elab_scope.Trees.{spot_in}
use Rattle.elab_links.specs.elab_items.Scopes.{listings_of}
use Rattle.elab_links.specs.elab_items.Signals.{Home, signals_in}
use Rattle.elab_walk.specs.Regions.{dropped_in}
use Rattle.elab_walk.specs.Visits.{Visit}

-- an instance, its number, and how many signals come before its own
pub record Placement : Type 0 where
  pub visit : Visit
  pub number : ℕ
  pub base : ℕ

-- instances in a row, of which the first has this number and this many signals before its own
abbrev pub placements : ℕ → ℕ → List Visit → List Placement
placements number base [] = []
placements number base (first ∷ others) =
    record { visit = first; number = number; base = base }
    ∷ placements (number + 1) (base + length (listings_of first.settings first.circuit)) others

-- ---- what an instance is in the design

abbrev pub instance_of : Placement → Instance
instance_of placement =
    record {
      path = placement.visit.path;
      depth = length placement.visit.way;
      spot = placement.visit.spot;
      file = placement.visit.place.file;
      «module» = placement.visit.place.index;
    }

abbrev pub home_of : Placement → Home
home_of placement =
    record {
      path = placement.visit.path;
      instance = placement.number;
      file = placement.visit.place.file;
      is_top = placement.number == 0;
    }

abbrev pub signals_at : Placement → List Signal
signals_at placement =
    signals_in (home_of placement) (listings_of placement.visit.settings placement.visit.circuit)

abbrev pub region : Placement → Dropped → DroppedRegion
region placement dropped =
    record { kind = dropped.kind; instance = placement.number; spot = spot_in placement.visit.place.file dropped.at }

-- what synthesis doesn't see of its module
abbrev pub regions_at : Placement → List DroppedRegion
regions_at placement = map (region placement) (dropped_in placement.visit.circuit)
