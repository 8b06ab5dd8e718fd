-- The flat design that instances make.
-- Worked examples: proofs/Examples.antt.
use Rattle.std.specs.Prelude.{List, [], map}
use Rattle.std.specs.List.{flat_map}
use Rattle.rtl_flat.specs.Flats.{DesignParts}
use Rattle.elab_walk.specs.Placements.{Placement, instance_of, regions_at, signals_at}
use Rattle.elab_walk.specs.Visits.{Library}
use Rattle.elab_flat.specs.Works.{Works, no_works, with_placements}

abbrev pub with_works : List Placement → Works → DesignParts
with_works all works =
    record {
      parts = record {
        flat = record { signals = flat_map signals_at all; tasks = works.tasks };
        delays = works.delays;
        dropped = flat_map regions_at all;
        notes = [];
      };
      instances = map instance_of all;
    }

-- the design of these instances, before their texts are looked at for what other tools read otherwise
abbrev pub flat_of : Library → List Placement → DesignParts
flat_of library all = with_works all (with_placements library no_works all)
