-- It serves inner contracts and proofs; no answer of the program is stated by it.
-- The regions of a text in the order in which preparation told them.
use Rattle.std.specs.Prelude.{List, ◌++◌}
use Rattle.text_ground.specs.declared.dropped.Dropped.{Dropped}
use Rattle.text_build.specs.declared.regions.Regions.{Regions}

abbrev pub told : Regions → List Dropped
told r = r.front.regions.now ++ (r.middle.regions.now ++ (r.back.regions.now ++ r.rest.now))
