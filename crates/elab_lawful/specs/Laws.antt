-- What is without faults is lawful in the design: the law of whole designs.
use Rattle.std.specs.Prelude.{◌≡◌, length, None}
use Rattle.rtl_flat.specs.WellFormed.{IsDesign}
use Rattle.elab_flat.specs.elab_walk.Refusals.{refusal}
use Rattle.elab_flat.specs.elab_walk.Rooms.{whole_room}
use Rattle.elab_flat.specs.elab_walk.Placements.{placements}
use Rattle.elab_flat.specs.elab_walk.Visits.{Library, Visit, all_visits}
use Rattle.elab_flat.specs.Flats.{flat_of}
use Rattle.rtl_flat.specs.Flats.{DesignParts}

-- whether a flat design has what holds of every one
abbrev pub IsLawful : DesignParts → Type 0
IsLawful made =
    IsDesign made.parts.flat.signals made.parts.flat.tasks made.instances made.parts.dropped made.parts.delays

-- the instances of a top make a lawful design where nothing is told of them
abbrev pub LawfulLaw : Type 0
LawfulLaw =
    (library : Library) (v : Visit) → length v.way ≡ 1 → refusal library whole_room (all_visits library v) ≡ None → IsLawful (flat_of library (placements 0 0 (all_visits library v)))
