-- It serves inner contracts and proofs; no answer of the program is stated by it.
-- What the code takes as left by an instance, whether something is told of it or not.
use Rattle.std.specs.Prelude.{ℕ, ◌+◌, min, Option, None, Some}
use Rattle.elab_parts.specs.elab_body.declared.progress.Left.{Left}
use Rattle.elab_walk.specs.declared.places.Seek.{Seek}
use Rattle.elab_walk.specs.declared.places.Seek.TheVariants as seek
use Rattle.elab_walk.specs.declared.room.Room.{Room}

abbrev pub most_of : Seek → ℕ
most_of (seek.Found at) = 0
most_of (seek.Left most) = most

abbrev pub left_or : Option Left → Left → Left
left_or None former = former
left_or (Some left) former = left

abbrev pub spare_or : Option ℕ → ℕ
spare_or None = 0
spare_or (Some left) = left

abbrev pub behind : Room → ℕ → Option Left → Seek → Option ℕ → Room
behind room signals left seek spare =
    record {
      base = min (room.base + min signals 20000) 65535;
      number = room.number + 1;
      processes = most_of seek;
      left = left_or left room.left;
      extras = spare_or spare;
    }
