-- An instance stays in its place on the walk.
use Rattle.std.specs.Prelude.{ℕ, ◌<◌, List, [], ◌∷◌, ◌++◌, length, map, IfSome, Some}
use Rattle.std.specs.List.{slice_get}
use Rattle.std.specs.Option.{option_map}
use Rattle.std.proofs.Common.{◌≡◌, ◌∙◌, ap, get_or, refl, subst, sym}
use Rattle.std.proofs.lemmas.Option.{slice_get-map, slice_get_read}
use Rattle.elab_walk.specs.Placements.{Placement, placements}
use Rattle.elab_walk.specs.Refusals.{come_to}
use Rattle.elab_walk.specs.Trails.{Going, Trail, followed, gone, placement, trail_in}
use Rattle.elab_walk.specs.Visits.{Library, Visit}
use Rattle.elab_walk.specs.declared.room.Room.{Room}
use Rattle.elab_walk.specs.declared.trail.Placement.{Placement as Made}
use Rattle.elab_walk.proofs.Ending.{come_is, own_placement}

at_seam : {X : Type 0} (before : List X) (x : X) (behind : List X) → slice_get ((before ++ x ∷ []) ++ behind) (length before) ≡ Some x
at_seam [] x behind = refl
at_seam (first ∷ before) x behind = at_seam before x behind

-- the instance that was the last one before others
pub stays : (library : Library) (before mid end : Trail) (v : Visit) (room : Room) (vs : List Visit) → mid ≡ followed before v room → gone library (Going mid) vs ≡ Going end → slice_get end.placements (length before.placements) ≡ Some (own_placement before v)
stays library before mid end v room vs after h =
    sym (ap (λ g. slice_get (trail_in g).placements (length before.placements)) h)
    ∙ ap (λ (all : List Placement). slice_get all (length before.placements)) (come_is library mid vs)
    ∙ ap (λ (t : Trail). slice_get (t.placements ++ placements mid.room.number mid.room.base (come_to library mid.room vs)) (length before.placements)) after
    ∙ at_seam before.placements (own_placement before v) (placements mid.room.number mid.room.base (come_to library mid.room vs))

-- what holds of the instance in a place, of the one that is read there
pub of_read : (P : Placement → Type 0) (made : List Made) (place : ℕ) (at : Made) → place < length made → at ≡ get_or made place at → IfSome (slice_get (map placement made) place) P → P (placement at)
of_read P made place at inside is h =
    subst (λ o. IfSome o P) (slice_get-map placement made place ∙ ap (option_map placement) (slice_get_read made (length made) place at refl inside is)) h
