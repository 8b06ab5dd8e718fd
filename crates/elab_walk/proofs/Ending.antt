-- The walk tells what is told of instances, and its trail has those to which it comes.
use Rattle.std.specs.Prelude.{◌+◌, List, [], ◌∷◌, ◌++◌, map, Option, None, Some}
use Rattle.std.proofs.Common.{◌≡◌, ◌∙◌, ap, append_assoc, refl, sym}
use Rattle.std.proofs.lemmas.List.{append-nil}
use Rattle.elab_links.specs.elab_scope.declared.fault.ElabFault.{ElabFault}
use Rattle.elab_links.specs.elab_scope.declared.fault.ElabFault.TheVariants as variant
use Rattle.elab_links.specs.elab_scope.Faults.{Answer, answer}
use Rattle.elab_walk.specs.declared.room.Room.{Room}
use Rattle.elab_walk.specs.declared.trail.Trail.{Trail as Kept}
use Rattle.elab_walk.specs.Refusals.{come_to, refusal, told_first, told_of, unless_told}
use Rattle.elab_walk.specs.Rooms.{room_after, whole_room}
use Rattle.elab_walk.specs.Placements.{Placement, placements}
use Rattle.elab_walk.specs.Trails.{Going, Gone, IsStopped, Refused, Trail, extended, followed, gone, passed_by, placement, told_in, trail, trail_in}
use Rattle.elab_walk.specs.Visits.{all_visits, Library, Visit, visits}
use Rattle.elab_walk.proofs.Telling.{refused_stays}

by_told : (library : Library) (t : Trail) (v : Visit) (vs : List Visit) → told_in (gone library (Going (extended library t v)) vs) ≡ refusal library (room_after library t.room v) vs → (told : Option Answer) → told_in (gone library (passed_by library t v told) vs) ≡ told_first told (refusal library (room_after library t.room v) vs)
by_told library t v vs later None = later
by_told library t v vs later (Some told) = ap told_in (refused_stays library (followed t v t.room) told vs)

pub told_is : (library : Library) (t : Trail) (vs : List Visit) → told_in (gone library (Going t) vs) ≡ refusal library t.room vs
told_is library t [] = refl
told_is library t (v ∷ vs) =
    by_told library t v vs (told_is library (extended library t v) vs) (told_of library t.room v)

abbrev pub own_placement : Trail → Visit → Placement
own_placement t v = record { visit = v; number = t.room.number; base = t.room.base }

by_come : (library : Library) (t : Trail) (v : Visit) (vs : List Visit) → (trail_in (gone library (Going (extended library t v)) vs)).placements ≡ (extended library t v).placements ++ placements (t.room.number + 1) (room_after library t.room v).base (come_to library (room_after library t.room v) vs) → (told : Option Answer) → (trail_in (gone library (passed_by library t v told) vs)).placements ≡ t.placements ++ (own_placement t v ∷ placements (t.room.number + 1) (room_after library t.room v).base (unless_told told (come_to library (room_after library t.room v) vs)))
by_come library t v vs later None =
    later
    ∙ append_assoc t.placements (own_placement t v ∷ []) (placements (t.room.number + 1) (room_after library t.room v).base (come_to library (room_after library t.room v) vs))
by_come library t v vs later (Some told) =
    ap (λ g. (trail_in g).placements) (refused_stays library (followed t v t.room) told vs)

pub come_is : (library : Library) (t : Trail) (vs : List Visit) → (trail_in (gone library (Going t) vs)).placements ≡ t.placements ++ placements t.room.number t.room.base (come_to library t.room vs)
come_is library t [] = sym (append-nil t.placements)
come_is library t (v ∷ vs) =
    by_come library t v vs (come_is library (extended library t v) vs) (told_of library t.room v)

-- the walk from the top on, with what the code keeps of it
pub told_at_end : (library : Library) (t : Kept) (v : Visit) (g : Gone) → t.room ≡ whole_room → gone library (Going (trail t)) (visits library 32 v) ≡ g → told_in g ≡ refusal library whole_room (all_visits library v)
unfolding all_visits
told_at_end library t v g whole h =
    sym (ap told_in h)
    ∙ told_is library (trail t) (visits library 32 v)
    ∙ ap (λ room. refusal library room (visits library 32 v)) whole

pub placed_at_end : (library : Library) (t : Kept) (v : Visit) (g : Gone) → t.placements.items ≡ [] → t.room ≡ whole_room → gone library (Going (trail t)) (visits library 32 v) ≡ g → (trail_in g).placements ≡ placements 0 0 (come_to library whole_room (all_visits library v))
unfolding all_visits
placed_at_end library t v g none whole h =
    sym (ap (λ g. (trail_in g).placements) h)
    ∙ come_is library (trail t) (visits library 32 v)
    ∙ ap (λ s. map placement s ++ placements t.room.number t.room.base (come_to library t.room (visits library 32 v))) none
    ∙ ap (λ (room : Room). placements room.number room.base (come_to library room (visits library 32 v))) whole

-- where it isn't memory that is wanting, the walk stops with what the fault tells
pub stopped_at : (fault : ElabFault) (end : Trail) (g : Gone) → (fault ≡ variant.Memory → ⊥) → IsStopped (answer fault) end g → g ≡ Refused end (answer fault)
stopped_at (variant.NoSuchModule name) end g other h = h
stopped_at (variant.ModuleTwice name) end g other h = h
stopped_at (variant.Undeclared name spot) end g other h = h
stopped_at (variant.DeclaredTwice name spot) end g other h = h
stopped_at (variant.Width spot) end g other h = h
stopped_at (variant.Port name spot) end g other h = h
stopped_at (variant.Parameter name spot) end g other h = h
stopped_at (variant.NotAssignable name spot) end g other h = h
stopped_at (variant.Range spot) end g other h = h
stopped_at (variant.Const fault spot) end g other h = h
stopped_at (variant.Genvar name spot) end g other h = h
stopped_at (variant.TooManyTurns spot) end g other h = h
stopped_at (variant.InstanceLoop name spot) end g other h = h
stopped_at (variant.TooLarge spot) end g other h = h
stopped_at variant.Memory end g other h = absurd (other refl)

by_passing : (library : Library) (room : Room) (v : Visit) (vs : List Visit) → (refusal library (room_after library room v) vs ≡ None → come_to library (room_after library room v) vs ≡ vs) → (told : Option Answer) → told_first told (refusal library (room_after library room v) vs) ≡ None → v ∷ unless_told told (come_to library (room_after library room v) vs) ≡ v ∷ vs
by_passing library room v vs later None h = ap (λ others. v ∷ others) (later h)
by_passing library room v vs later (Some told) h = absurd cc

-- the walk comes to all instances where nothing is told of any
pub all_come_to : (library : Library) (room : Room) (vs : List Visit) → refusal library room vs ≡ None → come_to library room vs ≡ vs
all_come_to library room [] h = refl
all_come_to library room (v ∷ vs) h =
    by_passing library room v vs (all_come_to library (room_after library room v) vs) (told_of library room v) h
