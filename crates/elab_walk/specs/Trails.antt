-- It serves inner contracts and proofs; no answer of the program is stated by it.
-- The walk over instances, one after the other: how far it comes, or what is told.
use Rattle.std.specs.Prelude.{◌≡◌, List, [], ◌∷◌, ◌++◌, map, Option, None, Some, Result, Ok, Err, IfSome}
use Rattle.std.specs.List.{All}
use Rattle.elab_links.specs.elab_items.declared.roster.Roster.{Roster as Declared}
use Rattle.elab_links.specs.elab_items.Rosters.{listing}
use Rattle.elab_links.specs.elab_items.Scopes.{listings_of}
use Rattle.elab_links.specs.elab_scope.declared.fault.ElabFault.{ElabFault}
use Rattle.elab_links.specs.elab_scope.Faults.{Answer, Memory, Named, Placed, answer}
use Rattle.elab_links.specs.elab_scope.Names.{meanings}
use Rattle.elab_walk.specs.declared.room.Room.{Room}
use Rattle.elab_walk.specs.declared.trail.Placement.{Placement as Made}
use Rattle.elab_walk.specs.declared.trail.Trail.{Trail as Kept}
use Rattle.elab_walk.specs.Refusals.{told_of}
use Rattle.elab_walk.specs.Rooms.{room_after}
use Rattle.elab_walk.specs.Placements.{Placement}
use Rattle.elab_walk.specs.Visits.{Library, Visit, scope_in, visit}

-- the instances so far, and the room that they leave
pub record Trail : Type 0 where
  pub placements : List Placement
  pub room : Room

abbrev pub placement : Made → Placement
placement made = record { visit = visit made.visit; number = made.number; base = made.base }

abbrev pub trail : Kept → Trail
trail kept = record { placements = map placement kept.placements.items; room = kept.room }

-- how far the walk comes: the instances so far, and what is told of the last of them
pub data Gone : Type 0 where
  Going : (trail : Trail) → Gone
  Refused : (trail : Trail) (told : Answer) → Gone

-- the trail with one instance more, which leaves this room
abbrev pub followed : Trail → Visit → Room → Trail
followed trail v room =
    record {
      placements = trail.placements ++ record { visit = v; number = trail.room.number; base = trail.room.base } ∷ [];
      room = room;
    }

abbrev pub extended : Library → Trail → Visit → Trail
extended library trail v = followed trail v (room_after library trail.room v)

abbrev pub passed_by : Library → Trail → Visit → Option Answer → Gone
passed_by library trail v None = Going (extended library trail v)
passed_by library trail v (Some told) = Refused (followed trail v trail.room) told

-- one instance more
abbrev pub step : Library → Gone → Visit → Gone
step library (Going trail) v = passed_by library trail v (told_of library trail.room v)
step library (Refused trail told) v = Refused trail told

-- instances one after the other
abbrev pub gone : Library → Gone → List Visit → Gone
gone library so_far [] = so_far
gone library so_far (first ∷ others) = gone library (step library so_far first) others

-- what is told on the walk
abbrev pub told_in : Gone → Option Answer
told_in (Going trail) = None
told_in (Refused trail told) = Some told

-- the instances to which it came
abbrev pub trail_in : Gone → Trail
trail_in (Going trail) = trail
trail_in (Refused trail told) = trail

-- whether an answer is what is told, or want of memory
abbrev pub IsTold : Answer → Option Answer → Type 0
IsTold Memory told = Unit {0}
IsTold (Named breach) told = told ≡ Some (Named breach)
IsTold (Placed breach spot) told = told ≡ Some (Placed breach spot)

-- whether the walk ends so, with this trail; want of memory says nothing of either
abbrev pub IsStopped : Answer → Trail → Gone → Type 0
IsStopped Memory trail walk = Unit {0}
IsStopped (Named breach) trail walk = walk ≡ Refused trail (Named breach)
IsStopped (Placed breach spot) trail walk = walk ≡ Refused trail (Placed breach spot)

-- whether the code went as the walk goes
abbrev pub Went : {T : Type 0} → Result T ElabFault → Trail → Gone → Type 0
Went (Ok done) trail walk = walk ≡ Going trail
Went (Err error) trail walk = IsStopped (answer error) trail walk

-- whether these are the names and the signals of an instance's module
abbrev pub IsDeclared : Visit → Declared → Type 0
IsDeclared v declared =
    (meanings declared.names ≡ scope_in v)
    × (map listing declared.signals.items ≡ listings_of v.settings v.circuit)

-- whether each instance that has names and signals has those of its module
abbrev pub AreDeclared : List Made → Type 0
AreDeclared placements = All (λ made. IfSome made.declared (IsDeclared (visit made.visit))) placements
