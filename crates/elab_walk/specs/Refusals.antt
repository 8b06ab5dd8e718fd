-- Why a design isn't elaborated: the first instance at fault, and the least of its faults.
-- Worked examples: proofs/Examples.antt.
use Rattle.std.specs.Prelude.{ℕ, Bool, true, false, List, [], ◌∷◌, ◌++◌, Option, None, Some}
use Rattle.std.specs.Option.{option_map}
use Rattle.elab_links.specs.elab_scope.Faults.{Answer, Named, Placed, Memory, Refusal, TooLarge, least, located}
use Rattle.elab_parts.specs.elab_body.Steps.{checked}
use Rattle.elab_links.specs.elab_items.Scopes.{declaration_faults}
use Rattle.elab_walk.specs.declared.room.Room.{Room}
use Rattle.elab_walk.specs.Rooms.{has_room, process_faults, process_places, room_after, visit_steps}
use Rattle.elab_walk.specs.Visits.{Library, Visit}

-- the faults of an instance: of its declarations, of its items up to the statement, the delay or the expression that is
-- one too many, and the process that is one too many
abbrev pub own_faults : Library → Room → Visit → List Refusal
own_faults library room v =
    declaration_faults v.settings room.base v.circuit
    ++ checked room.left.statements room.left.delays room.left.nodes (visit_steps library v)
    ++ process_faults room.processes (process_places v.circuit.items)

-- an instance that is one too many, or whose extras are too many, is told where its module is named, and nothing in
-- it counts
abbrev pub told_where : Bool → Visit → List Refusal → Option Answer
told_where false v faults = Some (Placed TooLarge v.spot)
told_where true v faults = option_map (located v.place.file) (least faults)

-- what is told of an instance
abbrev pub told_of : Library → Room → Visit → Option Answer
told_of library room v = told_where (has_room room v.circuit) v (own_faults library room v)

abbrev pub told_first : Option Answer → Option Answer → Option Answer
told_first None later = later
told_first (Some answer) later = Some answer

-- what is told of instances, where so much room is left to them
abbrev pub refusal : Library → Room → List Visit → Option Answer
refusal library room [] = None
refusal library room (first ∷ others) =
    told_first (told_of library room first) (refusal library (room_after library room first) others)

-- the instances behind one are come to where nothing is told of it
abbrev pub unless_told : Option Answer → List Visit → List Visit
unless_told None others = others
unless_told (Some answer) others = []

-- the instances to which the walk comes, where so much room is left to them: all up to the first of which something is
-- told, that one included
abbrev pub come_to : Library → Room → List Visit → List Visit
come_to library room [] = []
come_to library room (first ∷ others) =
    first ∷ unless_told (told_of library room first) (come_to library (room_after library room first) others)
