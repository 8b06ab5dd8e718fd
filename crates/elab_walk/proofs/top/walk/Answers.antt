use Rattle.std.specs.Option.{option_map}
use Rattle.std.proofs.Common.{◌∙◌, ap, rules}
use Rattle.elab_links.specs.elab_scope.Faults.{answer}
use Rattle.elab_walk.specs.declared.trail.Trail.{Trail}
use Rattle.elab_walk.specs.Trails.{Going, Refused, gone, trail}
use Rattle.elab_walk.specs.Visits.{library, visit, visits}
use Rattle.elab_walk.proofs.Ending.{placed_at_end, stopped_at, told_at_end}
use Rattle.elab_walk.proofs.top.walk.Goals as goal
use Rattle.elab_walk.proofs.top.walk.Goals.{in-Ok, in-Err+in_default}

pub returns-clause-told : goal.returns-clause-told
returns-clause-told c =
    let all = library c.args.all in
    let v = visit c.args.met in
    let before : Trail = record { placements = c.new.result; room = c.whole_room.result } in
    let end = trail c.visit.new.so_far in
    elim c.match-visit.branch [ in-Ok w ↦ ap (option_map answer) w.fault-is ∙ told_at_end all before v (Going end) c.whole_room.ensures w.in-Ok.ensures.went | in-Err+in_default w ↦ ap (option_map answer) w.fault-is ∙ told_at_end all before v (Refused end (answer w.in-Err.fault)) c.whole_room.ensures (stopped_at w.in-Err.fault end (gone all (Going (trail before)) (visits all 32 v)) w.in_default.not-Memory w.in-Err.ensures.went) ]

pub returns-clause-placements : goal.returns-clause-placements
returns-clause-placements c =
    let all = library c.args.all in
    let v = visit c.args.met in
    let before : Trail = record { placements = c.new.result; room = c.whole_room.result } in
    let end = trail c.visit.new.so_far in
    elim c.match-visit.branch [ in-Ok w ↦ placed_at_end all before v (Going end) (search rules) c.whole_room.ensures w.in-Ok.ensures.went | in-Err+in_default w ↦ placed_at_end all before v (Refused end (answer w.in-Err.fault)) (search rules) c.whole_room.ensures (stopped_at w.in-Err.fault end (gone all (Going (trail before)) (visits all 32 v)) w.in_default.not-Memory w.in-Err.ensures.went) ]
