use Rattle.std.proofs.Common.{◌≡◌, ◌≤◌, ◌+◌, ◌*◌, ◌-◌, map, drop, take, length}
use Rattle.rtl_flat.specs.Process.{action, body_of}
use Rattle.rtl_flat.specs.Signs.{width_in}
use Rattle.rtl_flat.specs.WellFormed.{IsBody, statements}
use Rattle.rtl_scan.specs.Bodies.{branches_of}
use Rattle.rtl_scan.specs.Loads.{load, other_load, items_load}
use Rattle.net_model.specs.Block.{Maps, acts, act_arms, fresh}
use Rattle.net_body.specs.Asides.{AreAside, HaveSums, IsBounded}
use Rattle.net_body.specs.Levels.{levels_of}
use Rattle.net_body.specs.Marks.{AreKept, maps}
use Rattle.net_body.proofs.statements.+acts.Given as goal

abbrev pub invariant-run_all-loop-statement : goal.invariant-run_all-loop-statement
invariant-run_all-loop-statement l =
    AreKept l.design.signals.items l.numbers l.marks
    × IsBody l.design.signals.items (body_of (map action (drop l.statement-index l.body)))
    × (128 ≤ length l.entries)
    × (levels_of (body_of (map action (drop l.statement-index l.body))) * length l.design.signals.items ≤ length l.room)
    × (acts (width_in l.design.signals.items) l.fill (maps l.numbers l.marks) (body_of (map action (drop l.statement-index l.body))) ≡ acts (width_in l.design.signals.items) l.fill (maps l.initial.numbers l.initial.marks) (body_of (map action l.body)))

abbrev pub invariant-run_arms-loop-number : goal.invariant-run_arms-loop-number
invariant-run_arms-loop-number l =
    let m : Maps = maps l.fn.numbers l.fn.marks in
    let arms = act_arms (width_in l.design.signals.items) l.fill m l.kind l.selector (branches_of (drop (length l.items - l.number) l.items)) in
    AreKept l.design.signals.items l.numbers l.marks
    × (maps l.numbers l.marks ≡ fresh m)
    × AreAside m arms (take l.count l.room)
    × HaveSums l.numbers (take l.count l.room)
    × IsBounded m arms

abbrev pub decreases-run_all : goal.decreases-run_all
decreases-run_all l = 4 * load l.body.now + 1

abbrev pub decreases-run : goal.decreases-run
decreases-run l = 4 * statements (action l.statement.now)

abbrev pub decreases-run_other : goal.decreases-run_other
decreases-run_other l = 4 * other_load l.body.now + 2

abbrev pub decreases-run_none : goal.decreases-run_none
decreases-run_none l = 4 * other_load l.fallback.now + 2

abbrev pub decreases-run_arms : goal.decreases-run_arms
decreases-run_arms l = 4 * items_load l.items.now + 2

abbrev pub decreases-run_case : goal.decreases-run_case
decreases-run_case l = 4 * (items_load l.items.now + other_load l.fallback.now) + 3
