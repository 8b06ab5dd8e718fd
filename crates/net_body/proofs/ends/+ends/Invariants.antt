use Rattle.std.proofs.Common.{◌≡◌, ◌+◌, ◌*◌, map, drop, true}
use Rattle.rtl_flat.specs.Process.{action, body_of}
use Rattle.rtl_flat.specs.Value.{store}
use Rattle.rtl_flat.specs.WellFormed.{IsBody, statements}
use Rattle.rtl_scan.specs.Bodies.{branches_of}
use Rattle.rtl_scan.specs.Loads.{load, other_load, items_load}
use Rattle.net_body.specs.Bodies.{AreBodies}
use Rattle.net_body.specs.Ends.{AreBeside, ending, ending_after}
use Rattle.net_body.specs.Marks.{AreKept}
use Rattle.net_body.specs.Named.{body_signals, branch_signals}
use Rattle.net_body.proofs.ends.+ends.Given as goal

abbrev pub invariant-end_all-loop-act : goal.invariant-end_all-loop-act
invariant-end_all-loop-act l =
    AreKept l.signals l.numbers l.marks
    × (l.aside ≡ true → AreBeside l.signals l.before l.after)
    × IsBody l.signals (body_of (map action (drop l.act-index l.acts)))
    × (ending_after l.aside (store l.before) (ending l.numbers l.marks l.after) (body_signals (body_of (map action (drop l.act-index l.acts))))
    ≡ ending_after l.aside (store l.before) (ending l.initial.numbers l.initial.marks l.initial.after) (body_signals (body_of (map action l.acts))))

abbrev pub invariant-end_items-loop-item : goal.invariant-end_items-loop-item
invariant-end_items-loop-item l =
    AreKept l.signals l.numbers l.marks
    × (l.aside ≡ true → AreBeside l.signals l.before l.after)
    × AreBodies l.signals (branches_of (drop l.item-index l.items))
    × (ending_after l.aside (store l.before) (ending l.numbers l.marks l.after) (branch_signals (branches_of (drop l.item-index l.items)))
    ≡ ending_after l.aside (store l.before) (ending l.initial.numbers l.initial.marks l.initial.after) (branch_signals (branches_of l.items)))

abbrev pub decreases-end_all : goal.decreases-end_all
decreases-end_all l = 4 * load l.acts.now + 1

abbrev pub decreases-end_act : goal.decreases-end_act
decreases-end_act l = 4 * statements (action l.act.now)

abbrev pub decreases-end_other : goal.decreases-end_other
decreases-end_other l = 4 * other_load l.body.now + 2

abbrev pub decreases-end_items : goal.decreases-end_items
decreases-end_items l = 4 * items_load l.items.now + 2
