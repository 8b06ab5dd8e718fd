use Rattle.std.proofs.Common.{◌≡◌, drop, length}
use Rattle.rtl_flat.specs.Value.{store}
use Rattle.rtl_scan.specs.Bodies.{branches_of}
use Rattle.net_body.specs.Bodies.{AreMatched, chosen_body}
use Rattle.net_body.proofs.choices.chosen_body.Given as goal

abbrev pub invariant-loop-item : goal.invariant-loop-item
invariant-loop-item l =
    AreMatched l.design.signals.items (length l.selector) (drop l.item-index l.items)
    × (chosen_body l.fill (store l.numbers) l.kind l.selector (branches_of (drop l.item-index l.items)) ≡ chosen_body l.fill (store l.numbers) l.kind l.selector (branches_of l.items))
