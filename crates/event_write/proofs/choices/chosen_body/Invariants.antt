use Rattle.std.proofs.Common.{◌≡◌, drop, length}
use Rattle.rtl_flat.specs.Value.{store}
use Rattle.rtl_scan.specs.Bodies.{branches_of}
use Rattle.event_write.specs.Choices.{AreMatched, chosen_body}
use Rattle.event_write.proofs.choices.chosen_body.Given as goal

abbrev pub invariant-loop-item : goal.invariant-loop-item
invariant-loop-item l =
    AreMatched l.signals (length l.selector) (drop l.item-index l.items)
    × (chosen_body l.kind (store l.values) l.selector (branches_of (drop l.item-index l.items)) ≡ chosen_body l.kind (store l.values) l.selector (branches_of l.items))
