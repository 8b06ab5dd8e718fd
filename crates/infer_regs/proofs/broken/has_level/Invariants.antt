use Rattle.std.proofs.Common.{◌≡◌, map, drop}
use Rattle.rtl_flat.specs.Process.{watched}
use Rattle.net_list.specs.check_sense.Sense.{has_item}
use Rattle.net_list.specs.check_sense.Telling.{level_in}
use Rattle.infer_regs.proofs.broken.has_level.Given as goal

abbrev pub invariant-loop-item : goal.invariant-loop-item
invariant-loop-item l =
    has_item (level_in (map watched (drop l.item-index l.events))) ≡ has_item (level_in (map watched l.events))
