use Rattle.std.proofs.Common.{◌≡◌, ℕ, ◌||◌, map, drop}
use Rattle.rtl_flat.specs.Signs.{width_in}
use Rattle.rtl_flat.specs.Process.{watched}
use Rattle.rtl_flat.specs.PathSets.{items_list}
use Rattle.rtl_scan.specs.Sets.{has}
use Rattle.rtl_scan.proofs.sets.listed_items.Given as goal

abbrev pub invariant-loop-item : goal.invariant-loop-item
invariant-loop-item l =
    (s k : ℕ) → (has l.bits.masks s k || items_list (width_in l.widths.signals.now) (map watched (drop l.item-index l.items)) s k) ≡ items_list (width_in l.widths.signals.now) (map watched l.items) s k
