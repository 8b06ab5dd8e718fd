use Rattle.std.proofs.Common.{◌≡◌, ◌++◌, ℕ, map, drop}
use Rattle.std.specs.List.{flat_map}
use Rattle.rtl_flat.specs.Process.{task, watched}
use Rattle.check_readings.specs.Told.{item_told}
use Rattle.check_readings.proofs.lists.push_items.Given as goal

abbrev pub invariant-loop-item : goal.invariant-loop-item
invariant-loop-item l =
    (p : ℕ) → l.found.items ++ flat_map (item_told p (task l.process)) (map watched (drop l.item-index l.items))
    ≡ l.fn.found.items ++ flat_map (item_told p (task l.process)) (map watched l.items)
