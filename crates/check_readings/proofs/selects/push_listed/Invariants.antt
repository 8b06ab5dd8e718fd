use Rattle.std.proofs.Common.{◌≡◌, ◌++◌, map, drop}
use Rattle.std.specs.List.{flat_map}
use Rattle.rtl_flat.specs.Process.{watched}
use Rattle.rtl_rule.specs.Parts.{index_of}
use Rattle.check_parts.specs.Kept.{expressions}
use Rattle.check_readings.proofs.selects.push_listed.Given as goal

abbrev pub invariant-loop-item : goal.invariant-loop-item
invariant-loop-item l =
    expressions l.found.items ++ flat_map (λ item. index_of item.selection) (map watched (drop l.item-index l.items))
    ≡ expressions l.fn.found.items ++ flat_map (λ item. index_of item.selection) (map watched l.items)
