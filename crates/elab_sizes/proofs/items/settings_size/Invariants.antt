use Rattle.std.proofs.Common.{◌≡◌, ◌≤◌, ◌+◌, ◌-◌, ◌^◌, map, min, drop}
use Rattle.elab_sizes.specs.Sizes.{valuation_size, sizes}
use Rattle.rtl_tree.specs.TreeItem.{valuation}
use Rattle.elab_sizes.proofs.items.settings_size.Given as goal

abbrev pub invariant-loop-setting : goal.invariant-loop-setting
invariant-loop-setting l =
    (min (l.sum + sizes valuation_size (map valuation (drop l.setting-index l.all))) (2 ^ 32 - 1) ≡ min (sizes valuation_size (map valuation l.all)) (2 ^ 32 - 1))
    × (l.sum ≤ 2 ^ 32 - 1)
