use Rattle.std.proofs.Common.{◌≡◌, ◌-◌, ◌^◌, map, max, min, drop}
use Rattle.text_grammar.specs.Depth.{valuation_depth, greatest}
use Rattle.rtl_tree.specs.TreeItem.{valuation}
use Rattle.text_grammar.proofs.nesting.items.settings_depth.Given as goal

abbrev pub invariant-loop-setting : goal.invariant-loop-setting
invariant-loop-setting l =
    max l.most (min (greatest valuation_depth (map valuation (drop l.setting-index l.all))) (2 ^ 32 - 1))
    ≡ min (greatest valuation_depth (map valuation l.all)) (2 ^ 32 - 1)
